-- How often pods of each index have failed: more failures raise what the failures before came to.
use Rattle.std.proofs.Common.{◌≡◌, ℕ, ◌+◌, ◌<◌, ◌≤◌, Bool, true, false, cond, eqb, ltb, ◌&&◌, ◌||◌, List, [], ◌∷◌, ◌++◌, map, filter, length, Option, Some, None, refl, sym, ap, ◌∙◌, subst, arith, eq-eqb, true≢false}
use Rattle.std.specs.List.{AllByRecursion as Each, list_any}
use Rattle.std.specs.Option.{option_map_or}
use Rattle.std.proofs.lemmas.Bool.{eqb-true, ltb-false, ltb-true, or_left}
use Rattle.std.proofs.lemmas.List.{length-append, length-map}
use Rattle.std.proofs.lemmas.List.Elements.{filter-append, filter_map-append}
use Rattle.std.proofs.lemmas.List.Folds.{list_any-append}
use Rattle.jc_ranges.specs.Sets.{IsIncreasing, has}
use Rattle.jc_types.specs.declared.numbers.Uid.{Uid}
use Rattle.jc_types.specs.declared.objects.Job.{Job}
use Rattle.jc_types.specs.declared.objects.Pod.{Pod}
use Rattle.jc_types.specs.declared.policies.FailurePolicy.{FailurePolicy}
use Rattle.jc_types.specs.declared.statuses.IndexCount.{IndexCount}
use Rattle.jc_types.proofs.ListFacts.{Each-map, Each-weaker, filter_same}
use Rattle.jc_states.specs.Indexes.{has_index}
use Rattle.jc_states.specs.Bases.{is_own, own_pods}
use Rattle.jc_states.specs.PodLists.{IsRising, RisesFrom}
use Rattle.jc_states.specs.UidLists.{is_in, join, uids_of}
use Rattle.jc_states.proofs.PodListFacts.{rises_filter}
use Rattle.jc_states.proofs.UidListFacts.{has-join}
use Rattle.jc_failpol.specs.declared.outcomes.Outcome.TheVariants.{Failed}
use Rattle.jc_failpol.specs.Outcomes.{same_outcome}
use Rattle.jc_account.specs.Accounts.{counted_in}
use Rattle.jc_account.specs.Judged.{newly}
use Rattle.jc_account.specs.Modes.{indexes_of}
use Rattle.jc_account.proofs.AccountFacts.{judged-failed}
use Rattle.jc_account.proofs.GainFacts.{has-below_all}
use Rattle.jc_account.proofs.JudgementFacts.{newly-is}
use Rattle.jc_account.proofs.ListedFacts.{each, has-indexes}
use Rattle.jc_account.proofs.Owned.{filter-least}
use Rattle.jc_states.proofs.PickedFacts.{picked_uids}
use Rattle.jc_perindex.specs.Failures.{count_at, failing_by, failing_in, failures_by, failures_in, failures_of, fails_at, newly_failed, policy_fails_index, raised, raised_at}
use Rattle.jc_ledger.specs.Ledger.{Ledger, Record, failed_pods, judged_as}
use Rattle.jc_ledger.specs.Once.{SaysFails}
use Rattle.jc_ledger.proofs.RoomFacts.{is_newly}
use Rattle.jc_perindex.proofs.Sets.{increasing-join as increases_join}

-- ---- increasing numbers

-- Increasing numbers of which just the same are members are the same.
same_increasing : (xs ys : List ℕ) → IsIncreasing xs → IsIncreasing ys → ((n : ℕ) → has n xs ≡ has n ys) → xs ≡ ys
same_increasing [] [] s t h = refl
same_increasing [] (y ∷ ys) s t h = absurd (true≢false (sym (h y ∙ or_left (eqb y y) (has y ys) (eq-eqb y y refl))))
same_increasing (x ∷ xs) [] s t h = absurd (true≢false (sym (or_left (eqb x x) (has x xs) (eq-eqb x x refl)) ∙ h x))
same_increasing (x ∷ xs) (y ∷ ys) s t h = by (eqb x y) refl (same_increasing xs ys s.1 t.1)
  where
    rest : x ≡ y → (n : ℕ) → has n xs ≡ has n ys
    rest e n = at (eqb x n) refl
      where
        at : (b : Bool) → eqb x n ≡ b → has n xs ≡ has n ys
        at true q =
            has-below_all n xs (subst (λ m. Each (λ k. m < k) xs) (eqb-true x n q) s.0)
            ∙ sym (has-below_all n ys (subst (λ m. Each (λ k. m < k) ys) (sym e ∙ eqb-true x n q) t.0))
        at false q =
            sym (ap (λ b. b || has n xs) q) ∙ h n ∙ ap (λ b. b || has n ys) (ap (λ m. eqb m n) (sym e) ∙ q)

    -- The lesser head is no member of the other list.
    lower : (m n : ℕ) (ms ns : List ℕ) → Each (λ k. n < k) ns → m < n → ((k : ℕ) → has k (m ∷ ms) ≡ has k (n ∷ ns)) → ⊥
    lower m n ms ns all lt same =
        true≢false
        (sym (or_left (eqb m m) (has m ms) (eq-eqb m m refl))
        ∙ same m
        ∙ has-below_all m (n ∷ ns) (lt, Each-weaker (λ k. n < k) (λ k. m < k) (λ k q. omega (arith, q, lt)) ns all))

    -- Of two that differ one is the lesser.
    beside : (m n : ℕ) → n ≤ m → (m ≡ n → ⊥) → n < m
    beside m n le ne = omega (arith, le, ne)

    by : (b : Bool) → eqb x y ≡ b → (((n : ℕ) → has n xs ≡ has n ys) → xs ≡ ys) → x ∷ xs ≡ y ∷ ys
    by true e ih = let is = eqb-true x y e in ap (λ m. m ∷ xs) is ∙ ap (λ l. y ∷ l) (ih (rest is))
    by false e ih = apart (ltb x y) refl
      where
        apart : (b : Bool) → ltb x y ≡ b → x ∷ xs ≡ y ∷ ys
        apart true l = absurd (lower x y xs ys t.0 (ltb-true x y l) h)
        apart false l =
            let le = ltb-false x y l in
            let ne : x ≡ y → ⊥ = λ q. true≢false (sym (eq-eqb x y q) ∙ e) in
            absurd (lower y x ys xs s.0 (beside x y le ne) (λ k. sym (h k)))

-- The members of both parts.
has-append : (n : ℕ) (xs ys : List ℕ) → has n (xs ++ ys) ≡ (has n xs || has n ys)
has-append n [] ys = refl
has-append n (x ∷ xs) ys = by (eqb x n) (has-append n xs ys)
  where
    by : (b : Bool) → has n (xs ++ ys) ≡ (has n xs || has n ys) → (b || has n (xs ++ ys)) ≡ ((b || has n xs) || has n ys)
    by true h = refl
    by false h = h

-- What joins at once joins one part after another.
join-parts : (xs ys : List ℕ) → join (join [] xs) ys ≡ join [] (xs ++ ys)
join-parts xs ys =
    same_increasing (join (join [] xs) ys) (join [] (xs ++ ys)) (increases_join (join [] xs) ys (increases_join [] xs tt)) (increases_join [] (xs ++ ys) tt)
    (λ n. has-join n (join [] xs) ys ∙ ap (λ b. b || has n ys) (has-join n [] xs) ∙ sym (has-join n [] (xs ++ ys) ∙ has-append n xs ys))

-- ---- counts of indexes

-- The count of the index among those of indexes.
count_found : (failure : Option FailurePolicy) (pods : List Pod) (n : ℕ) (indexes : List ℕ) → count_at n (map (raised_at failure [] pods) indexes) ≡ cond (has n indexes) (Some (raised_at failure [] pods n)) None
count_found failure pods n [] = refl
count_found failure pods n (m ∷ indexes) = by (eqb m n) refl (count_found failure pods n indexes)
  where
    by : (b : Bool) → eqb m n ≡ b → count_at n (map (raised_at failure [] pods) indexes) ≡ cond (has n indexes) (Some (raised_at failure [] pods n)) None
        → cond b (Some (raised_at failure [] pods m)) (count_at n (map (raised_at failure [] pods) indexes)) ≡ cond (b || has n indexes) (Some (raised_at failure [] pods n)) None
    by true e h = ap (λ k. Some (raised_at failure [] pods k)) (eqb-true m n e)
    by false e h = h

-- None has an index where none of them is it.
none_has : (test : Pod → Bool) (pods : List Pod) → list_any test pods ≡ false → filter test pods ≡ []
none_has test [] h = refl
none_has test (pod ∷ pods) h = by (test pod) h (none_has test pods)
  where
    by : (b : Bool) → (b || list_any test pods) ≡ false → (list_any test pods ≡ false → filter test pods ≡ []) → cond b (pod ∷ filter test pods) (filter test pods) ≡ []
    by true h ih = absurd (true≢false h)
    by false h ih = ih h

none_weaker : (test other : Pod → Bool) (pods : List Pod) → list_any test pods ≡ false → list_any (λ pod. test pod && other pod) pods ≡ false
none_weaker test other [] h = refl
none_weaker test other (pod ∷ pods) h = by (test pod) h (none_weaker test other pods)
  where
    by : (b : Bool) → (b || list_any test pods) ≡ false → (list_any test pods ≡ false → list_any (λ p. test p && other p) pods ≡ false) → ((b && other pod) || list_any (λ p. test p && other p) pods) ≡ false
    by true h ih = absurd (true≢false h)
    by false h ih = ih h

module _ (failure : Option FailurePolicy) (old new : List Pod) where
  -- The counts that the old failures come to.
  abbrev before : List IndexCount
  before = raised failure [] old

  abbrev indexes : List ℕ
  indexes = join [] (indexes_of old)

  has_indexes : (n : ℕ) → has n indexes ≡ list_any (has_index n) old
  has_indexes n = has-join n [] (indexes_of old) ∙ has-indexes n old

  failures_before : (n : ℕ) → failures_of n before ≡ length (filter (has_index n) old)
  failures_before n =
      ap (λ (o : Option IndexCount). option_map_or (λ (count : IndexCount). count.failures) o 0) (count_found failure old n indexes)
      ∙ by (has n indexes) refl
    where
      by : (b : Bool) → has n indexes ≡ b → option_map_or (λ (count : IndexCount). count.failures) (cond b (Some (raised_at failure [] old n)) None) 0 ≡ length (filter (has_index n) old)
      by true e = omega arith
      by false e = sym (ap length (none_has (has_index n) old (sym (has_indexes n) ∙ e)))

  fails_before : (n : ℕ) → fails_at n before ≡ list_any (λ pod. has_index n pod && policy_fails_index failure pod) old
  fails_before n =
      ap (λ (o : Option IndexCount). option_map_or (λ (count : IndexCount). count.fail) o false) (count_found failure old n indexes)
      ∙ by (has n indexes) refl
    where
      by : (b : Bool) → has n indexes ≡ b → option_map_or (λ (count : IndexCount). count.fail) (cond b (Some (raised_at failure [] old n)) None) false ≡ list_any (λ pod. has_index n pod && policy_fails_index failure pod) old
      by true e = refl
      by false e = sym (none_weaker (has_index n) (policy_fails_index failure) old (sym (has_indexes n) ∙ e))

  raised_both : (n : ℕ) → raised_at failure before new n ≡ raised_at failure [] (old ++ new) n
  raised_both n =
      let number : failures_of n before + length (filter (has_index n) new) ≡ 0 + length (filter (has_index n) (old ++ new)) =
      (let was = failures_before n in
      let parts = ap length (filter-append (has_index n) old new) in
      let sum = length-append (filter (has_index n) old) (filter (has_index n) new) in
      omega (arith, was, parts, sum)) in
      let fails : (fails_at n before || list_any (λ pod. has_index n pod && policy_fails_index failure pod) new) ≡ list_any (λ pod. has_index n pod && policy_fails_index failure pod) (old ++ new) =
      ap (λ b. b || list_any (λ pod. has_index n pod && policy_fails_index failure pod) new) (fails_before n)
      ∙ sym (list_any-append (λ pod. has_index n pod && policy_fails_index failure pod) old new) in
      λ i. record { index = n; failures = number i; fail = fails i }

  -- The indexes of counts are those that they were made for.
  indexes_before : (ns : List ℕ) → map (λ (count : IndexCount). count.index) (map (raised_at failure [] old) ns) ≡ ns
  indexes_before [] = refl
  indexes_before (n ∷ ns) = ap (λ rest. n ∷ rest) (indexes_before ns)

  -- More failures raise what the failures before came to.
  pub raised-more : raised failure before new ≡ raised failure [] (old ++ new)
  raised-more =
      ap (λ ns. map (raised_at failure before new) (join ns (indexes_of new))) (indexes_before indexes)
      ∙ ap (map (raised_at failure before new)) (join-parts (indexes_of old) (indexes_of new) ∙ ap (join []) (sym (filter_map-append (λ (pod : Pod). pod.index) old new)))
      ∙ ap (λ f. map f (join [] (indexes_of (old ++ new)))) (λ i n. raised_both n i)

-- ---- the pods that are newly judged as failed

-- Of rising pods those of the UIDs that pass are those that pass.
pub newly_failed-is : (test : Pod → Bool) (low : ℕ) (pods : List Pod) → RisesFrom low pods → newly_failed pods (uids_of (filter test pods)) ≡ filter test pods
newly_failed-is test low pods r = filter_same (λ pod. is_in pod.uid (uids_of (filter test pods))) test pods (picked_uids test low pods r)

-- What a sync says of the failures of each index.
pub failures-in : (job : Job) (own : List Pod) (uids : List Uid) → failures_in job own uids ≡ failures_by job.spec.per_index job (newly_failed own uids)
unfolding failures_in
failures-in job own uids = refl

pub failing-in : (job : Job) (completed : List ℕ) (own : List Pod) (uids : List Uid) → failing_in job completed own uids ≡ failing_by job.spec.per_index job completed (newly_failed own uids)
unfolding failing_in
failing-in job completed own uids = refl

-- The pods that are newly judged as failed are those of the UIDs that a sync counts.
pub judged-failed-pods : (job : Job) (pods : List Pod) → IsRising pods → newly_failed (own_pods job pods) (counted_in job pods).judged_failed ≡ newly job (own_pods job pods) Failed
judged-failed-pods job pods rises =
    let own = own_pods job pods in
    ap (newly_failed own) (judged-failed job pods ∙ ap uids_of (newly-is job own Failed refl))
    ∙ newly_failed-is (is_newly job own Failed) 0 own (rises_filter 0 (is_own job) pods rises)
    ∙ sym (newly-is job own Failed refl)

-- ---- what a status says

-- The counts of a status ascend by index,
pub says-counts : (limit : Option ℕ) (job : Job) (ledger : Ledger) → SaysFails limit job ledger → IsIncreasing (map (λ (count : IndexCount). count.index) job.status.index_failures)
says-counts None job ledger says = subst (λ counts. IsIncreasing (map (λ (count : IndexCount). count.index) counts)) (sym says.0) tt
says-counts (Some limit) job ledger says =
    let pods = failed_pods ledger.records in
    subst (λ counts. IsIncreasing (map (λ (count : IndexCount). count.index) counts)) (sym says.0)
    (subst IsIncreasing (sym (indexes_before job.spec.failure pods [] (join [] (indexes_of pods)))) (increases_join [] (indexes_of pods) tt))

-- and each is at most the number of the records.
pub says-few : (limit : Option ℕ) (job : Job) (ledger : Ledger) (n : ℕ) → length ledger.records ≤ n → SaysFails limit job ledger → Each (λ (count : IndexCount). count.failures ≤ n) job.status.index_failures
says-few None job ledger n few says = subst (Each (λ (count : IndexCount). count.failures ≤ n)) (sym says.0) tt
says-few (Some limit) job ledger n few says =
    let pods = failed_pods ledger.records in
    subst (Each (λ (count : IndexCount). count.failures ≤ n)) (sym says.0)
    (Each-map (raised_at job.spec.failure [] pods) (λ (count : IndexCount). count.failures ≤ n) (join [] (indexes_of pods))
    (each (λ m. (raised_at job.spec.failure [] pods m).failures ≤ n) (λ m. one m) (join [] (indexes_of pods))))
  where
    one : (m : ℕ) → (raised_at job.spec.failure [] (failed_pods ledger.records) m).failures ≤ n
    one m =
        let some = filter-least (has_index m) (failed_pods ledger.records) in
        let all = length-map (judged_as Failed ledger.records) (λ (r : Record). r.pod) in
        let judged = filter-least (λ (r : Record). same_outcome r.outcome Failed) ledger.records in
        omega (arith, some, all, judged, few)
