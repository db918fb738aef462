-- The counts that are raised pod by pod are those with the failures of all the pods.
use Rattle.std.proofs.Common.{◌≡◌, ℕ, ◌+◌, ◌<◌, ◌≤◌, suc, Bool, true, false, not, cond, eqb, ltb, ◌&&◌, ◌||◌, List, [], ◌∷◌, map, filter, length, length-drop, get_or, drop, drop-cons, add-one, Option, Some, None, refl, ap, sym, ◌∙◌, subst}
use Rattle.std.proofs.Common.{arith, true≢false}
use Rattle.std.specs.List.{All, AllByRecursion as Each, cons_option, list_any}
use Rattle.std.specs.Option.{option_map_or}
use Rattle.std.proofs.lemmas.Bool.{eqb-true, eqb-false, eq-eqb, ltb-true, ltb-false}
use Rattle.std.proofs.lemmas.List.Elements.{All-from_recursion, recursion_from_All}
use Rattle.std.proofs.lemmas.List.Filters.{length-filter_both}
use Rattle.jc_ranges.specs.Sets.{IsIncreasing, has, with_member}
use Rattle.jc_types.specs.declared.objects.Pod.{Pod}
use Rattle.jc_types.specs.declared.policies.FailurePolicy.{FailurePolicy}
use Rattle.jc_types.specs.declared.statuses.IndexCount.{IndexCount}
use Rattle.jc_states.specs.Indexes.{has_index}
use Rattle.jc_states.specs.UidLists.{join}
use Rattle.jc_states.proofs.UidListFacts.{has-join}
use Rattle.jc_account.specs.Modes.{indexes_of}
use Rattle.jc_perindex.specs.Failures.{count_at, fails_at, failures_of, policy_fails_index, raised, raised_at}
use Rattle.jc_perindex.specs.FillingSteps.{one_failure, raise, raise_each, raise_for, with_failure}
use Rattle.jc_perindex.proofs.Sets.{increasing-join, with-before, with-behind, with-here}

-- ---- one index more

-- Where h is g with one failure more at n, the counts of the set with n are those of the set, raised.
module _ (g h : ℕ → IndexCount) (n : ℕ) (f : Bool) (index : (k : ℕ) → (g k).index ≡ k) (same : (k : ℕ) → eqb k n ≡ false → h k ≡ g k) (here : h n ≡ with_failure f (g n)) where
  all-same : (ks : List ℕ) → Each (λ k. n < k) ks → map h ks ≡ map g ks
  all-same [] above = refl
  all-same (k ∷ ks) above = ap (λ c. c ∷ map h ks) (same k (differ (eqb k n) refl)) ∙ ap (λ cs. g k ∷ cs) (all-same ks above.1)
    where
      differ : (b : Bool) → eqb k n ≡ b → eqb k n ≡ false
      differ true e = absurd (omega (arith, above.0, eqb-true k n e))
      differ false e = e

  pub raised-with : (ks : List ℕ) → IsIncreasing ks → (has n ks ≡ false → h n ≡ one_failure n f) → map h (with_member n ks) ≡ raise n f (map g ks)
  raised-with [] up new = ap (λ c. c ∷ []) (new refl)
  raised-with (k ∷ ks) up new = by (ltb n k) refl (eqb n k) refl (raised-with ks up.1) new
    where
      tests : (b e : Bool) → ltb n k ≡ b → eqb n k ≡ e → cond b (one_failure n f ∷ g k ∷ map g ks) (cond e (with_failure f (g k) ∷ map g ks) (g k ∷ raise n f (map g ks))) ≡ raise n f (map g (k ∷ ks))
      tests b e p q =
          ap (λ x. cond x (one_failure n f ∷ g k ∷ map g ks) (cond e (with_failure f (g k) ∷ map g ks) (g k ∷ raise n f (map g ks)))) (sym p ∙ ap (ltb n) (sym (index k)))
          ∙ ap (λ x. cond (ltb n (g k).index) (one_failure n f ∷ g k ∷ map g ks) (cond x (with_failure f (g k) ∷ map g ks) (g k ∷ raise n f (map g ks)))) (sym q ∙ ap (eqb n) (sym (index k)))

      by : (b : Bool) → ltb n k ≡ b → (e : Bool) → eqb n k ≡ e
          → ((has n ks ≡ false → h n ≡ one_failure n f) → map h (with_member n ks) ≡ raise n f (map g ks))
          → (has n (k ∷ ks) ≡ false → h n ≡ one_failure n f)
          → map h (with_member n (k ∷ ks)) ≡ raise n f (map g (k ∷ ks))
      by true p e q ih new =
          ap (map h) (with-before n k ks (ltb-true n k p) up)
          ∙ ap (λ c. c ∷ map h (k ∷ ks)) (new (none ks (λ x l. omega (arith, l, ltb-true n k p)) (differ (eqb k n) refl) up.0))
          ∙ ap (λ cs. one_failure n f ∷ cs) (all-same (k ∷ ks) (ltb-true n k p, above ks up.0))
          ∙ tests true e p q
        where
          differ : (b : Bool) → eqb k n ≡ b → eqb k n ≡ false
          differ true d = absurd (omega (arith, ltb-true n k p, eqb-true k n d))
          differ false d = d

          above : (xs : List ℕ) → Each (λ x. k < x) xs → Each (λ x. n < x) xs
          above [] a = tt
          above (x ∷ xs) a = (omega (arith, ltb-true n k p, a.0), above xs a.1)

          none : (xs : List ℕ) → ((x : ℕ) → k < x → n < x) → eqb k n ≡ false → Each (λ x. k < x) xs → (eqb k n || has n xs) ≡ false
          none xs more d a = ap (λ b. b || has n xs) d ∙ later xs a
            where
              later : (xs : List ℕ) → Each (λ x. k < x) xs → has n xs ≡ false
              later [] a = refl
              later (x ∷ xs) a = ap (λ b. b || has n xs) (one (eqb x n) refl) ∙ later xs a.1
                where
                  one : (b : Bool) → eqb x n ≡ b → eqb x n ≡ false
                  one true d = absurd (omega (arith, more x a.0, eqb-true x n d))
                  one false d = d
      by false p true q ih new =
          ap (map h) (with-here n k ks (eqb-true n k q) up)
          ∙ ap (λ c. c ∷ map h ks) here
          ∙ ap (λ cs. with_failure f (g n) ∷ cs) (all-same ks (above ks up.0))
          ∙ ap (λ m. with_failure f (g m) ∷ map g ks) (eqb-true n k q)
          ∙ tests false true p q
        where
          above : (xs : List ℕ) → Each (λ x. k < x) xs → Each (λ x. n < x) xs
          above [] a = tt
          above (x ∷ xs) a = (omega (arith, eqb-true n k q, a.0), above xs a.1)
      by false p false q ih new =
          ap (map h) (with-behind n k ks (below (eqb k n) refl))
          ∙ ap (λ c. c ∷ map h (with_member n ks)) (same k (differ (eqb k n) refl))
          ∙ ap (λ cs. g k ∷ cs) (ih (λ e. new (ap (λ b. b || has n ks) (differ (eqb k n) refl) ∙ e)))
          ∙ tests false false p q
        where
          differ : (b : Bool) → eqb k n ≡ b → eqb k n ≡ false
          differ true d = absurd (eqb-false n k q (sym (eqb-true k n d)))
          differ false d = d

          below : (b : Bool) → eqb k n ≡ b → k < n
          below true d = absurd (eqb-false n k q (sym (eqb-true k n d)))
          below false d = omega (arith, ltb-false n k p, eqb-false k n d)

-- ---- what is said of an index

-- An index that is not among the counts had no failure.
absent : (n : ℕ) (counts : List IndexCount) → has n (map (λ (c : IndexCount). c.index) counts) ≡ false → count_at n counts ≡ None
absent n [] e = refl
absent n (c ∷ counts) e = by (eqb c.index n) e (absent n counts)
  where
    by : (b : Bool) → (b || has n (map (λ (x : IndexCount). x.index) counts)) ≡ false → (has n (map (λ (x : IndexCount). x.index) counts) ≡ false → count_at n counts ≡ None) → cond b (Some c) (count_at n counts) ≡ None
    by true h ih = absurd (true≢false h)
    by false h ih = ih h

-- An index that no pod has no pod raises.
none-have : (failure : Option FailurePolicy) (n : ℕ) (pods : List Pod) → has n (indexes_of pods) ≡ false
    → (length (filter (has_index n) pods) ≡ 0) × (list_any (λ pod. has_index n pod && policy_fails_index failure pod) pods ≡ false)
none-have failure n [] e = (refl, refl)
none-have failure n (pod ∷ pods) e = by pod.index e (none-have failure n pods)
  where
    by : (index : Option ℕ) → has n (cons_option index (indexes_of pods)) ≡ false
        → (has n (indexes_of pods) ≡ false → (length (filter (has_index n) pods) ≡ 0) × (list_any (λ p. has_index n p && policy_fails_index failure p) pods ≡ false))
        → (length (cond (option_map_or (λ i. eqb i n) index false) (pod ∷ filter (has_index n) pods) (filter (has_index n) pods)) ≡ 0)
        × (((option_map_or (λ i. eqb i n) index false && policy_fails_index failure pod) || list_any (λ p. has_index n p && policy_fails_index failure p) pods) ≡ false)
    by None h ih = ih h
    by (Some i) h ih = one (eqb i n) h
      where
        one : (b : Bool) → (b || has n (indexes_of pods)) ≡ false
            → (length (cond b (pod ∷ filter (has_index n) pods) (filter (has_index n) pods)) ≡ 0)
            × (((b && policy_fails_index failure pod) || list_any (λ p. has_index n p && policy_fails_index failure p) pods) ≡ false)
        one true g = absurd (true≢false g)
        one false g = ih g

module _ (failure : Option FailurePolicy) (counts : List IndexCount) (up : IsIncreasing (map (λ (c : IndexCount). c.index) counts)) where
  keys : List Pod → List ℕ
  keys pods = join (map (λ (c : IndexCount). c.index) counts) (indexes_of pods)

  -- A pod raises the count of its index.
  one-more : (pod : Pod) (pods : List Pod) → raised failure counts (pod ∷ pods) ≡ raise_for failure pod (raised failure counts pods)
  one-more pod pods = by pod.index refl
    where
      fails : Bool
      fails = policy_fails_index failure pod

      at : Option ℕ → ℕ → IndexCount
      at index n = record {
        index = n;
        failures = failures_of n counts + length (cond (option_map_or (λ i. eqb i n) index false) (pod ∷ filter (has_index n) pods) (filter (has_index n) pods));
        fail = fails_at n counts || ((option_map_or (λ i. eqb i n) index false && policy_fails_index failure pod) || list_any (λ p. has_index n p && policy_fails_index failure p) pods);
      }

      by : (index : Option ℕ) → pod.index ≡ index
          → map (at index) (join (map (λ (c : IndexCount). c.index) counts) (cons_option index (indexes_of pods)))
          ≡ option_map_or (λ n. raise n (policy_fails_index failure pod) (raised failure counts pods)) index (raised failure counts pods)
      by None is = refl
      by (Some n) is =
          raised-with (raised_at failure counts pods) (at (Some n)) n (policy_fails_index failure pod) (λ k. refl) other here (join (map (λ (c : IndexCount). c.index) counts) (indexes_of pods))
          (increasing-join (map (λ (c : IndexCount). c.index) counts) (indexes_of pods) up) new
        where
          other : (k : ℕ) → eqb k n ≡ false → at (Some n) k ≡ raised_at failure counts pods k
          other k e =
              ap (λ b. record {
                index = k;
                failures = failures_of k counts + length (cond b (pod ∷ filter (has_index k) pods) (filter (has_index k) pods));
                fail = fails_at k counts || ((b && policy_fails_index failure pod) || list_any (λ p. has_index k p && policy_fails_index failure p) pods);
              }) (turned (eqb n k) refl)
            where
              turned : (b : Bool) → eqb n k ≡ b → eqb n k ≡ false
              turned true d = absurd (eqb-false k n e (sym (eqb-true n k d)))
              turned false d = d

          order : (a f l : Bool) → (a || (f || l)) ≡ ((a || l) || f)
          order true f l = refl
          order false true true = refl
          order false true false = refl
          order false false true = refl
          order false false false = refl

          there : at (Some n) n ≡ record {
            index = n;
            failures = failures_of n counts + length (pod ∷ filter (has_index n) pods);
            fail = fails_at n counts || (policy_fails_index failure pod || list_any (λ p. has_index n p && policy_fails_index failure p) pods);
          }
          there =
              ap (λ b. record {
                index = n;
                failures = failures_of n counts + length (cond b (pod ∷ filter (has_index n) pods) (filter (has_index n) pods));
                fail = fails_at n counts || ((b && policy_fails_index failure pod) || list_any (λ p. has_index n p && policy_fails_index failure p) pods);
              }) (eq-eqb n n refl)

          here : at (Some n) n ≡ with_failure (policy_fails_index failure pod) (raised_at failure counts pods n)
          here =
              there
              ∙ (λ i. record {
                index = n;
                failures = more i;
                fail = order (fails_at n counts) (policy_fails_index failure pod) (list_any (λ p. has_index n p && policy_fails_index failure p) pods) i;
              })
            where
              more : failures_of n counts + length (pod ∷ filter (has_index n) pods) ≡ failures_of n counts + length (filter (has_index n) pods) + 1
              more = omega arith

          new : has n (join (map (λ (c : IndexCount). c.index) counts) (indexes_of pods)) ≡ false → at (Some n) n ≡ one_failure n (policy_fails_index failure pod)
          new e =
              let both = neither (has n (map (λ (c : IndexCount). c.index) counts)) (has n (indexes_of pods)) (sym (has-join n (map (λ (c : IndexCount). c.index) counts) (indexes_of pods)) ∙ e) in
              let no = absent n counts both.0 in
              let rest = none-have failure n pods both.1 in
              let count : failures_of n counts + length (pod ∷ filter (has_index n) pods) ≡ 1 =
              omega (arith, rest.0, ap (λ o. option_map_or (λ (c : IndexCount). c.failures) o 0) no) in
              let mark : (fails_at n counts || (policy_fails_index failure pod || list_any (λ p. has_index n p && policy_fails_index failure p) pods)) ≡ policy_fails_index failure pod =
              ap (λ o. option_map_or (λ (c : IndexCount). c.fail) o false || (policy_fails_index failure pod || list_any (λ p. has_index n p && policy_fails_index failure p) pods)) no
              ∙ ap (λ l. policy_fails_index failure pod || l) rest.1 ∙ last (policy_fails_index failure pod) in
              there ∙ (λ i. record { index = n; failures = count i; fail = mark i })
            where
              neither : (a b : Bool) → (a || b) ≡ false → (a ≡ false) × (b ≡ false)
              neither true b h = absurd (true≢false h)
              neither false b h = (refl, h)

              last : (b : Bool) → (b || false) ≡ b
              last true = refl
              last false = refl

  -- Where none fails nothing changes.
  pub none-raised : raised failure counts [] ≡ counts
  none-raised = all counts up
    where
      at : List IndexCount → ℕ → IndexCount
      at cs n = record { index = n; failures = failures_of n cs + 0; fail = fails_at n cs || false }

      bare : (c : IndexCount) → record { index = c.index; failures = c.failures + 0; fail = c.fail || false } ≡ c
      bare c = λ i. record { index = c.index; failures = zero_more i; fail = last c.fail i }
        where
          zero_more : c.failures + 0 ≡ c.failures
          zero_more = omega arith

          last : (b : Bool) → (b || false) ≡ b
          last true = refl
          last false = refl

      -- The counts of the indexes are the counts.
      all : (cs : List IndexCount) → IsIncreasing (map (λ (c : IndexCount). c.index) cs) → map (at cs) (map (λ (c : IndexCount). c.index) cs) ≡ cs
      all [] rises = refl
      all (c ∷ cs) rises =
          ap (λ x. x ∷ map (at (c ∷ cs)) (map (λ (d : IndexCount). d.index) cs))
          (ap (λ b. record {
            index = c.index;
            failures = option_map_or (λ (d : IndexCount). d.failures) (cond b (Some c) (count_at c.index cs)) 0 + 0;
            fail = option_map_or (λ (d : IndexCount). d.fail) (cond b (Some c) (count_at c.index cs)) false || false;
          }) (eq-eqb c.index c.index refl) ∙ bare c)
          ∙ ap (λ xs. c ∷ xs) (later (map (λ (d : IndexCount). d.index) cs) rises.0 ∙ all cs rises.1)
        where
          later : (ns : List ℕ) → Each (λ n. c.index < n) ns → map (at (c ∷ cs)) ns ≡ map (at cs) ns
          later [] above = refl
          later (n ∷ ns) above =
              ap (λ b. record {
                index = n;
                failures = option_map_or (λ (d : IndexCount). d.failures) (cond b (Some c) (count_at n cs)) 0 + 0;
                fail = option_map_or (λ (d : IndexCount). d.fail) (cond b (Some c) (count_at n cs)) false || false;
              } ∷ map (at (c ∷ cs)) ns) (differ (eqb c.index n) refl)
              ∙ ap (λ xs. at cs n ∷ xs) (later ns above.1)
            where
              differ : (b : Bool) → eqb c.index n ≡ b → eqb c.index n ≡ false
              differ true d = absurd (omega (arith, above.0, eqb-true c.index n d))
              differ false d = d

  pub each-raised : (pods : List Pod) → raise_each failure counts pods ≡ raised failure counts pods
  each-raised [] = sym none-raised
  each-raised (pod ∷ pods) = ap (raise_for failure pod) (each-raised pods) ∙ sym (one-more pod pods)

  -- They stand in ascending index.
  pub raised-ascends : (pods : List Pod) → IsIncreasing (map (λ (c : IndexCount). c.index) (raised failure counts pods))
  raised-ascends pods =
      subst IsIncreasing (sym (named (join (map (λ (c : IndexCount). c.index) counts) (indexes_of pods))))
      (increasing-join (map (λ (c : IndexCount). c.index) counts) (indexes_of pods) up)
    where
      named : (ns : List ℕ) → map (λ (c : IndexCount). c.index) (map (raised_at failure counts pods) ns) ≡ ns
      named [] = refl
      named (n ∷ ns) = ap (λ xs. n ∷ xs) (named ns)

-- ---- the counts stay small

raise-few : (k m n : ℕ) (f : Bool) (counts : List IndexCount) → Each (λ (c : IndexCount). c.failures + suc k < m) counts → suc k < m → Each (λ (c : IndexCount). c.failures + k < m) (raise n f counts)
raise-few k m n f [] h fits = (omega (arith, fits), tt)
raise-few k m n f (c ∷ counts) h fits = by (ltb n c.index) (eqb n c.index) (raise-few k m n f counts h.1 fits)
  where
    fewer : (cs : List IndexCount) → Each (λ (c : IndexCount). c.failures + suc k < m) cs → Each (λ (c : IndexCount). c.failures + k < m) cs
    fewer [] a = tt
    fewer (x ∷ cs) a = (omega (arith, a.0), fewer cs a.1)

    by : (b e : Bool) → Each (λ (c : IndexCount). c.failures + k < m) (raise n f counts)
        → Each (λ (c : IndexCount). c.failures + k < m) (cond b (one_failure n f ∷ c ∷ counts) (cond e (with_failure f c ∷ counts) (c ∷ raise n f counts)))
    by true e ih = (omega (arith, fits), (omega (arith, h.0), fewer counts h.1))
    by false true ih = (omega (arith, h.0), fewer counts h.1)
    by false false ih = (omega (arith, h.0), ih)

raised-few : (k m : ℕ) (failure : Option FailurePolicy) (counts : List IndexCount) (pods : List Pod) → Each (λ (c : IndexCount). c.failures + (length pods + k) < m) counts → length pods + k < m
    → Each (λ (c : IndexCount). c.failures + k < m) (raise_each failure counts pods)
raised-few k m failure counts [] h fits = shorter counts h
  where
    shorter : (cs : List IndexCount) → Each (λ (c : IndexCount). c.failures + (0 + k) < m) cs → Each (λ (c : IndexCount). c.failures + k < m) cs
    shorter [] a = tt
    shorter (x ∷ cs) a = (omega (arith, a.0), shorter cs a.1)
raised-few k m failure counts (pod ∷ pods) h fits = by pod.index (raised-few (suc k) m failure counts pods (turned counts h) (omega (arith, fits)))
  where
    turned : (cs : List IndexCount) → Each (λ (c : IndexCount). c.failures + (length (pod ∷ pods) + k) < m) cs → Each (λ (c : IndexCount). c.failures + (length pods + suc k) < m) cs
    turned [] a = tt
    turned (x ∷ cs) a = (omega (arith, a.0), turned cs a.1)

    fewer : (cs : List IndexCount) → Each (λ (c : IndexCount). c.failures + suc k < m) cs → Each (λ (c : IndexCount). c.failures + k < m) cs
    fewer [] a = tt
    fewer (x ∷ cs) a = (omega (arith, a.0), fewer cs a.1)

    by : (index : Option ℕ) → Each (λ (c : IndexCount). c.failures + suc k < m) (raise_each failure counts pods)
        → Each (λ (c : IndexCount). c.failures + k < m) (option_map_or (λ n. raise n (policy_fails_index failure pod) (raise_each failure counts pods)) index (raise_each failure counts pods))
    by None ih = fewer (raise_each failure counts pods) ih
    by (Some n) ih = raise-few k m n (policy_fails_index failure pod) (raise_each failure counts pods) ih (omega (arith, fits))

-- One failure more fits, where not all pods are counted yet.
pub one-fits : (n m : ℕ) (failure : Option FailurePolicy) (counts : List IndexCount) (pods : List Pod) → length pods < n → n < m → All (λ (c : IndexCount). c.failures + n < m) counts
    → All (λ (c : IndexCount). c.failures + 1 < m) (raise_each failure counts pods)
one-fits n m failure counts pods few small fit =
    All-from_recursion (λ (c : IndexCount). c.failures + 1 < m) (raise_each failure counts pods)
    (raised-few 1 m failure counts pods (fewer counts (recursion_from_All (λ (c : IndexCount). c.failures + n < m) counts fit)) (omega (arith, few, small)))
  where
    fewer : (cs : List IndexCount) → Each (λ (c : IndexCount). c.failures + n < m) cs → Each (λ (c : IndexCount). c.failures + (length pods + 1) < m) cs
    fewer [] a = tt
    fewer (x ∷ cs) a = (omega (arith, a.0, few), fewer cs a.1)

-- ---- pod by pod, from the last on

-- There are fewer behind a place than there are.
pub fewer-behind : (test : Pod → Bool) (pods : List Pod) (j : ℕ) → 0 < j → j ≤ length pods → length (filter test (drop j pods)) < length pods
fewer-behind test pods j some within =
    omega (arith, some, within, length-filter_both test (λ p. not (test p)) (λ p. refl) (drop j pods), length-drop j pods)

module _ (failure : Option FailurePolicy) (counts : List IndexCount) (test : Pod → Bool) (pods : List Pod) (i j : ℕ) (pod d : Pod) (next : i + 1 ≡ j) (within : i < length pods) (is : pod ≡ get_or pods i d) where
  split : drop i pods ≡ pod ∷ drop j pods
  split = drop-cons pods i d within ∙ ap (λ p. p ∷ drop (suc i) pods) (sym is) ∙ ap (λ k. pod ∷ drop k pods) (sym (add-one i) ∙ next)

  -- The failure of the pod at a place comes after those of the pods behind it.
  pub raised-next : test pod ≡ true → raise_for failure pod (raise_each failure counts (filter test (drop j pods))) ≡ raise_each failure counts (filter test (drop i pods))
  raised-next e =
      ap (λ b. raise_each failure counts (cond b (pod ∷ filter test (drop j pods)) (filter test (drop j pods)))) (sym e)
      ∙ ap (λ ps. raise_each failure counts (filter test ps)) (sym split)
