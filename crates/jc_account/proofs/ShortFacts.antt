-- Where a sync goes over less: what is known of lists that ascend and of a list in two parts, where nothing is listed, and of
-- pods that are all judged alike.
use Rattle.std.proofs.Common.{◌≡◌, ℕ, ◌+◌, suc, Bool, true, false, not, cond, ltb, ◌&&◌, ◌||◌, List, [], ◌∷◌, length, filter, take, drop, Some, None, is_some, refl, ap, sym, ◌∙◌, arith, true≢false}
use Rattle.std.specs.List.{AllByRecursion as Each, list_any, position, position_or_len}
use Rattle.std.proofs.lemmas.Bool.{lt-ltb}
use Rattle.std.proofs.lemmas.List.{length-map, take-append-drop}
use Rattle.std.proofs.lemmas.List.Folds.{list_any-append}
use Rattle.jc_types.specs.declared.numbers.Uid.{Uid}
use Rattle.jc_types.specs.declared.objects.Job.{Job}
use Rattle.jc_types.specs.declared.objects.Pod.{Pod}
use Rattle.jc_types.specs.Keys.{same_uid}
use Rattle.jc_types.proofs.ListFacts.{Each-weaker, filter_filter, filter_none, filter_same}
use Rattle.jc_states.specs.Bases.{is_own, own_pods}
use Rattle.jc_states.specs.Listed.{is_listed}
use Rattle.jc_states.specs.Pods.{is_tracked}
use Rattle.jc_states.specs.UidLists.{Ascends, AscendsFrom, is_in, merge, uids_of, with_uid}
use Rattle.jc_failpol.specs.declared.outcomes.Outcome.{Outcome}
use Rattle.jc_failpol.specs.declared.outcomes.Outcome.TheVariants.{Alive, Succeeded, Failed, Ignored}
use Rattle.jc_failpol.specs.Outcomes.{is_verdict, outcome_of, same_outcome}
use Rattle.jc_account.specs.Accounts.{new_uids}
use Rattle.jc_account.specs.Judged.{candidates, fits, is_candidate, is_new, is_staying, is_to_release, left_with, newly, to_release}
use Rattle.jc_account.proofs.JudgementFacts.{newly-is}
use Rattle.jc_account.proofs.ListedFacts.{each}
use Rattle.jc_account.proofs.Owned.{filter-least}
use Rattle.jc_account.proofs.RoomFacts.{kind-split, one-more}

-- ---- lists

-- Ascending UIDs that join none are as they were.
merged-from : (low : ℕ) (more : List Uid) → AscendsFrom low more → more ≡ merge [] more
merged-from low [] up = refl
merged-from low (u ∷ []) up = refl
merged-from low (u ∷ v ∷ more) up =
    sym (ap (λ b. cond b (u ∷ v ∷ more) (cond (same_uid u v) (v ∷ more) (v ∷ with_uid u more))) (lt-ltb u.0 v.0 (omega (arith, up.1.0))))
    ∙ ap (with_uid u) (merged-from (u.0 + 1) (v ∷ more) up.1)

pub merged-none : (uids more : List Uid) → uids ≡ [] → Ascends more → more ≡ merge uids more
merged-none uids more none up = merged-from 0 more up ∙ ap (λ us. merge us more) (sym none)

-- A UID is in a list where it is in one of two parts.
pub in-parts : (u : Uid) (uids : List Uid) (i : ℕ) → is_in u uids ≡ (is_in u (take i uids) || is_in u (drop i uids))
in-parts u uids i =
    ap (is_in u) (sym (take-append-drop i uids)) ∙ list_any-append (λ (v : Uid). same_uid v u) (take i uids) (drop i uids)

-- It has a place just where it is in the list.
place-any : (test : Uid → Bool) (uids : List Uid) → ltb (position_or_len test uids) (length uids) ≡ list_any test uids
place-any test [] = refl
place-any test (v ∷ uids) = by (test v) (place-any test uids)
  where
    by : (b : Bool) → ltb (position_or_len test uids) (length uids) ≡ list_any test uids → ltb (cond (not b) (1 + position_or_len test uids) 0) (suc (length uids)) ≡ (b || list_any test uids)
    by true h = lt-ltb 0 (suc (length uids)) (omega arith)
    by false h =
        let same : 1 + position_or_len test uids ≡ suc (position_or_len test uids) = omega arith in
        ap (λ k. ltb k (suc (length uids))) same ∙ one-more (position_or_len test uids) (length uids) ∙ h

pub place-there : (u : Uid) (uids : List Uid) → is_some (position (λ (v : Uid). same_uid v u) uids) ≡ is_in u uids
place-there u uids =
    by (ltb (position_or_len (λ (v : Uid). same_uid v u) uids) (length uids)) ∙ place-any (λ (v : Uid). same_uid v u) uids
  where
    by : (b : Bool) → is_some (cond b (Some (position_or_len (λ (v : Uid). same_uid v u) uids)) None) ≡ b
    by true = refl
    by false = refl

-- ---- nothing listed

-- No pod stays listed where none is.
pub none-staying : (job : Job) (pods : List Pod) → length job.status.uncounted_succeeded + length job.status.uncounted_failed ≡ 0
    → 0 ≡ length (filter (λ pod. is_own job pod && is_staying job pod) pods)
none-staying job pods none =
    ap length
    (sym (filter_none (λ pod. is_own job pod && is_staying job pod) pods
    (each (λ pod. (is_own job pod && is_staying job pod) ≡ false)
    (λ pod. ap (λ b. is_own job pod && (is_tracked pod && b)) (unlisted pod.uid) ∙ off (is_own job pod) (is_tracked pod)) pods)))
  where
    outside : (u : Uid) (uids : List Uid) → length uids ≡ 0 → is_in u uids ≡ false
    outside u [] h = refl
    outside u (v ∷ uids) h = absurd (omega (arith, h))

    unlisted : (u : Uid) → is_listed job.status u ≡ false
    unlisted u =
        ap (λ b. b || is_in u job.status.uncounted_failed) (outside u job.status.uncounted_succeeded (omega (arith, none)))
        ∙ outside u job.status.uncounted_failed (omega (arith, none))

    off : (a b : Bool) → (a && (b && false)) ≡ false
    off true true = refl
    off true false = refl
    off false b = refl

-- ---- all pods judged alike

-- Where a filter keeps as many as there are, each passes.
all-pass : {X : Type 0} (test : X → Bool) (xs : List X) → length (filter test xs) ≡ length xs → Each (λ x. test x ≡ true) xs
all-pass test [] h = tt
all-pass {X} test (x ∷ xs) h = by (λ g. all-pass test xs g) (test x) refl h
  where
    by : (length (filter test xs) ≡ length xs → Each (λ y. test y ≡ true) xs) → (b : Bool) → test x ≡ b → length (cond b (x ∷ filter test xs) (filter test xs)) ≡ length (x ∷ xs) → Each (λ y. test y ≡ true) (x ∷ xs)
    by ih true t g = (t, ih (omega (arith, g)))
    by ih false t g = absurd (omega (arith, filter-least test xs, g))

-- A pod that is to be judged so loses its finalizer just where there is room for it.
judged-pod : (t : Bool) (o want : Outcome) (l f : Bool) → is_verdict want ≡ true → ((t && (is_verdict o && not l)) && same_outcome o want) ≡ true
    → (t && ((not (same_outcome o Alive) && not ((t && (is_verdict o && not l)) && not f)) || l)) ≡ (((t && same_outcome o want) && not l) && f)
judged-pod false o want l f v h = absurd (true≢false (sym h))
judged-pod true Alive want l f v h = absurd (true≢false (sym h))
judged-pod true Ignored want l f v h = absurd (true≢false (sym h))
judged-pod true Succeeded want true f v h = absurd (true≢false (sym h))
judged-pod true Failed want true f v h = absurd (true≢false (sym h))
judged-pod true Succeeded Succeeded false true v h = refl
judged-pod true Succeeded Succeeded false false v h = refl
judged-pod true Succeeded Failed false f v h = absurd (true≢false (sym h))
judged-pod true Succeeded Alive false f v h = absurd (true≢false (sym h))
judged-pod true Succeeded Ignored false f v h = absurd (true≢false (sym h))
judged-pod true Failed Failed false true v h = refl
judged-pod true Failed Failed false false v h = refl
judged-pod true Failed Succeeded false f v h = absurd (true≢false (sym h))
judged-pod true Failed Alive false f v h = absurd (true≢false (sym h))
judged-pod true Failed Ignored false f v h = absurd (true≢false (sym h))

-- Where all pods are new ones of one outcome, those that are judged are those that lose their finalizer.
pub alike-released : (job : Job) (pods : List Pod) (outcome : Outcome) (uids : List Uid) (n : ℕ) → is_verdict outcome ≡ true
    → uids ≡ new_uids job pods outcome → n ≡ length (left_with job (own_pods job pods) outcome) → length uids + n ≡ length pods
    → uids ≡ uids_of (to_release job (own_pods job pods))
alike-released job pods outcome uids n v are is all =
    let own = own_pods job pods in
    let same = λ (pod : Pod). same_outcome (outcome_of job.spec pod) outcome in
    let many : length (filter (λ pod. is_candidate job pod && same pod) own) ≡ length own =
    omega (
      arith,
      ap length are,
      is,
      all,
      length-map (newly job own outcome) (λ (pod : Pod). pod.uid),
      kind-split same (fits job own) (candidates job own),
      ap length (filter_filter same (is_candidate job) own),
      filter-least (λ pod. is_candidate job pod && same pod) own,
      filter-least (is_own job) pods,
    ) in
    let each_one = Each-weaker (λ pod. (is_candidate job pod && same pod) ≡ true) (λ pod. is_to_release job own pod ≡ (is_new job outcome pod && fits job own pod))
    (λ pod h. judged-pod (is_tracked pod) (outcome_of job.spec pod) outcome (is_listed job.status pod.uid) (fits job own pod) v h) own
    (all-pass (λ pod. is_candidate job pod && same pod) own many) in
    are ∙ ap uids_of (newly-is job own outcome v ∙ sym (filter_same (is_to_release job own) (λ pod. is_new job outcome pod && fits job own pod) own each_one))
