-- How many pods are judged, where there is room for so many: where pods ascend by UID, those below the first for which
-- there is none, and no more than there is room for.
use Rattle.std.proofs.Common.{◌≡◌, ℕ, ◌+◌, ◌≤◌, ◌<◌, zero, suc, Bool, true, false, not, cond, ltb, ◌&&◌, ◌||◌, List, [], ◌∷◌, map, filter, length, Option, Some, None, option_map, refl, ap, sym, ◌∙◌, arith, true≢false}
use Rattle.std.specs.List.{AllByRecursion as Each, slice_get}
use Rattle.std.proofs.lemmas.Bool.{ltb-true, ltb-false, lt-ltb, le-ltb}
use Rattle.std.proofs.lemmas.List.{length-map}
use Rattle.std.proofs.lemmas.Option.{slice_get-map}
use Rattle.jc_types.specs.declared.numbers.Uid.{Uid}
use Rattle.jc_types.specs.declared.objects.Job.{Job}
use Rattle.jc_types.specs.declared.objects.Pod.{Pod}
use Rattle.jc_types.specs.declared.specifications.JobSpec.{JobSpec}
use Rattle.jc_types.proofs.ListFacts.{Each-weaker, filter-map, filter_filter, filter_none, filter_same}
use Rattle.jc_states.specs.PodLists.{RisesFrom}
use Rattle.jc_states.specs.Pods.{is_tracked}
use Rattle.jc_states.specs.Listed.{is_listed}
use Rattle.jc_states.proofs.PodListFacts.{rises-each, rises_filter}
use Rattle.jc_failpol.specs.declared.outcomes.Outcome.{Outcome}
use Rattle.jc_failpol.specs.declared.outcomes.Outcome.TheVariants.{Alive}
use Rattle.jc_failpol.specs.Outcomes.{outcome_of, same_outcome}
use Rattle.jc_account.specs.declared.judgements.Judgement.{Judgement}
use Rattle.jc_account.specs.Judged.{candidates, fits, is_candidate, is_left_over, is_to_release, judged_now, left_over, left_with, room, to_release}
use Rattle.jc_account.specs.Judgements.{first_beyond, first_left, has_room_for, is_to_go, is_fit, is_left_by, judgement_of, judgements, rows_beyond, rows_with, rows_within}
use Rattle.jc_account.specs.Rooms.{has_room, joins_list, judged_within, precedes, takes_room}
use Rattle.jc_account.proofs.ListedFacts.{each}

-- None of ascending pods comes before the first.
pub first-preceded : (pod : Pod) (pods : List Pod) → RisesFrom (pod.uid.0 + 1) pods → filter (precedes pod.uid) (pod ∷ pods) ≡ []
first-preceded pod pods r =
    filter_none (precedes pod.uid) (pod ∷ pods)
    (le-ltb pod.uid.0 pod.uid.0 (omega arith), Each-weaker (λ (q : Pod). pod.uid.0 + 1 ≤ q.uid.0) (λ q. precedes pod.uid q ≡ false) (λ q h. le-ltb q.uid.0 pod.uid.0 (omega (arith, h))) pods (rises-each (pod.uid.0 + 1) pods r))

-- ---- the first UID for which there is no room

-- None of later pods has a smaller UID.
none-before : (u : Uid) (low : ℕ) (xs : List Pod) → u.0 ≤ low → RisesFrom low xs → length (filter (precedes u) xs) ≡ 0
none-before u low [] h r = refl
none-before u low (x ∷ xs) h r = by (ltb x.uid.0 u.0) refl (none-before u (x.uid.0 + 1) xs (omega (arith, h, r.0)) r.1)
  where
    by : (b : Bool) → ltb x.uid.0 u.0 ≡ b → length (filter (precedes u) xs) ≡ 0 → length (cond b (x ∷ filter (precedes u) xs) (filter (precedes u) xs)) ≡ 0
    by true e ih = absurd (omega (arith, ltb-true x.uid.0 u.0 e, h, r.0))
    by false e ih = ih

-- What is below all of rising pods is before the one at each place.
pub before-all : (u : Uid) (low n : ℕ) (xs : List Pod) → u.0 < low → RisesFrom low xs → has_room_for (option_map (λ (q : Pod). q.uid) (slice_get xs n)) u ≡ true
before-all u low n [] h r = refl
before-all u low zero (x ∷ xs) h r = lt-ltb u.0 x.uid.0 (omega (arith, h, r.0))
before-all u low (suc n) (x ∷ xs) h r = before-all u (x.uid.0 + 1) n xs (omega (arith, h, r.0)) r.1

-- One more on each side of a test.
pub one-more : (m n : ℕ) → ltb (suc m) (suc n) ≡ ltb m n
one-more m n = by (ltb m n) refl
  where
    by : (b : Bool) → ltb m n ≡ b → ltb (suc m) (suc n) ≡ b
    by true e = lt-ltb (suc m) (suc n) (omega (arith, ltb-true m n e))
    by false e = le-ltb (suc m) (suc n) (omega (arith, ltb-false m n e))

-- Fewer than n of rising pods have a smaller UID than one of them exactly where it is below the one at the place n.
below-place : (low n : ℕ) (xs : List Pod) → RisesFrom low xs
    → Each (λ p. ltb (length (filter (precedes p.uid) xs)) n ≡ has_room_for (option_map (λ (q : Pod). q.uid) (slice_get xs n)) p.uid) xs
below-place low n [] r = tt
below-place low n (x ∷ xs) r = (head n, tail n (λ m. below-place (x.uid.0 + 1) m xs r.1))
  where
    none : length (filter (precedes x.uid) (x ∷ xs)) ≡ 0
    none = none-before x.uid x.uid.0 (x ∷ xs) (omega arith) (omega arith, r.1)

    head : (n : ℕ) → ltb (length (filter (precedes x.uid) (x ∷ xs))) n ≡ has_room_for (option_map (λ (q : Pod). q.uid) (slice_get (x ∷ xs) n)) x.uid
    head zero = le-ltb (length (filter (precedes x.uid) (x ∷ xs))) 0 (omega arith) ∙ sym (le-ltb x.uid.0 x.uid.0 (omega arith))
    head (suc n) =
        lt-ltb (length (filter (precedes x.uid) (x ∷ xs))) (suc n) (omega (arith, none)) ∙ sym (before-all x.uid (x.uid.0 + 1) n xs (omega arith) r.1)

    later : (n : ℕ) (p : Pod) → x.uid.0 + 1 ≤ p.uid.0
        → ltb (length (filter (precedes p.uid) xs)) n ≡ has_room_for (option_map (λ (q : Pod). q.uid) (slice_get xs n)) p.uid
        → ltb (length (filter (precedes p.uid) (x ∷ xs))) (suc n) ≡ has_room_for (option_map (λ (q : Pod). q.uid) (slice_get xs n)) p.uid
    later n p above h =
        ap (λ b. ltb (length (cond b (x ∷ filter (precedes p.uid) xs) (filter (precedes p.uid) xs))) (suc n)) (lt-ltb x.uid.0 p.uid.0 (omega (arith, above)))
        ∙ one-more (length (filter (precedes p.uid) xs)) n ∙ h

    first : (p : Pod) → x.uid.0 + 1 ≤ p.uid.0 → ltb (length (filter (precedes p.uid) (x ∷ xs))) 0 ≡ ltb p.uid.0 x.uid.0
    first p above = le-ltb (length (filter (precedes p.uid) (x ∷ xs))) 0 (omega arith) ∙ sym (le-ltb p.uid.0 x.uid.0 (omega (arith, above)))

    both : (n : ℕ) (ys : List Pod) → Each (λ p. x.uid.0 + 1 ≤ p.uid.0) ys
        → Each (λ p. ltb (length (filter (precedes p.uid) xs)) n ≡ has_room_for (option_map (λ (q : Pod). q.uid) (slice_get xs n)) p.uid) ys
        → Each (λ p. ltb (length (filter (precedes p.uid) (x ∷ xs))) (suc n) ≡ has_room_for (option_map (λ (q : Pod). q.uid) (slice_get xs n)) p.uid) ys
    both n [] a h = tt
    both n (y ∷ ys) a h = (later n y a.0 h.0, both n ys a.1 h.1)

    tail : (n : ℕ)
        → ((m : ℕ) → Each (λ p. ltb (length (filter (precedes p.uid) xs)) m ≡ has_room_for (option_map (λ (q : Pod). q.uid) (slice_get xs m)) p.uid) xs)
        → Each (λ p. ltb (length (filter (precedes p.uid) (x ∷ xs))) n ≡ has_room_for (option_map (λ (q : Pod). q.uid) (slice_get (x ∷ xs) n)) p.uid) xs
    tail zero ih = Each-weaker (λ p. x.uid.0 + 1 ≤ p.uid.0) (λ p. ltb (length (filter (precedes p.uid) (x ∷ xs))) 0 ≡ ltb p.uid.0 x.uid.0) first xs (rises-each (x.uid.0 + 1) xs r.1)
    tail (suc n) ih = both n xs (rises-each (x.uid.0 + 1) xs r.1) (ih n)

-- What holds of each that a filter keeps holds of each that passes.
pub unfiltered : {X : Type 0} (P : X → Type 0) (test : X → Bool) (xs : List X) → Each P (filter test xs) → Each (λ x. test x ≡ true → P x) xs
unfiltered P test [] h = tt
unfiltered P test (x ∷ xs) h = by (test x) refl (unfiltered P test xs) h
  where
    by : (b : Bool) → test x ≡ b → (Each P (filter test xs) → Each (λ y. test y ≡ true → P y) xs)
        → Each P (cond b (x ∷ filter test xs) (filter test xs)) → (test x ≡ true → P x) × Each (λ y. test y ≡ true → P y) xs
    by true e ih h = (λ t. h.0, ih h.1)
    by false e ih h = (λ t. absurd (true≢false (sym t ∙ e)), ih h)

-- The first UID for which there is no room among pods.
abbrev pub first_of : JobSpec → ℕ → List Pod → Option Uid
first_of spec n pods = option_map (λ (q : Pod). q.uid) (slice_get (filter (takes_room spec) pods) n)

-- There is room for just those below it.
pub room-below : (spec : JobSpec) (n low : ℕ) (pods : List Pod) → RisesFrom low pods → Each (λ p. has_room spec n pods p ≡ is_fit spec.mode (first_of spec n pods) (outcome_of spec p) p.uid) pods
room-below spec n low pods r =
    Each-weaker (λ p. takes_room spec p ≡ true → ltb (length (filter (precedes p.uid) (filter (takes_room spec) pods))) n ≡ has_room_for (first_of spec n pods) p.uid)
    (λ p. has_room spec n pods p ≡ is_fit spec.mode (first_of spec n pods) (outcome_of spec p) p.uid) at pods
    (unfiltered (λ p. ltb (length (filter (precedes p.uid) (filter (takes_room spec) pods))) n ≡ has_room_for (first_of spec n pods) p.uid) (takes_room spec) pods
    (below-place low n (filter (takes_room spec) pods) (rises_filter low (takes_room spec) pods r)))
  where
    at : (p : Pod) → (takes_room spec p ≡ true → ltb (length (filter (precedes p.uid) (filter (takes_room spec) pods))) n ≡ has_room_for (first_of spec n pods) p.uid)
        → has_room spec n pods p ≡ is_fit spec.mode (first_of spec n pods) (outcome_of spec p) p.uid
    at p h = by (takes_room spec p) refl
      where
        by : (b : Bool) → takes_room spec p ≡ b → (not b || ltb (length (filter (precedes p.uid) (filter (takes_room spec) pods))) n) ≡ (not b || has_room_for (first_of spec n pods) p.uid)
        by true e = h e
        by false e = refl

-- ---- no more than there is room for

few-before : (low n : ℕ) (xs : List Pod) → RisesFrom low xs → length (filter (λ p. has_room_for (option_map (λ (q : Pod). q.uid) (slice_get xs n)) p.uid) xs) ≤ n
few-before low n [] r = omega arith
few-before low zero (x ∷ xs) r =
    let none : filter (λ p. ltb p.uid.0 x.uid.0) (x ∷ xs) ≡ [] =
    filter_none (λ p. ltb p.uid.0 x.uid.0) (x ∷ xs)
    (Each-weaker (λ p. x.uid.0 ≤ p.uid.0) (λ p. ltb p.uid.0 x.uid.0 ≡ false) (λ p h. le-ltb p.uid.0 x.uid.0 h) (x ∷ xs) (rises-each x.uid.0 (x ∷ xs) (omega arith, r.1))) in
    omega (arith, ap length none)
few-before low (suc n) (x ∷ xs) r =
    by (has_room_for (option_map (λ (q : Pod). q.uid) (slice_get xs n)) x.uid) (few-before (x.uid.0 + 1) n xs r.1)
  where
    rest : List Pod
    rest = filter (λ p. has_room_for (option_map (λ (q : Pod). q.uid) (slice_get xs n)) p.uid) xs

    by : (b : Bool) → length rest ≤ n → length (cond b (x ∷ rest) rest) ≤ suc n
    by true h = omega (arith, h)
    by false h = omega (arith, h)

pub within-few : (spec : JobSpec) (n low : ℕ) (pods : List Pod) → RisesFrom low pods → length (filter (takes_room spec) (judged_within spec n pods)) ≤ n
within-few spec n low pods r =
    let xs = filter (takes_room spec) pods in
    let up = rises_filter low (takes_room spec) pods r in
    let e1 = filter_filter (takes_room spec) (has_room spec n pods) pods in
    let e2 = filter_same (λ p. has_room spec n pods p && takes_room spec p) (λ p. takes_room spec p && ltb (length (filter (precedes p.uid) xs)) n) pods
    (each (λ p. (has_room spec n pods p && takes_room spec p) ≡ (takes_room spec p && ltb (length (filter (precedes p.uid) xs)) n)) (λ p. by (takes_room spec p) (ltb (length (filter (precedes p.uid) xs)) n)) pods) in
    let e3 = filter_filter (λ p. ltb (length (filter (precedes p.uid) xs)) n) (takes_room spec) pods in
    let e4 = filter_same (λ p. ltb (length (filter (precedes p.uid) xs)) n) (λ p. has_room_for (option_map (λ (q : Pod). q.uid) (slice_get xs n)) p.uid) xs (below-place low n xs up) in
    omega (arith, ap length (e1 ∙ e2 ∙ sym e3 ∙ e4), few-before low n xs up)
  where
    by : (t l : Bool) → ((not t || l) && t) ≡ (t && l)
    by true true = refl
    by true false = refl
    by false l = refl

-- ---- the rows, and the pods to release

module _ (job : Job) (own : List Pod) (low : ℕ) (rises : RisesFrom low own) where
  fit-candidates : Each (λ p. is_fit job.spec.mode (first_left job own) (outcome_of job.spec p) p.uid ≡ fits job own p) (candidates job own)
  fit-candidates =
      Each-weaker (λ p. fits job own p ≡ is_fit job.spec.mode (first_left job own) (outcome_of job.spec p) p.uid)
      (λ p. is_fit job.spec.mode (first_left job own) (outcome_of job.spec p) p.uid ≡ fits job own p) (λ p h. sym h) (candidates job own)
      (room-below job.spec (room job own) low (candidates job own) (rises_filter low (is_candidate job) own rises))

  pub first-rows : first_beyond job.spec.mode (room job own) (judgements job own) ≡ first_left job own
  first-rows =
      ap (λ rows. option_map (λ (row : Judgement). row.uid) (slice_get rows (room job own)))
      (filter-map (judgement_of job) (λ row. joins_list job.spec.mode row.outcome) (candidates job own))
      ∙ ap (option_map (λ (row : Judgement). row.uid)) (slice_get-map (judgement_of job) (filter (takes_room job.spec) (candidates job own)) (room job own))
      ∙ by (slice_get (filter (takes_room job.spec) (candidates job own)) (room job own))
    where
      by : (o : Option Pod) → option_map (λ (row : Judgement). row.uid) (option_map (judgement_of job) o) ≡ option_map (λ (pod : Pod). pod.uid) o
      by None = refl
      by (Some pod) = refl

  pub rows-judged : rows_within job.spec.mode (first_left job own) (judgements job own) ≡ map (judgement_of job) (judged_now job own)
  rows-judged =
      filter-map (judgement_of job) (λ row. is_fit job.spec.mode (first_left job own) row.outcome row.uid) (candidates job own)
      ∙ ap (map (judgement_of job))
      (filter_same (λ p. is_fit job.spec.mode (first_left job own) (outcome_of job.spec p) p.uid) (fits job own) (candidates job own) fit-candidates)

  pub rows-left : (outcome : Outcome) → length (rows_with outcome (rows_beyond job.spec.mode (first_left job own) (judgements job own))) ≡ length (left_with job own outcome)
  rows-left outcome =
      ap (λ rows. length (rows_with outcome rows))
      (filter-map (judgement_of job) (λ row. not (is_fit job.spec.mode (first_left job own) row.outcome row.uid)) (candidates job own)
      ∙ ap (map (judgement_of job))
      (filter_same (λ p. not (is_fit job.spec.mode (first_left job own) (outcome_of job.spec p) p.uid)) (λ p. not (fits job own p)) (candidates job own)
      (Each-weaker (λ p. is_fit job.spec.mode (first_left job own) (outcome_of job.spec p) p.uid ≡ fits job own p)
      (λ p. not (is_fit job.spec.mode (first_left job own) (outcome_of job.spec p) p.uid) ≡ not (fits job own p)) (λ p h. ap not h) (candidates job own) fit-candidates)))
      ∙ ap length (filter-map (judgement_of job) (λ row. same_outcome row.outcome outcome) (left_over job own))
      ∙ length-map (left_with job own outcome) (judgement_of job)

  pub due-released : filter (is_to_go (first_left job own) job) own ≡ to_release job own
  due-released =
      filter_same (is_to_go (first_left job own) job) (is_to_release job own) own
      (Each-weaker (λ p. is_candidate job p ≡ true → is_fit job.spec.mode (first_left job own) (outcome_of job.spec p) p.uid ≡ fits job own p)
      (λ p. is_to_go (first_left job own) job p ≡ is_to_release job own p)
      (λ p h. ap (λ b. is_tracked p && ((not (same_outcome (outcome_of job.spec p) Alive) && not b) || is_listed job.status p.uid)) (left p h)) own
      (unfiltered (λ p. is_fit job.spec.mode (first_left job own) (outcome_of job.spec p) p.uid ≡ fits job own p) (is_candidate job) own fit-candidates))
    where
      left : (p : Pod) → (is_candidate job p ≡ true → is_fit job.spec.mode (first_left job own) (outcome_of job.spec p) p.uid ≡ fits job own p)
          → is_left_by (first_left job own) job p ≡ is_left_over job own p
      left p h = by (is_candidate job p) refl
        where
          by : (b : Bool) → is_candidate job p ≡ b → (b && not (is_fit job.spec.mode (first_left job own) (outcome_of job.spec p) p.uid)) ≡ (b && not (fits job own p))
          by true e = ap not (h e)
          by false e = refl

-- ---- what is judged and what is left over

-- Those of a kind that pass a test and those that do not are all of the kind.
pub kind-split : {X : Type 0} (same test : X → Bool) (xs : List X) → length (filter same (filter test xs)) + length (filter same (filter (λ x. not (test x)) xs)) ≡ length (filter same xs)
kind-split same test [] = refl
kind-split {X} same test (x ∷ xs) = by (test x) (same x) refl (kind-split same test xs)
  where
    by : (t s : Bool) → same x ≡ s → length (filter same (filter test xs)) + length (filter same (filter (λ y. not (test y)) xs)) ≡ length (filter same xs)
        → length (filter same (cond t (x ∷ filter test xs) (filter test xs))) + length (filter same (cond (not t) (x ∷ filter (λ y. not (test y)) xs) (filter (λ y. not (test y)) xs)))
        ≡ length (cond s (x ∷ filter same xs) (filter same xs))
    by true s e h =
        ap (λ b. length (cond b (x ∷ filter same (filter test xs)) (filter same (filter test xs))) + length (filter same (filter (λ y. not (test y)) xs))) e ∙ one s
      where
        one : (b : Bool) → length (cond b (x ∷ filter same (filter test xs)) (filter same (filter test xs))) + length (filter same (filter (λ y. not (test y)) xs)) ≡ length (cond b (x ∷ filter same xs) (filter same xs))
        one true = omega (arith, h)
        one false = h
    by false s e h =
        ap (λ b. length (filter same (filter test xs)) + length (cond b (x ∷ filter same (filter (λ y. not (test y)) xs)) (filter same (filter (λ y. not (test y)) xs)))) e ∙ one s
      where
        one : (b : Bool) → length (filter same (filter test xs)) + length (cond b (x ∷ filter same (filter (λ y. not (test y)) xs)) (filter same (filter (λ y. not (test y)) xs))) ≡ length (cond b (x ∷ filter same xs) (filter same xs))
        one true = omega (arith, h)
        one false = h

-- Elements of two kinds, each of which passes a test, are together no more than those that pass it.
pub kinds-pass : {X : Type 0} (a b test : X → Bool) → ((x : X) → (a x && b x) ≡ false) → ((x : X) → (a x || b x) ≡ true → test x ≡ true) → (xs : List X)
    → length (filter a xs) + length (filter b xs) ≤ length (filter test xs)
kinds-pass a b test apart pass [] = omega arith
kinds-pass {X} a b test apart pass (x ∷ xs) = by (a x) (b x) (test x) (apart x) (pass x) (kinds-pass a b test apart pass xs)
  where
    by : (p q t : Bool) → (p && q) ≡ false → ((p || q) ≡ true → t ≡ true) → length (filter a xs) + length (filter b xs) ≤ length (filter test xs)
        → length (cond p (x ∷ filter a xs) (filter a xs)) + length (cond q (x ∷ filter b xs) (filter b xs)) ≤ length (cond t (x ∷ filter test xs) (filter test xs))
    by true true t e f h = absurd (true≢false e)
    by true false true e f h = omega (arith, h)
    by false true true e f h = omega (arith, h)
    by true false false e f h = absurd (true≢false (sym (f refl)))
    by false true false e f h = absurd (true≢false (sym (f refl)))
    by false false true e f h = omega (arith, h)
    by false false false e f h = h
