-- How many pods are judged: of rising pods that join a list the first ones, as many as there is room for.
use Rattle.std.proofs.Common.{◌≡◌, ℕ, zero, suc, ◌+◌, ◌≤◌, Bool, true, false, not, cond, ◌&&◌, ◌||◌, List, [], ◌∷◌, filter, length, take, ltb, refl, ap, sym, subst, ◌∙◌, ◌⊎◌, inl, inr, arith, true≢false}
use Rattle.std.specs.List.{AllByRecursion as Each}
use Rattle.std.proofs.lemmas.Bool.{and_parts, lt-ltb, le-ltb, ltb-true, ltb-false, not-true, or_cases}
use Rattle.std.proofs.lemmas.List.Elements.{filter_agree}
use Rattle.std.proofs.Math.Bool.{and-true}
use Rattle.jc_types.specs.declared.objects.Job.{Job}
use Rattle.jc_types.specs.declared.objects.Pod.{Pod}
use Rattle.jc_types.specs.declared.specifications.JobSpec.{JobSpec}
use Rattle.jc_types.proofs.ListFacts.{Each-weaker, filter_filter, filter_none, filter_same}
use Rattle.jc_states.specs.Listed.{is_listed}
use Rattle.jc_states.specs.PodLists.{RisesFrom}
use Rattle.jc_states.specs.Pods.{is_tracked}
use Rattle.jc_states.proofs.PodListFacts.{rises-each, rises_filter}
use Rattle.jc_failpol.specs.declared.outcomes.Outcome.{Outcome}
use Rattle.jc_failpol.specs.declared.outcomes.Outcome.TheVariants.{Alive}
use Rattle.jc_failpol.specs.Outcomes.{is_verdict, outcome_of, same_outcome}
use Rattle.jc_failpol.proofs.OutcomeFacts.{outcome-exact}
use Rattle.jc_account.specs.Judged.{candidates, fits, is_candidate, is_left_over, is_new, is_to_release, newly, room}
use Rattle.jc_account.specs.Rooms.{has_room, joins_list, judged_within, precedes, takes_room}
use Rattle.jc_account.proofs.ListedFacts.{each}
use Rattle.jc_account.proofs.JudgementFacts.{newly-is}
use Rattle.jc_account.proofs.RoomFacts.{first-preceded as none_before, one-more as both_more, unfiltered as Each-kept}

-- ---- the first of rising pods

-- The first precedes each of the others.
one_before : (pod q : Pod) (pods : List Pod) → pod.uid.0 + 1 ≤ q.uid.0 → length (filter (precedes q.uid) (pod ∷ pods)) ≡ suc (length (filter (precedes q.uid) pods))
one_before pod q pods h =
    ap (λ b. length (cond b (pod ∷ filter (precedes q.uid) pods) (filter (precedes q.uid) pods))) (lt-ltb pod.uid.0 q.uid.0 (omega (arith, h)))

-- Those of rising pods that few precede are the first ones.
least_first : (low n : ℕ) (pods : List Pod) → RisesFrom low pods → filter (λ pod. ltb (length (filter (precedes pod.uid) pods)) n) pods ≡ take n pods
least_first low zero pods r =
    filter_none (λ (pod : Pod). ltb (length (filter (precedes pod.uid) pods)) 0) pods
    (each (λ (pod : Pod). ltb (length (filter (precedes pod.uid) pods)) 0 ≡ false) (λ pod. le-ltb (length (filter (precedes pod.uid) pods)) 0 (omega arith)) pods)
least_first low (suc m) [] r = refl
least_first low (suc m) (pod ∷ pods) r =
    let all = pod ∷ pods in
    let few = λ (q : Pod). ltb (length (filter (precedes q.uid) all)) (suc m) in
    let here : few pod ≡ true = ap (λ (xs : List Pod). ltb (length xs) (suc m)) (none_before pod pods r.1) ∙ lt-ltb 0 (suc m) (omega arith) in
    ap (λ b. cond b (pod ∷ filter few pods) (filter few pods)) here
    ∙ ap (λ rest. pod ∷ rest)
    (filter_same few (λ q. ltb (length (filter (precedes q.uid) pods)) m) pods
    (Each-weaker (λ (q : Pod). pod.uid.0 + 1 ≤ q.uid.0) (λ q. few q ≡ ltb (length (filter (precedes q.uid) pods)) m)
    (λ q h. ap (λ n. ltb n (suc m)) (one_before pod q pods h) ∙ both_more (length (filter (precedes q.uid) pods)) m) pods (rises-each (pod.uid.0 + 1) pods r.1))
    ∙ least_first (pod.uid.0 + 1) m pods r.1)

-- ---- the pods that are judged

module _ (spec : JobSpec) (room : ℕ) (pods : List Pod) where
  -- Those of them that join a list are the first ones that would.
  pub joining-first : (low : ℕ) → RisesFrom low pods → filter (takes_room spec) (judged_within spec room pods) ≡ take room (filter (takes_room spec) pods)
  joining-first low rises =
      let some = filter (takes_room spec) pods in
      let few = λ (pod : Pod). ltb (length (filter (precedes pod.uid) some)) room in
      filter_filter (takes_room spec) (has_room spec room pods) pods
      ∙ filter_agree (λ pod. has_room spec room pods pod && takes_room spec pod) (λ pod. takes_room spec pod && few pod) (λ pod. by (takes_room spec pod) (few pod)) pods
      ∙ sym (filter_filter few (takes_room spec) pods)
      ∙ least_first low room some (rises_filter low (takes_room spec) pods rises)
    where
      by : (t f : Bool) → ((not t || f) && t) ≡ (t && f)
      by true true = refl
      by true false = refl
      by false f = refl

  -- Those with an outcome that joins a list are the first ones, too.
  pub judged-joining : (low : ℕ) (outcome : Outcome) → RisesFrom low pods → joins_list spec.mode outcome ≡ true
      → filter (λ pod. same_outcome (outcome_of spec pod) outcome) (judged_within spec room pods) ≡ filter (λ pod. same_outcome (outcome_of spec pod) outcome) (take room (filter (takes_room spec) pods))
  judged-joining low outcome rises joins =
      filter_agree (λ pod. same_outcome (outcome_of spec pod) outcome) (λ pod. takes_room spec pod && same_outcome (outcome_of spec pod) outcome)
      (λ pod. by (outcome_of spec pod) (same_outcome (outcome_of spec pod) outcome) refl) (judged_within spec room pods)
      ∙ sym (filter_filter (λ pod. same_outcome (outcome_of spec pod) outcome) (takes_room spec) (judged_within spec room pods))
      ∙ ap (filter (λ pod. same_outcome (outcome_of spec pod) outcome)) (joining-first low rises)
    where
      and-any : (t b : Bool) → (b ≡ true → t ≡ true) → b ≡ (t && b)
      and-any true b h = refl
      and-any false true h = absurd (true≢false (sym (h refl)))
      and-any false false h = refl

      by : (o : Outcome) (b : Bool) → same_outcome o outcome ≡ b → same_outcome o outcome ≡ (joins_list spec.mode o && same_outcome o outcome)
      by o b e = and-any (joins_list spec.mode o) (same_outcome o outcome) (λ s. ap (joins_list spec.mode) ((outcome-exact o outcome).0 s) ∙ joins)

  -- Those with an outcome that joins no list are all that have it.
  pub judged-free : (outcome : Outcome) → joins_list spec.mode outcome ≡ false
      → filter (λ pod. same_outcome (outcome_of spec pod) outcome) (judged_within spec room pods) ≡ filter (λ pod. same_outcome (outcome_of spec pod) outcome) pods
  judged-free outcome free =
      filter_filter (λ pod. same_outcome (outcome_of spec pod) outcome) (has_room spec room pods) pods
      ∙ filter_agree (λ pod. has_room spec room pods pod && same_outcome (outcome_of spec pod) outcome) (λ pod. same_outcome (outcome_of spec pod) outcome) at pods
    where
      by : (t f b : Bool) → (b ≡ true → t ≡ false) → ((not t || f) && b) ≡ b
      by true f true h = absurd (true≢false (h refl))
      by true true false h = refl
      by true false false h = refl
      by false f b h = refl

      at : (pod : Pod) → (has_room spec room pods pod && same_outcome (outcome_of spec pod) outcome) ≡ same_outcome (outcome_of spec pod) outcome
      at pod =
          by (takes_room spec pod) (ltb (length (filter (precedes pod.uid) (filter (takes_room spec) pods))) room) (same_outcome (outcome_of spec pod) outcome)
          (λ s. ap (joins_list spec.mode) ((outcome-exact (outcome_of spec pod) outcome).0 s) ∙ free)

-- ---- counts

-- Those that pass one test, and the first of those that pass another, are no more than those that pass a third,
-- where each of both passes it and none passes both.
pub parts_few : (a b c : Pod → Bool) (n : ℕ) (pods : List Pod) → Each (λ pod. a pod ≡ true → c pod ≡ true) pods → Each (λ pod. (a pod && b pod) ≡ false) pods
    → Each (λ pod. c pod ≡ true) (take n (filter b pods)) → length (filter a pods) + length (take n (filter b pods)) ≤ length (filter c pods)
parts_few a b c n [] h apart all = ends n
  where
    ends : (n : ℕ) → length {A = Pod} [] + length (take {A = Pod} n []) ≤ 0
    ends zero = omega arith
    ends (suc m) = omega arith
parts_few a b c n (pod ∷ pods) h apart all =
    by n (λ m. parts_few a b c m pods h.1 apart.1) (a pod) refl (b pod) refl (c pod) refl all
  where
    by : (n : ℕ) → ((m : ℕ) → Each (λ p. c p ≡ true) (take m (filter b pods)) → length (filter a pods) + length (take m (filter b pods)) ≤ length (filter c pods))
        → (s : Bool) → a pod ≡ s → (t : Bool) → b pod ≡ t → (u : Bool) → c pod ≡ u
        → Each (λ p. c p ≡ true) (take n (cond t (pod ∷ filter b pods) (filter b pods)))
        → length (cond s (pod ∷ filter a pods) (filter a pods)) + length (take n (cond t (pod ∷ filter b pods) (filter b pods))) ≤ length (cond u (pod ∷ filter c pods) (filter c pods))
    by n ih true e true f u g k = absurd (true≢false (sym (ap (λ x. x && b pod) e ∙ f) ∙ apart.0))
    by n ih true e false f true g k = let rest = ih n k in omega (arith, rest)
    by n ih true e false f false g k = absurd (true≢false (sym (h.0 e) ∙ g))
    by zero ih false e true f true g k = let rest = ih 0 tt in omega (arith, rest)
    by (suc m) ih false e true f true g k = let rest = ih m k.1 in omega (arith, rest)
    by zero ih false e true f false g k = let rest = ih 0 tt in rest
    by (suc m) ih false e true f false g k = absurd (true≢false (sym k.0 ∙ g))
    by n ih false e false f true g k = let rest = ih n k in omega (arith, rest)
    by n ih false e false f false g k = ih n k

-- ---- the pods that are judged now

-- The pod has this outcome, its UID is in neither list, and there is room for it.
abbrev pub is_newly : Job → List Pod → Outcome → Pod → Bool
is_newly job own outcome pod = is_new job outcome pod && fits job own pod

-- Where the outcome joins no list there is room for each.
pub newly-free : (job : Job) (own : List Pod) (outcome : Outcome) → is_verdict outcome ≡ true → joins_list job.spec.mode outcome ≡ false → newly job own outcome ≡ filter (is_new job outcome) own
newly-free job own outcome v free =
    newly-is job own outcome v ∙ filter_agree (is_newly job own outcome) (is_new job outcome) at own
  where
    fit : (c s n f r t : Bool) → t ≡ true → (s ≡ true → r ≡ false) → (((t && s) && n) && (not r || f)) ≡ ((t && s) && n)
    fit c true n f r true e h = ap (λ b. n && (not b || f)) (h refl) ∙ and-true n
    fit c false n f r true e h = refl
    fit c s n f r false e h = absurd (true≢false (sym e))

    any : (s n f r t : Bool) → (s ≡ true → r ≡ false) → (((t && s) && n) && (not r || f)) ≡ ((t && s) && n)
    any s n f r true h = fit true s n f r true refl h
    any s n f r false h = refl

    at : (pod : Pod) → is_newly job own outcome pod ≡ is_new job outcome pod
    at pod =
        any (same_outcome (outcome_of job.spec pod) outcome) (not (is_listed job.status pod.uid)) (ltb (length (filter (precedes pod.uid) (filter (takes_room job.spec) (candidates job own)))) (room job own)) (takes_room job.spec pod) (is_tracked pod)
        (λ s. ap (joins_list job.spec.mode) ((outcome-exact (outcome_of job.spec pod) outcome).0 s) ∙ free)

-- A pod that is to be judged and not left over has room.
pub kept_fits : (job : Job) (own : List Pod) (pod : Pod) → is_candidate job pod ≡ true → is_left_over job own pod ≡ false → fits job own pod ≡ true
kept_fits job own pod c l = by (is_candidate job pod) (fits job own pod) c l
  where
    by : (c f : Bool) → c ≡ true → (c && not f) ≡ false → f ≡ true
    by true true e g = refl
    by true false e g = absurd (true≢false g)
    by false f e g = absurd (true≢false (sym e))

-- A pod that is to be released has ended and is not left over, or is listed.
pub to_release_cases : (job : Job) (own : List Pod) (pod : Pod) → is_to_release job own pod ≡ true
    → ((not (same_outcome (outcome_of job.spec pod) Alive) ≡ true) × (is_left_over job own pod ≡ false)) ⊎ (is_listed job.status pod.uid ≡ true)
to_release_cases job own pod h =
    let ended = not (same_outcome (outcome_of job.spec pod) Alive) in
    let both = ended && not (is_left_over job own pod) in
    elim (or_cases both (is_listed job.status pod.uid) (and_parts (is_tracked pod) (both || is_listed job.status pod.uid) h).1) [
      | inl e ↦ let parts = and_parts ended (not (is_left_over job own pod)) e in inl (parts.0, not-true (is_left_over job own pod) parts.1)
      | inr l ↦ inr l
    ]

-- ---- filters

module _ {X : Type 0} where
  -- Where nothing is kept no element passes.
  pub Each-none : (test : X → Bool) (xs : List X) → filter test xs ≡ [] → Each (λ x. test x ≡ false) xs
  Each-none test xs none =
      Each-weaker (λ x. test x ≡ true → ⊥) (λ x. test x ≡ false) (λ x h. by (test x) h) xs
      (Each-kept (λ x. ⊥) test xs (subst (Each (λ (x : X). ⊥)) (sym none) tt))
    where
      by : (b : Bool) → (b ≡ true → ⊥) → b ≡ false
      by true h = absurd (h refl)
      by false h = refl
