-- Where a sync sets an end, the pods of its Job are closed.
use Rattle.std.proofs.Common.{◌≡◌, ℕ, ◌+◌, ◌≤◌, Bool, true, false, cond, not, ◌&&◌, ◌||◌, List, [], ◌∷◌, length, filter, Option, Some, None, refl, sym, ap, ◌∙◌, subst, true≢false, arith, eqb-true}
use Rattle.std.specs.List.{AllByRecursion as Each, list_any}
use Rattle.std.proofs.lemmas.Bool.{or_left}
use Rattle.jc_plan.specs.Accounts.{counted_in}
use Rattle.jc_plan.specs.Judged.{fits, is_candidate, is_left_over, is_to_release, left_with, to_release}
use Rattle.jc_plan.specs.Outcomes.{same_outcome, counts_marked, failure_of, is_ignore, is_failed, is_succeeded, outcome_of}
use Rattle.jc_plan.specs.Outcome.TheVariants as outcome
use Rattle.jc_plan.specs.Rules.{action_of}
use Rattle.jc_types.specs.declared.policies.FailurePolicy.{FailurePolicy}
use Rattle.jc_states.specs.Listed.{is_listed}
use Rattle.jc_types.specs.declared.numbers.Uid.{Uid}
use Rattle.jc_types.specs.declared.objects.Entry.{Entry}
use Rattle.jc_types.specs.declared.objects.Job.{Job}
use Rattle.jc_types.specs.declared.objects.Phase.{Phase}
use Rattle.jc_types.specs.declared.objects.Phase.TheVariants as phase
use Rattle.jc_types.specs.declared.objects.Pod.{Pod}
use Rattle.jc_states.specs.declared.bases.Basis.{Basis}
use Rattle.jc_states.specs.Bases.{is_own, own_pods}
use Rattle.jc_types.specs.Keys.{same_key, same_uid}
use Rattle.jc_log.specs.Log.{Live, is_lost, life, pods_in, pods_under, upto}
use Rattle.jc_states.specs.Pods.{is_final, is_marked, is_open, is_tracked}
use Rattle.jc_states.specs.UidLists.{is_in, uids_of}
use Rattle.jc_states.specs.ObjectChanges.{PodStep}
use Rattle.jc_log.specs.Writes.{Stored}
use Rattle.jc_types.proofs.KeyFacts.{same_uid-eq}
use Rattle.jc_types.proofs.ListFacts.{Each-filter}
use Rattle.jc_log.proofs.PodFacts.{pods_in-live}
use Rattle.jc_states.proofs.UidListFacts.{passes_in}
use Rattle.jc_plan.specs.Plans.{planned, planned_for}
use Rattle.jc_plan.proofs.OrderFacts.{due-released}
use Rattle.jc_plan.specs.Releases.{releases_of}
use Rattle.jc_plan.specs.Statuses.{leaves_none}
use Rattle.jc_history.specs.Notes.{Note}
use Rattle.jc_bounds.specs.Bounded.{IsFlight}
use Rattle.jc_bounds.specs.Final.{IsClosed}
use Rattle.jc_plan.specs.Finishes.{LeavesNoPod}
use Rattle.jc_bounds.specs.Order.{AreLost}
use Rattle.jc_bounds.specs.Work.{pods_made}
use Rattle.jc_bounds.proofs.EntryFacts.{none-any}
use Rattle.jc_plan.proofs.PlanBounds.{none-length as any-none}
use Rattle.jc_bounds.proofs.FitFacts.{open-lasts, own-since, plan-creates, tracked-lasts}
use Rattle.std.proofs.lemmas.Bool.{and_parts}
use Rattle.jc_plan.proofs.PlanFacts.{plan-releases as planned-releases}
use Rattle.jc_states.proofs.PodListFacts.{each-fails}

module _ {X : Type 0} where
  each-any : (f : X → Bool) (xs : List X) → Each (λ x. f x ≡ false) xs → list_any f xs ≡ false
  each-any f [] h = refl
  each-any f (x ∷ xs) h = ap (λ b. b || list_any f xs) h.0 ∙ each-any f xs h.1

  each-two : (P Q R : X → Type 0) → ((x : X) → P x → Q x → R x) → (xs : List X) → Each P xs → Each Q xs → Each R xs
  each-two P Q R f [] h g = tt
  each-two P Q R f (x ∷ xs) h g = (f x h.0 g.0, each-two P Q R f xs h.1 g.1)

  empty-any : (f : X → Bool) (xs : List X) → filter f xs ≡ [] → list_any f xs ≡ false
  empty-any f xs h = none-any f xs (let e = ap length h in omega (arith, e))

no-map : (pods : List Pod) → uids_of pods ≡ [] → pods ≡ []
no-map [] h = refl
no-map (p ∷ pods) h = absurd (let e = ap length h in omega (arith, e))

-- ---- none is left over

module _ {X : Type 0} where
  -- Where filters leave none, no member passes them all.
  filtered-none : (f g h : X → Bool) (xs : List X) → length (filter f (filter g (filter h xs))) ≡ 0 → Each (λ x. (h x && (g x && f x)) ≡ false) xs
  filtered-none f g h [] none = tt
  filtered-none f g h (x ∷ xs) none = one (h x) none (filtered-none f g h xs)
    where
      kept : List X
      kept = filter g (filter h xs)

      Rest : Type 0
      Rest = Each (λ x. (h x && (g x && f x)) ≡ false) xs

      three : (d : Bool) → length (cond d (x ∷ filter f kept) (filter f kept)) ≡ 0 → (length (filter f kept) ≡ 0 → Rest) → (d ≡ false) × Rest
      three true n rest = absurd (omega (arith, n))
      three false n rest = (refl, rest n)

      two : (c : Bool) → length (filter f (cond c (x ∷ kept) kept)) ≡ 0 → (length (filter f kept) ≡ 0 → Rest) → ((c && f x) ≡ false) × Rest
      two true n rest = three (f x) n rest
      two false n rest = (refl, rest n)

      one : (b : Bool) → length (filter f (filter g (cond b (x ∷ filter h xs) (filter h xs)))) ≡ 0 → (length (filter f kept) ≡ 0 → Rest) → ((b && (g x && f x)) ≡ false) × Rest
      one true n rest = two (g x) n rest
      one false n rest = (refl, rest n)

-- A pod that is to be judged has succeeded or failed.
by-outcome : (tracked succeeded failed new beyond : Bool) → ((tracked && ((succeeded || failed) && new)) && (beyond && succeeded)) ≡ false → ((tracked && ((succeeded || failed) && new)) && (beyond && failed)) ≡ false
    → ((tracked && ((succeeded || failed) && new)) && beyond) ≡ false
by-outcome false s f n b h g = refl
by-outcome true true f false b h g = refl
by-outcome true true f true false h g = refl
by-outcome true true f true true h g = absurd (true≢false h)
by-outcome true false false n b h g = refl
by-outcome true false true false b h g = refl
by-outcome true false true true false h g = refl
by-outcome true false true true true h g = absurd (true≢false g)

-- Where none of either outcome is left over, none is.
left-none : (job : Job) (pods : List Pod) → leaves_none (counted_in job pods) ≡ true → Each (λ p. is_left_over job (own_pods job pods) p ≡ false) (own_pods job pods)
unfolding counted_in
left-none job pods none =
    let own = own_pods job pods in
    let both = eqb-true (length (left_with job own outcome.Succeeded) + length (left_with job own outcome.Failed)) 0 none in
    each-two (λ p. (is_candidate job p && (not (fits job own p) && same_outcome (outcome_of job.spec p)
    outcome.Succeeded)) ≡ false) (λ p. (is_candidate job p &&
    (not (fits job own p) && same_outcome (outcome_of job.spec p) outcome.Failed)) ≡ false)
    (λ p. is_left_over job own p ≡ false)
    (λ p s f. by-outcome (is_tracked p) (same_outcome (outcome_of job.spec p) outcome.Succeeded) (same_outcome (outcome_of job.spec p) outcome.Failed) (not (is_listed job.status p.uid)) (not (fits job own p)) s f) own
    (filtered-none (λ p. same_outcome (outcome_of job.spec p) outcome.Succeeded) (λ p. not (fits job own p)) (is_candidate job) own (omega (arith, both)))
    (filtered-none (λ p. same_outcome (outcome_of job.spec p) outcome.Failed) (λ p. not (fits job own p)) (is_candidate job) own (omega (arith, both)))

-- A tracked pod of the Job that has ended, and is not left over, is one to release.
ended-due : (job : Job) (own : List Pod) (pod : Pod) → is_open pod ≡ false → is_left_over job own pod ≡ false → is_tracked pod ≡ true → is_to_release job own pod ≡ true
ended-due job own pod closed kept tracked =
    ap (λ t. t && ((not (same_outcome (outcome_of job.spec pod) outcome.Alive) && not (is_left_over job own pod)) || is_listed job.status pod.uid)) tracked
    ∙ or_left (not (same_outcome (outcome_of job.spec pod) outcome.Alive) && not (is_left_over job own pod)) (is_listed job.status pod.uid) (ap (λ e. e && not (is_left_over job own pod)) (by pod.phase closed) ∙ ap not kept)
  where
    failed : (f : Option FailurePolicy) → not (same_outcome (failure_of f pod) outcome.Alive) ≡ true
    failed None = refl
    failed (Some policy) = at (is_ignore (action_of policy pod))
      where
        at : (b : Bool) → not (same_outcome (cond b outcome.Ignored outcome.Failed) outcome.Alive) ≡ true
        at true = refl
        at false = refl

    by : (p : Phase) → not (is_final p) ≡ false
        → not (same_outcome (cond (is_succeeded p) outcome.Succeeded
        (cond (is_failed p || (counts_marked job.spec.replacement && is_marked pod)) (failure_of job.spec.failure pod)
        outcome.Alive)) outcome.Alive) ≡ true
    by phase.Pending h = absurd (true≢false h)
    by phase.Running h = absurd (true≢false h)
    by phase.Succeeded h = refl
    by phase.Failed h = failed job.spec.failure

-- ---- the pods that a sync saw

counted-releases : (job : Job) (pods : List Pod) → (counted_in job pods).releases ≡ uids_of (to_release job (own_pods job pods))
unfolding counted_in
counted-releases job pods = refl

releases-empty : (job : Job) (pods : List Pod) → (counted_in job pods).releases ≡ [] → to_release job (own_pods job pods) ≡ []
unfolding counted_in
releases-empty job pods h = no-map (to_release job (own_pods job pods)) h

-- The pod has ended and is not left over.
abbrev IsDone : Job → List Pod → Pod → Type 0
IsDone job own p = (is_open p ≡ false) × (is_left_over job own p ≡ false)

each-done : (job : Job) (pods : List Pod) → list_any is_open (own_pods job pods) ≡ false → leaves_none (counted_in job pods) ≡ true → Each (IsDone job (own_pods job pods)) (own_pods job pods)
each-done job pods closed left =
    each-two (λ p. is_open p ≡ false) (λ p. is_left_over job (own_pods job pods) p ≡ false) (IsDone job (own_pods job pods)) (λ p c l. (c, l)) (own_pods job pods) (each-fails is_open (own_pods job pods) closed) (left-none job pods left)

-- With none to release, none is tracked.
none-tracked_y : (job : Job) (pods : List Pod) → list_any is_open (own_pods job pods) ≡ false → leaves_none (counted_in job pods) ≡ true → (counted_in job pods).releases ≡ [] → list_any is_tracked (own_pods job pods) ≡ false
none-tracked_y job pods closed left none =
    each-any is_tracked (own_pods job pods)
    (each-two (λ p. IsDone job (own_pods job pods) p) (λ p. is_to_release job (own_pods job pods) p ≡ false) (λ p. is_tracked p ≡ false) (λ p c n. by p c n (is_tracked p) refl) (own_pods job pods)
    (each-done job pods closed left) (each-fails (is_to_release job (own_pods job pods)) (own_pods job pods) (empty-any (is_to_release job (own_pods job pods)) (own_pods job pods) (releases-empty job pods none))))
  where
    by : (p : Pod) → IsDone job (own_pods job pods) p → is_to_release job (own_pods job pods) p ≡ false → (b : Bool) → is_tracked p ≡ b → b ≡ false
    by p c n true t = absurd (true≢false (sym (ended-due job (own_pods job pods) p c.0 c.1 t) ∙ n))
    by p c n false t = refl

abbrev unreleased : List Uid → Pod → Bool
unreleased uids p = is_tracked p && not (is_in p.uid uids)

-- Each that is tracked is to be released.
none-unreleased_y : (job : Job) (b : Basis) → b.job ≡ Some job → list_any is_open (own_pods job b.pods) ≡ false → leaves_none (counted_in job b.pods) ≡ true → list_any (unreleased (planned b).releases) (own_pods job b.pods) ≡ false
none-unreleased_y job b there closed left =
    each-any (unreleased (planned b).releases) (own_pods job b.pods)
    (each-two (IsDone job (own_pods job b.pods)) (λ p. is_to_release job (own_pods job b.pods) p ≡ true → is_in p.uid (counted_in job b.pods).releases ≡ true) (λ p. unreleased (planned b).releases p ≡ false)
    (λ p c i. by p c i (is_tracked p) refl) (own_pods job b.pods) (each-done job b.pods closed left)
    (subst (λ us. Each (λ p. is_to_release job (own_pods job b.pods) p ≡ true → is_in p.uid us ≡ true) (own_pods job b.pods)) (sym (counted-releases job b.pods)) (passes_in (is_to_release job (own_pods job b.pods)) (own_pods job b.pods))))
  where
    by : (p : Pod) → IsDone job (own_pods job b.pods) p → (is_to_release job (own_pods job b.pods) p ≡ true → is_in p.uid (counted_in job b.pods).releases ≡ true) → (t : Bool) → is_tracked p ≡ t → (t && not (is_in p.uid (planned b).releases)) ≡ false
    by p c i false t = refl
    by p c i true t = ap not (due-released p.uid job b there (i (ended-due job (own_pods job b.pods) p c.0 c.1 t)))

-- ---- the pods that are there

module _ (log : List Entry) (stored : Stored log) (notes : List Note) (w : ℕ) (b : Basis) (flight : IsFlight log notes w b) (job : Job) (there : b.job ≡ Some job) (wound : LeavesNoPod job b) where
  none-made : pods_made b.key log ≤ pods_made b.key (upto b.pods_at.0 log)
  none-made = let m = flight.made in let c = ap length (plan-creates b job there ∙ wound.creates) in omega (arith, m, c)

  still-none : (test : Pod → Bool) → ((old new : Pod) → PodStep old new → test new ≡ true → test old ≡ true) → list_any test (own_pods job b.pods) ≡ false → list_any test (own_pods job (pods_under b.key log)) ≡ false
  still-none test lasts h =
      none-any test (own_pods job (pods_under b.key log))
      (omega (arith, own-since b.key job test lasts b.pods_at.0 log stored, none-made, any-none test (own_pods job (pods_under b.key (upto b.pods_at.0 log))) (ap (λ ps. list_any test (own_pods job ps)) (sym flight.basis.pods) ∙ h)))

  pub first-closes : (counted_in job b.pods).releases ≡ [] → IsClosed (own_pods job (pods_under b.key log))
  first-closes none = record { opens = still-none is_open open-lasts wound.closed; tracks = still-none is_tracked tracked-lasts (none-tracked_y job b.pods wound.closed wound.left none) }

  unreleased-lasts : (old new : Pod) → PodStep old new → unreleased (planned b).releases new ≡ true → unreleased (planned b).releases old ≡ true
  unreleased-lasts old new step h =
      let t = tracked-lasts old new step ((and_parts (is_tracked new) (not (is_in new.uid (planned b).releases)) h).0) in
      ap (λ x. x && not (is_in old.uid (planned b).releases)) t ∙ ap (λ u. not (is_in u (planned b).releases)) (sym step.uid) ∙ (and_parts (is_tracked new) (not (is_in new.uid (planned b).releases)) h).1

  lost-of : (uids : List Uid) → AreLost log uids → (u : Uid) → is_in u uids ≡ true → is_lost (life u log) ≡ true
  lost-of [] h u i = absurd (true≢false (sym i))
  lost-of (v ∷ uids) h u i = by (same_uid v u) refl i (lost-of uids h.1 u)
    where
      by : (t : Bool) → same_uid v u ≡ t → (t || is_in u uids) ≡ true → (is_in u uids ≡ true → is_lost (life u log) ≡ true) → is_lost (life u log) ≡ true
      by true t i ih = subst (λ x. is_lost (life x log) ≡ true) (same_uid-eq v u t) h.0
      by false t i ih = ih i

  pub second-closes : AreLost log (planned b).releases → IsClosed (own_pods job (pods_under b.key log))
  second-closes lost = record {
    opens = still-none is_open open-lasts wound.closed;
    tracks =
        each-any is_tracked (own_pods job (pods_under b.key log))
        (each-two (λ p. unreleased (planned b).releases p ≡ false) (λ p. life p.uid log ≡ Live p) (λ p. is_tracked p ≡ false) (λ p n l. by p n l (is_tracked p) refl) (own_pods job (pods_under b.key log))
        (each-fails (unreleased (planned b).releases) (own_pods job (pods_under b.key log)) (still-none (unreleased (planned b).releases) unreleased-lasts (none-unreleased_y job b there wound.closed wound.left)))
        (Each-filter (λ p. life p.uid log ≡ Live p) (is_own job) (pods_under b.key log) (Each-filter (λ p. life p.uid log ≡ Live p) (λ p. same_key p.owner b.key) (pods_in log) (pods_in-live log))));
  }
    where
      by : (p : Pod) → unreleased (planned b).releases p ≡ false → life p.uid log ≡ Live p → (t : Bool) → is_tracked p ≡ t → t ≡ false
      by p n l false t = refl
      by p n l true t = at (is_in p.uid (planned b).releases) refl
        where
          at : (i : Bool) → is_in p.uid (planned b).releases ≡ i → true ≡ false
          at true i = absurd (true≢false (sym (lost-of (planned b).releases lost p.uid i) ∙ ap is_lost l ∙ ap not t))
          at false i = absurd (true≢false (sym (ap (λ x. x && not (is_in p.uid (planned b).releases)) t ∙ ap not i) ∙ n))
