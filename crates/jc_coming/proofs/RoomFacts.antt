-- A Job of whose own pods none is to be released has none to judge: there is all the room, so the first would have been
-- judged and released.
use Rattle.std.proofs.Common.{◌≡◌, ◌-◌, Bool, true, false, not, nat_lt, ◌&&◌, ◌||◌, List, [], ◌∷◌, filter, length, refl, sym, ap, ◌∙◌, true≢false}
use Rattle.std.specs.List.{AllByRecursion as Each}
use Rattle.std.proofs.lemmas.Bool.{or_left, or_right}
use Rattle.jc_types.specs.declared.limits.TheConstants.{MOST_UNCOUNTED}
use Rattle.jc_types.specs.declared.objects.Job.{Job}
use Rattle.jc_types.specs.declared.objects.Pod.{Pod}
use Rattle.jc_types.proofs.ListFacts.{Each-both, Each-filter, Each-passes, Each-weaker, filter_none}
use Rattle.jc_states.specs.Bases.{is_own, own_pods}
use Rattle.jc_states.specs.Listed.{is_listed}
use Rattle.jc_states.specs.PodLists.{IsRising, RisesFrom}
use Rattle.jc_states.specs.Pods.{is_tracked}
use Rattle.jc_states.proofs.PodListFacts.{rises_filter}
use Rattle.jc_account.specs.Accounts.{counted_in}
use Rattle.jc_account.specs.Judged.{candidates, fits, is_candidate, is_left_over, is_staying, is_to_release, left_with, newly, room, to_release}
use Rattle.jc_account.specs.Rooms.{judged_within, left_beyond, precedes, takes_room}
use Rattle.jc_account.proofs.RoomFacts.{first-preceded}
use Rattle.jc_plan.specs.Outcome.{Outcome}
use Rattle.jc_plan.specs.Outcome.TheVariants as outcome
use Rattle.jc_plan.specs.Outcomes.{is_verdict, outcome_of, same_outcome}
use Rattle.jc_coming.proofs.Lists.{length-mapped, none-pass}

-- ---- one pod

verdict-ended : (o : Outcome) → is_verdict o ≡ true → same_outcome o outcome.Alive ≡ false
verdict-ended outcome.Succeeded h = refl
verdict-ended outcome.Failed h = refl
verdict-ended outcome.Ignored h = refl
verdict-ended outcome.Alive h = absurd (true≢false (sym h))

unlisted : (t x l : Bool) → (t && (x || l)) ≡ false → (t && l) ≡ false
unlisted false x l h = refl
unlisted true true l h = absurd (true≢false h)
unlisted true false l h = h

unfit : (t v l a f : Bool) → (v ≡ true → a ≡ false) → (t && ((not a && not ((t && (v && not l)) && not f)) || l)) ≡ false → (t && (v && not l)) ≡ true → f ≡ false
unfit false v l a f e h c = absurd (true≢false (sym c))
unfit true false l a f e h c = absurd (true≢false (sym c))
unfit true true true a f e h c = absurd (true≢false (sym c))
unfit true true false true f e h c = absurd (true≢false (e refl))
unfit true true false false true e h c = absurd (true≢false h)
unfit true true false false false e h c = refl

-- ---- all pods

module _ (job : Job) (pods : List Pod) (rises : IsRising pods) (none : (counted_in job pods).releases ≡ []) where
  abbrev own : List Pod
  own = own_pods job pods

  pub unreleased : Each (λ p. is_to_release job own p ≡ false) own
  unfolding counted_in
  unreleased =
      none-pass (is_to_release job own) own (sym (length-mapped (λ (pod : Pod). pod.uid) (to_release job own)) ∙ ap length none)

  all-room : room job own ≡ MOST_UNCOUNTED
  all-room =
      ap (λ (some : List Pod). MOST_UNCOUNTED - length some)
      (filter_none (is_staying job) own
      (Each-weaker (λ p. is_to_release job own p ≡ false) (λ p. is_staying job p ≡ false)
      (λ p h. unlisted (is_tracked p) (not (same_outcome (outcome_of job.spec p) outcome.Alive) && not (is_left_over job own p)) (is_listed job.status p.uid) h) own unreleased))

  none-fits : Each (λ p. fits job own p ≡ false) (candidates job own)
  none-fits =
      Each-weaker (λ p. (is_candidate job p ≡ true) × (is_to_release job own p ≡ false)) (λ p. fits job own p ≡ false)
      (λ p h. unfit (is_tracked p) (is_verdict (outcome_of job.spec p)) (is_listed job.status p.uid) (same_outcome (outcome_of job.spec p) outcome.Alive) (fits job own p) (verdict-ended (outcome_of job.spec p)) h.1 h.0) (candidates job own)
      (Each-both (λ p. is_candidate job p ≡ true) (λ p. is_to_release job own p ≡ false) (candidates job own) (Each-passes (is_candidate job) own)
      (Each-filter (λ p. is_to_release job own p ≡ false) (is_candidate job) own unreleased))

  abbrev takers : List Pod
  takers = filter (takes_room job.spec) (candidates job own)

  none-takes : takers ≡ []
  none-takes =
      by takers refl (rises_filter 0 (takes_room job.spec) (candidates job own) (rises_filter 0 (is_candidate job) own (rises_filter 0 (is_own job) pods rises)))
      (Each-filter (λ p. fits job own p ≡ false) (takes_room job.spec) (candidates job own) none-fits)
    where
      by : (some : List Pod) → takers ≡ some → RisesFrom 0 some → Each (λ p. fits job own p ≡ false) some → some ≡ []
      by [] is up h = refl
      by (pod ∷ some) is up h = absurd (true≢false (sym fit ∙ h.0))
        where
          fit : fits job own pod ≡ true
          fit =
              or_right (not (takes_room job.spec pod)) (nat_lt (length (filter (precedes pod.uid) takers)) (room job own))
              (ap (λ xs. nat_lt (length (filter (precedes pod.uid) xs)) (room job own)) is
              ∙ ap (λ xs. nat_lt (length xs) (room job own)) (first-preceded pod some up.1) ∙ ap (nat_lt 0) all-room)

  pub no-candidates : candidates job own ≡ []
  no-candidates = by (candidates job own) (none-pass (takes_room job.spec) (candidates job own) (ap length none-takes)) none-fits
    where
      by : (some : List Pod) → Each (λ p. takes_room job.spec p ≡ false) some → Each (λ p. fits job own p ≡ false) some → some ≡ []
      by [] a b = refl
      by (pod ∷ some) a b =
          absurd (true≢false (sym (or_left (not (takes_room job.spec pod)) (nat_lt (length (filter (precedes pod.uid) takers)) (room job own)) (ap not a.0)) ∙ b.0))

-- ---- without candidates none is judged or left over

module _ (job : Job) (own : List Pod) (none : candidates job own ≡ []) where
  pub none-newly : (o : Outcome) → newly job own o ≡ []
  none-newly o = ap (λ some. filter (λ (pod : Pod). same_outcome (outcome_of job.spec pod) o) (judged_within job.spec (room job own) some)) none

  pub none-left : (o : Outcome) → left_with job own o ≡ []
  none-left o = ap (λ some. filter (λ (pod : Pod). same_outcome (outcome_of job.spec pod) o) (left_beyond job.spec (room job own) some)) none

-- ---- another status brings none

fresh-none : (t v l k x : Bool) → (t && (v && not l)) ≡ false → (t && (x || l)) ≡ false → (t && (v && not k)) ≡ false
fresh-none false v l k x c h = refl
fresh-none true false l k x c h = refl
fresh-none true true false k x c h = absurd (true≢false c)
fresh-none true true true k true c h = absurd (true≢false h)
fresh-none true true true k false c h = absurd (true≢false h)

-- Of a Job with the specification and another status none is to be judged either.
pub none-again : (job new : Job) (own : List Pod) → new.spec ≡ job.spec → candidates job own ≡ [] → Each (λ p. is_to_release job own p ≡ false) own → candidates new own ≡ []
none-again job new own same none unreleased =
    filter_none (is_candidate new) own
    (Each-weaker (λ p. (is_candidate job p ≡ false) × (is_to_release job own p ≡ false)) (λ p. is_candidate new p ≡ false)
    (λ p h. ap (λ spec. is_tracked p && (is_verdict (outcome_of spec p) && not (is_listed new.status p.uid))) same
    ∙ fresh-none (is_tracked p) (is_verdict (outcome_of job.spec p)) (is_listed job.status p.uid) (is_listed new.status p.uid)
    (not (same_outcome (outcome_of job.spec p) outcome.Alive) && not (is_left_over job own p)) h.0 h.1) own
    (Each-both (λ p. is_candidate job p ≡ false) (λ p. is_to_release job own p ≡ false) own (none-pass (is_candidate job) own (ap length none)) unreleased))
