-- How many pods a sync marks, lets go and makes at most, and how many stay ready.
use Rattle.std.proofs.Common.{◌≡◌, ℕ, ◌+◌, ◌-◌, ◌≤◌, ◌==◌, Bool, true, false, cond, not, ◌&&◌, ◌||◌, List, [], ◌∷◌, length, filter, Option, Some, None, refl, ap, ◌∙◌, arith, unwrap_or}
use Rattle.std.proofs.lemmas.List.{length-map, nil_from_length as no_item}
use Rattle.std.proofs.lemmas.List.Elements.{filter_agree}
use Rattle.std.proofs.lemmas.List.Sums.{count_by-le-length, length-filter}
use Rattle.jc_types.specs.declared.limits.TheConstants.{GREATEST_PARALLELISM}
use Rattle.jc_types.specs.declared.objects.Job.{Job}
use Rattle.jc_types.specs.declared.objects.Pod.{Pod}
use Rattle.jc_types.specs.declared.syncs.CountIn.{CountIn}
use Rattle.jc_types.specs.Counts.{counts}
use Rattle.jc_states.specs.UidLists.{is_in}
use Rattle.jc_states.specs.Pods.{is_active, is_marked, is_open, is_ready, is_tracked, is_ending, active_pods, ending_pods, is_tracked_active, tracked_active_pods}
use Rattle.jc_account.proofs.Owned.{filter-least as filter-few}
use Rattle.jc_manage.specs.Creations.{creatable, creates, job_wants, wanted}
use Rattle.jc_manage.specs.LetGoes.{going, is_let_go, is_needless, is_to_mark, let_goes, marks, seen}
use Rattle.jc_manage.specs.declared.results.Wants.{Wants}
use Rattle.jc_plan.specs.PodNumbers.{is_let_go_of, keeps_on, ready_after, stopped_by}
use Rattle.jc_manage.proofs.Bounds.{creatable-few, creates-few, lacks-few, wanted-few}

-- 1 where it holds.
abbrev bit : Bool → ℕ
bit true = 1
bit false = 0

module _ {A : Type 0} where
  filter-step : (f : A → Bool) (x : A) (xs : List A) → length (filter f (x ∷ xs)) ≡ bit (f x) + length (filter f xs)
  filter-step f x xs = by (f x)
    where
      by : (b : Bool) → length (cond b (x ∷ filter f xs) (filter f xs)) ≡ bit b + length (filter f xs)
      by true = omega arith
      by false = omega arith

  -- Two parts that are apart, each in a third, are together no longer than it.
  pub filters-within : (f g h : A → Bool) → ((x : A) → bit (f x) + bit (g x) ≤ bit (h x)) → (xs : List A) → length (filter f xs) + length (filter g xs) ≤ length (filter h xs)
  filters-within f g h each [] = omega arith
  filters-within f g h each (x ∷ xs) =
      omega (arith, filter-step f x xs, filter-step g x xs, filter-step h x xs, each x, filters-within f g h each xs)

-- ---- marks and let-goes

apart-target : (a t : Bool) → bit (a && (true || not t)) + bit false ≤ bit a
apart-target true t = omega arith
apart-target false t = omega arith

apart-own : (a t : Bool) → bit (a && (false || not t)) + bit (a && t) ≤ bit a
apart-own true true = omega arith
apart-own true false = omega arith
apart-own false t = omega arith

apart-open : (o m : Bool) → bit (o && not m) + bit (o && m) ≤ 1
apart-open true true = omega arith
apart-open true false = omega arith
apart-open false m = omega arith

filter-none : {A : Type 0} (xs : List A) → length (filter (λ x. false) xs) ≡ 0
filter-none [] = refl
filter-none (x ∷ xs) = filter-none xs

-- What is let go is a part of the active tracked pods.
going-few : (s : Bool) (tracked chosen : List Pod) → length chosen ≤ length tracked → length (cond s tracked chosen) ≤ length tracked
going-few true tracked chosen h = omega arith
going-few false tracked chosen h = h

-- No more pods are marked and let go than are active.
pub going-active : (target : Bool) (job : Job) (own : List Pod) (counted : CountIn) → length (marks target own) + length (let_goes target job own counted) ≤ length (active_pods own)
going-active true job own counted =
    omega (
      arith,
      length-map (filter (is_to_mark true) own) (λ (pod : Pod). pod.uid),
      filters-within (is_to_mark true) (λ pod. false) is_active (λ pod. apart-target (is_active pod) (is_tracked pod)) own,
    )
going-active false job own counted =
    omega (
      arith,
      length-map (filter (is_to_mark false) own) (λ (pod : Pod). pod.uid),
      length-map (going false job own counted) seen,
      going-few job.spec.suspend (tracked_active_pods own)
          (filter (is_let_go job.spec.mode (is_needless (unwrap_or job.spec.completions 0) counted)
          (job_wants job own counted) (tracked_active_pods own)) (tracked_active_pods own))
          (filter-few (is_let_go job.spec.mode (is_needless (unwrap_or job.spec.completions 0) counted)
          (job_wants job own counted) (tracked_active_pods own)) (tracked_active_pods own)),
      filters-within (is_to_mark false) is_tracked_active is_active (λ pod. apart-own (is_active pod) (is_tracked pod)) own,
    )

filter-all : {A : Type 0} (xs : List A) → length (filter (λ x. true) xs) ≡ length xs
filter-all [] = refl
filter-all (x ∷ xs) = omega (arith, filter-all xs)

-- Active and ending pods are together no more than there are.
pub open-few : (own : List Pod) → length (active_pods own) + length (ending_pods own) ≤ length own
open-few own =
    omega (
      arith,
      filter-all own,
      filters-within is_active is_ending (λ pod. true) (λ pod. apart-open (is_open pod) (is_marked pod)) own,
    )

-- ---- creations

wants-few : (completions : Option ℕ) (parallelism succeeded failed a : ℕ) → parallelism ≤ GREATEST_PARALLELISM → wanted parallelism completions succeeded failed a - a ≤ GREATEST_PARALLELISM
wants-few (Some completions) parallelism succeeded failed a h = omega (arith, wanted-few parallelism completions succeeded failed a, h)
wants-few None parallelism succeeded failed a h = by (succeeded == 0)
  where
    by : (b : Bool) → cond b parallelism a - a ≤ GREATEST_PARALLELISM
    by true = omega (arith, h)
    by false = omega arith

-- A sync makes no more pods than may run at once.
pub creates-bounded : (opening : Option ℕ) (now : ℕ) (target : Bool) (job : Job) (own : List Pod) (counted : CountIn)
    → job.spec.parallelism ≤ GREATEST_PARALLELISM
    → length (creates opening now (creatable target job own counted)) ≤ GREATEST_PARALLELISM
creates-bounded opening now target job own counted h =
    omega (
      arith,
      creates-few opening now (creatable target job own counted),
      creatable-few target job own counted,
      lacks-few job own counted,
      wants-few job.spec.completions job.spec.parallelism (counts counted).1 (length counted.failed_indexes) (length (tracked_active_pods own)) h,
    )

-- ---- pods that are ready

-- Where no pod is marked or let go, all ready pods stay ready.
pub ready-stay : (wants : Wants) (own : List Pod) → stopped_by wants ≡ 0 → ready_after wants own ≡ length (filter is_ready own)
ready-stay wants own none =
    ap length (filter_agree (λ pod. is_ready pod && keeps_on wants pod) is_ready (λ pod. both (is_ready pod) (keeps_on wants pod) (stays pod)) own)
  where
    both : (ready stays : Bool) → stays ≡ true → (ready && stays) ≡ ready
    both true stays is = is
    both false stays is = refl

    stays : (pod : Pod) → keeps_on wants pod ≡ true
    stays pod =
        ap (λ marks. not (is_in pod.uid marks) && not (is_let_go_of pod.uid wants.let_goes)) (no_item wants.marks (omega (arith, none)))
        ∙ ap (λ rows. not (is_let_go_of pod.uid rows)) (no_item wants.let_goes (omega (arith, none)))
