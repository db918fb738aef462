-- How many pods are made at most, and which indexes they get.
use Rattle.std.proofs.Common.{◌≡◌, ℕ, ◌+◌, ◌-◌, ◌<◌, ◌≤◌, ◌==◌, Bool, true, false, cond, not, ◌&&◌, ◌||◌, ◌⊎◌, inl, inr, List, [], length, take, Option, Some, None, unwrap_or, refl, sym, ap, arith, true≢false}
use Rattle.std.specs.List.{All, AllByRecursion as Each, range_with_len}
use Rattle.std.proofs.lemmas.List.{length-map, length-replicate, length-take}
use Rattle.std.proofs.lemmas.List.Elements.{All-from_recursion}
use Rattle.jc_types.specs.declared.objects.Job.{Job}
use Rattle.jc_types.specs.declared.objects.Pod.{Pod}
use Rattle.jc_types.specs.declared.specifications.Mode.{Mode}
use Rattle.jc_types.specs.declared.specifications.Mode.TheVariants.{NonIndexed, Indexed}
use Rattle.jc_types.specs.declared.specifications.Replacement.{Replacement}
use Rattle.jc_types.specs.declared.specifications.Replacement.TheVariants.{TerminatingOrFailed, FailedOnly}
use Rattle.jc_types.specs.declared.syncs.CountIn.{CountIn}
use Rattle.jc_types.specs.Counts.{counts}
use Rattle.jc_types.proofs.ListFacts.{Each-passes, Each-weaker}
use Rattle.jc_manage.specs.Backoffs.{is_delayed_until}
use Rattle.jc_manage.specs.Creations.{creatable, creates, free, holds, is_free, is_done_index, job_lacks, job_wants, keepers, lacking, new_pods, wanted}
use Rattle.jc_states.specs.Pods.{ending_pods, tracked_active_pods}

new-few : (mode : Mode) (n : ℕ) (ms : List ℕ) → length (new_pods mode n ms) ≤ n
new-few NonIndexed n ms = let no : Option ℕ = None in omega (arith, length-replicate n no)
new-few Indexed n ms = omega (arith, length-map (take n ms) (λ (m : ℕ). Some m), length-take n ms)

pub creatable-few : (target : Bool) (job : Job) (own : List Pod) (counted : CountIn) → length (creatable target job own counted) ≤ job_lacks job own counted
creatable-few target job own counted =
    by (job_lacks job own counted) _ target job.spec.suspend (new-few job.spec.mode (job_lacks job own counted) (free (unwrap_or job.spec.completions 0) counted (keepers job.spec.replacement own)))
  where
    by : (n : ℕ) (made : List (Option ℕ)) (t s : Bool) → length made ≤ n → length (cond (t || s) [] made) ≤ n
    by n made true s h = omega arith
    by n made false true h = omega arith
    by n made false false h = h

pub creates-few : (opening : Option ℕ) (now : ℕ) (made : List (Option ℕ)) → length (creates opening now made) ≤ length made
creates-few opening now made = by (is_delayed_until opening now)
  where
    by : (b : Bool) → length (cond b [] made) ≤ length made
    by true = omega arith
    by false = omega arith

lacking-less : (replacement : Replacement) (w a m : ℕ) → lacking replacement w a m ≤ w - a
lacking-less TerminatingOrFailed w a m = omega arith
lacking-less FailedOnly w a m = omega arith

pub lacks-few : (job : Job) (own : List Pod) (counted : CountIn) → job_lacks job own counted ≤ job_wants job own counted - length (tracked_active_pods own)
lacks-few job own counted = lacking-less job.spec.replacement (job_wants job own counted) (length (tracked_active_pods own)) (length (ending_pods own))

pub lacks-ending : (job : Job) (own : List Pod) (counted : CountIn) → job.spec.replacement ≡ FailedOnly → job_lacks job own counted ≡ job_wants job own counted - length (tracked_active_pods own) - length (ending_pods own)
lacks-ending job own counted h = ap (λ r. lacking r (job_wants job own counted) (length (tracked_active_pods own)) (length (ending_pods own))) h

pub wanted-few : (parallelism completions succeeded failed a : ℕ) → wanted parallelism (Some completions) succeeded failed a ≤ parallelism
wanted-few parallelism completions succeeded failed a = omega arith

pub wanted-queue : (parallelism succeeded failed a : ℕ) → (wanted parallelism None succeeded failed a ≡ parallelism) ⊎ (wanted parallelism None succeeded failed a ≡ a)
wanted-queue parallelism succeeded failed a = by (succeeded == 0)
  where
    by : (b : Bool) → (cond b parallelism a ≡ parallelism) ⊎ (cond b parallelism a ≡ a)
    by true = inl refl
    by false = inr refl

-- Where some are made, they fit beside the active ones.
wanted-fit : (completions : Option ℕ) (p s f a c : ℕ) → 0 < c → c ≤ wanted p completions s f a - a → c + a ≤ p
wanted-fit (Some n) p s f a c some h = omega (arith, wanted-few p n s f a, some, h)
wanted-fit None p s f a c some h = by (wanted-queue p s f a)
  where
    by : (wanted p None s f a ≡ p) ⊎ (wanted p None s f a ≡ a) → c + a ≤ p
    by (inl e) = omega (arith, e, some, h)
    by (inr e) = absurd (omega (arith, e, some, h))

-- And beside the ending ones, where these count.
wanted-fit_ending : (completions : Option ℕ) (p s f a m c : ℕ) → 0 < c → c ≤ wanted p completions s f a - a - m → c + a + m ≤ p
wanted-fit_ending (Some n) p s f a m c some h = omega (arith, wanted-few p n s f a, some, h)
wanted-fit_ending None p s f a m c some h = by (wanted-queue p s f a)
  where
    by : (wanted p None s f a ≡ p) ⊎ (wanted p None s f a ≡ a) → c + a + m ≤ p
    by (inl e) = omega (arith, e, some, h)
    by (inr e) = absurd (omega (arith, e, some, h))

pub creatable-fit : (target : Bool) (job : Job) (own : List Pod) (counted : CountIn) → 0 < length (creatable target job own counted) → length (creatable target job own counted) + length (tracked_active_pods own) ≤ job.spec.parallelism
creatable-fit target job own counted some =
    wanted-fit job.spec.completions job.spec.parallelism (counts counted).1 (length counted.failed_indexes) (length (tracked_active_pods own)) (length (creatable target job own counted)) some
    (omega (arith, creatable-few target job own counted, lacks-few job own counted))

pub creatable-fit_ending : (target : Bool) (job : Job) (own : List Pod) (counted : CountIn) → job.spec.replacement ≡ FailedOnly → 0 < length (creatable target job own counted)
    → length (creatable target job own counted) + length (tracked_active_pods own) + length (ending_pods own) ≤ job.spec.parallelism
creatable-fit_ending target job own counted only some =
    wanted-fit_ending job.spec.completions job.spec.parallelism (counts counted).1 (length counted.failed_indexes) (length (tracked_active_pods own)) (length (ending_pods own)) (length (creatable target job own counted)) some
    (omega (arith, creatable-few target job own counted, lacks-ending job own counted only))

left-false : (a b : Bool) → (not a && not b) ≡ true → a ≡ false
left-false true b h = absurd (true≢false (sym h))
left-false false b h = refl

right-false : (a b : Bool) → (not a && not b) ≡ true → b ≡ false
right-false true b h = absurd (true≢false (sym h))
right-false false true h = absurd (true≢false (sym h))
right-false false false h = refl

module _ (completions : ℕ) (counted : CountIn) (kept : List Pod) where
  passes : Each (λ n. is_free counted kept n ≡ true) (free completions counted kept)
  passes = Each-passes (is_free counted kept) (range_with_len 0 completions)

  pub free-new : All (λ n. is_done_index counted n ≡ false) (free completions counted kept)
  free-new =
      All-from_recursion (λ n. is_done_index counted n ≡ false) (free completions counted kept)
      (Each-weaker (λ n. is_free counted kept n ≡ true) (λ n. is_done_index counted n ≡ false) (λ n. left-false (is_done_index counted n) (holds kept n)) (free completions counted kept) passes)

  pub free-unkept : All (λ n. holds kept n ≡ false) (free completions counted kept)
  free-unkept =
      All-from_recursion (λ n. holds kept n ≡ false) (free completions counted kept)
      (Each-weaker (λ n. is_free counted kept n ≡ true) (λ n. holds kept n ≡ false) (λ n. right-false (is_done_index counted n) (holds kept n)) (free completions counted kept) passes)
