-- Completions bound how many pods may still be made for a Job.
use Rattle.std.proofs.Common.{◌≡◌, ℕ, ◌+◌, ◌≤◌, Bool, true, false, cond, not, ◌||◌, List, [], filter, length, Some, refl, sym, ap, ◌∙◌, subst, arith}
use Rattle.std.specs.List.{range_with_len}
use Rattle.std.specs.Option.{unwrap_or}
use Rattle.std.proofs.Math.Seq.{drop-append_seam}
use Rattle.std.proofs.lemmas.List.Filters.{length-filter_both}
use Rattle.std.proofs.lemmas.List.FromFn.{length-range_with_len}
use Rattle.jc_types.specs.declared.actions.End.{End}
use Rattle.jc_types.specs.declared.objects.Job.{Job}
use Rattle.jc_types.specs.declared.objects.Pod.{Pod}
use Rattle.jc_types.specs.declared.runs.Shape.{Shape}
use Rattle.jc_types.specs.declared.specifications.Mode.{Mode}
use Rattle.jc_types.specs.declared.specifications.Mode.TheVariants.{NonIndexed, Indexed}
use Rattle.jc_states.specs.Conditions.{has_target}
use Rattle.jc_log.specs.Deeds.{Deed}
use Rattle.jc_log.specs.Log.{made_for}
use Rattle.jc_runs.specs.Replies.{log_given}
use Rattle.jc_making.specs.Making.{creations_left, fails, is_closed, may_be_made, misses, open_indexes, places, places_of, pods_succeeded}
use Rattle.jc_bearing.specs.AtMost.{pods_at_most}
use Rattle.jc_counted.proofs.CountedFacts.{Stay, legal-none-own}
use Rattle.jc_bounded.specs.Faultless.{IsFaultless, SucceedsAtLast, made_on}
use Rattle.jc_bounded.proofs.FoldFacts.{stays-within}

module _ (ends : List End) (made n : ℕ) (job : Job) (own : List Pod) (is : job.spec.completions ≡ Some n) where
  few-open : length (open_indexes job own) ≤ n
  few-open =
      let split = length-filter_both (λ i. not (is_closed job own i)) (λ i. not (not (is_closed job own i))) (λ i. refl) (range_with_len 0 (unwrap_or job.spec.completions 0)) in
      let all = length-range_with_len 0 (unwrap_or job.spec.completions 0) ∙ ap (λ o. unwrap_or o 0) is in omega (arith, split, all)

  few-places : places job own ≤ n
  few-places = by job.spec.mode
    where
      by : (m : Mode) → places_of m job.spec.completions job.spec.parallelism (pods_succeeded job own) (open_indexes job own) ≤ n
      by NonIndexed = subst (λ o. places_of NonIndexed o job.spec.parallelism (pods_succeeded job own) (open_indexes job own) ≤ n) (sym is) (omega arith)
      by Indexed = few-open

  pub few-left : creations_left ends made job own ≤ n + misses ends made own
  few-left = by (has_target job.status.conditions || job.spec.suspend)
    where
      by : (b : Bool) → cond b 0 (may_be_made ends made job own) ≤ n + misses ends made own
      by true = omega arith
      by false = let few = few-places in omega (arith, few)

-- Of a Job for which none was made yet.
pub new-few : Stay → (shape : Shape) (past : List Deed) (events n : ℕ) (ends : List End) (job : Job) → IsFaultless shape past → SucceedsAtLast shape past ends job → job.spec.completions ≡ Some n → made_for job.uid (log_given shape past) ≡ 0
    → made_on shape events past job ≤ n + length (filter fails ends)
new-few stay shape past events n ends job f well is made =
    let most = stays-within stay shape ends events past f job well in
    let left = few-left ends 0 n job [] is in
    let none = legal-none-own stay shape past f.between.legal f.between.valid job made in
    let now : pods_at_most ends (log_given shape past) job ≡ 0 + creations_left ends 0 job [] = (λ i. made i + creations_left ends (made i) job (none i)) in
    let all = ap (λ xs. length (filter fails xs)) (drop-append_seam [] ends) in
    omega (arith, most, left, now, all)
