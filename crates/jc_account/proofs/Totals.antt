-- The records that are counted in and out, member by member.
use Rattle.std.proofs.Common.{◌≡◌, ◌<◌, ◌≤◌, ◌+◌, ◌^◌, ◌==◌, nat_lt, ℕ, Bool, true, false, cond, not, List, [], ◌∷◌, length, refl, ap, ◌∙◌, arith}
use Rattle.jc_types.specs.declared.numbers.Uid.{Uid}
use Rattle.jc_types.specs.declared.objects.Job.{Job}
use Rattle.jc_types.specs.declared.objects.Pod.{Pod}
use Rattle.jc_types.specs.declared.specifications.JobSpec.{JobSpec}
use Rattle.jc_types.specs.declared.specifications.Mode.{Mode}
use Rattle.jc_types.specs.declared.specifications.Mode.TheVariants.{Indexed, NonIndexed}
use Rattle.jc_types.specs.declared.statuses.Condition.{Condition}
use Rattle.jc_types.specs.declared.statuses.IndexCount.{IndexCount}
use Rattle.jc_types.specs.declared.statuses.JobStatus.{JobStatus}
use Rattle.jc_types.specs.declared.syncs.CountIn.{CountIn}
use Rattle.jc_states.specs.Bases.{own_pods}
use Rattle.jc_states.specs.UidLists.{is_in, merge, uids_of, with_uid}
use Rattle.jc_failpol.specs.declared.outcomes.Outcome.TheVariants.{Succeeded, Failed}
use Rattle.std.proofs.lemmas.List.{length-map}
use Rattle.std.proofs.lemmas.List.Filters.{length-filter_both}
use Rattle.std.proofs.lemmas.List.Sums.{length-filter}
use Rattle.jc_account.specs.Accounts.{completed_in, counted_in, counted_out, left, released_of, unreleased}
use Rattle.jc_account.specs.Judged.{has_tracked, left_with, newly, stayed, to_release}
use Rattle.jc_account.specs.Modes.{gain, listing, succeeded_after}
use Rattle.jc_account.proofs.Owned.{kept_and_others}

-- The listed UIDs that stay and those that leave are all.
pub stayed_and_left : (own : List Pod) (uids : List Uid) → length (stayed own uids) + left own uids ≡ length uids
stayed_and_left own uids = kept_and_others (has_tracked own) uids

-- A total that is raised by those that are no longer listed.
pub raised_left : (own : List Pod) (uids list : List Uid) (before after : ℕ) → list ≡ stayed own uids → after + length list ≡ before + length uids → after ≡ before + left own uids
raised_left own uids list before after is sum = omega (arith, stayed_and_left own uids, ap length is, sum)

-- What is left of a list that is equal, by released UIDs that are.
pub unreleased_at : {released others us vs list : List Uid} → others ≡ released → vs ≡ us → list ≡ unreleased others vs → list ≡ unreleased released us
unreleased_at {released} {others} {us} {vs} same_released same_us is = is ∙ ap (λ xs. unreleased xs vs) same_released ∙ ap (unreleased released) same_us

-- The record that is counted in.
pub counted : (job : Job) (pods : List Pod) (r : CountIn) (spec : JobSpec) (ss sf ns nf : List Uid) (completed : List ℕ) (total : ℕ)
    → spec ≡ job.spec
    → ss ≡ stayed (own_pods job pods) job.status.uncounted_succeeded
    → sf ≡ stayed (own_pods job pods) job.status.uncounted_failed
    → ns ≡ uids_of (newly job (own_pods job pods) Succeeded)
    → nf ≡ uids_of (newly job (own_pods job pods) Failed)
    → completed ≡ completed_in job (own_pods job pods)
    → total + length ss ≡ job.status.succeeded + length job.status.uncounted_succeeded
    → ((some : List Pod) → ns ≡ uids_of some → r.uncounted_succeeded ≡ merge ss (listing spec.mode some))
    → r.uncounted_failed ≡ merge sf nf
    → r.succeeded ≡ succeeded_after spec.mode total completed
    → r.failed + length sf ≡ job.status.failed + length job.status.uncounted_failed
    → r.completed ≡ completed
    → r.releases ≡ uids_of (to_release job (own_pods job pods))
    → ((some : List Pod) → ns ≡ uids_of some → r.new_succeeded ≡ gain spec.mode some job.status.completed completed)
    → r.new_failed ≡ length nf
    → r.failed_indexes ≡ []
    → r.index_failures ≡ []
    → r.judged_failed ≡ nf
    → r.left_succeeded ≡ length (left_with job (own_pods job pods) Succeeded)
    → r.left_failed ≡ length (left_with job (own_pods job pods) Failed)
    → r ≡ counted_in job pods
unfolding counted_in
counted job pods r spec ss sf ns nf completed total at is_ss is_sf is_ns is_nf is_set raised_s listed_s listed_f in_s raised_f set releases new_s new_f none_i none_f judged left_s left_f =
    let own = own_pods job pods in
    let s = newly job own Succeeded in
    let f = newly job own Failed in
    let status = job.status in
    let e1 : r.uncounted_succeeded ≡ merge (stayed own status.uncounted_succeeded) (listing job.spec.mode s) =
    listed_s s is_ns ∙ ap (λ us. merge us (listing spec.mode s)) is_ss ∙ ap (λ (t : JobSpec). merge (stayed own status.uncounted_succeeded) (listing t.mode s)) at in
    let e2 : r.uncounted_failed ≡ merge (stayed own status.uncounted_failed) (uids_of f) =
    listed_f ∙ ap (λ us. merge us nf) is_sf ∙ ap (merge (stayed own status.uncounted_failed)) is_nf in
    let e3 : r.succeeded ≡ succeeded_after job.spec.mode (status.succeeded + left own status.uncounted_succeeded) (completed_in job own) =
    in_s
    ∙ ap (λ (t : JobSpec). succeeded_after t.mode total completed) at
    ∙ ap (λ n. succeeded_after job.spec.mode n completed) (raised_left own status.uncounted_succeeded ss status.succeeded total is_ss raised_s)
    ∙ ap (succeeded_after job.spec.mode (status.succeeded + left own status.uncounted_succeeded)) is_set in
    let e4 : r.failed ≡ status.failed + left own status.uncounted_failed = raised_left own status.uncounted_failed sf status.failed r.failed is_sf raised_f in
    let e5 : r.completed ≡ completed_in job own = set ∙ is_set in
    let e6 : r.new_succeeded ≡ gain job.spec.mode s status.completed (completed_in job own) =
    new_s s is_ns ∙ ap (λ (t : JobSpec). gain t.mode s status.completed completed) at ∙ ap (gain job.spec.mode s status.completed) is_set in
    let e7 : r.new_failed ≡ length f = new_f ∙ ap length is_nf ∙ length-map f (λ (pod : Pod). pod.uid) in
    λ i. record {
      uncounted_succeeded = e1 i;
      uncounted_failed = e2 i;
      succeeded = e3 i;
      failed = e4 i;
      completed = e5 i;
      releases = releases i;
      new_succeeded = e6 i;
      new_failed = e7 i;
      failed_indexes = none_i i;
      index_failures = none_f i;
      judged_failed = (judged ∙ is_nf) i;
      left_succeeded = left_s i;
      left_failed = left_f i;
    }

-- Those that are released and those that are not are all.
pub unreleased_and_released : (released uids : List Uid) → length (unreleased released uids) + released_of released uids ≡ length uids
unreleased_and_released released uids =
    let both = length-filter_both (λ u. is_in u released) (λ u. not (is_in u released)) (λ u. refl) uids in
    omega (arith, both, length-filter (λ u. is_in u released) uids)

-- The status that is counted out.
pub counted_apart : (status : JobStatus) (released : List Uid) (r : JobStatus) (us uf : List Uid)
    → us ≡ unreleased released status.uncounted_succeeded
    → uf ≡ unreleased released status.uncounted_failed
    → r ≡ record status {
      succeeded = r.succeeded;
      failed = r.failed;
      uncounted_succeeded = us;
      uncounted_failed = uf;
    }
    → r.succeeded + length us ≡ status.succeeded + length status.uncounted_succeeded
    → r.failed + length uf ≡ status.failed + length status.uncounted_failed
    → r ≡ counted_out status released
unfolding counted_out
counted_apart status released r us uf is_us is_uf is sum_s sum_f =
    let e1 : r.succeeded ≡ status.succeeded + released_of released status.uncounted_succeeded =
    omega (arith, unreleased_and_released released status.uncounted_succeeded, ap length is_us, sum_s) in
    let e2 : r.failed ≡ status.failed + released_of released status.uncounted_failed =
    omega (arith, unreleased_and_released released status.uncounted_failed, ap length is_uf, sum_f) in
    is ∙ (λ i. record status {
      succeeded = e1 i;
      failed = e2 i;
      uncounted_succeeded = is_us i;
      uncounted_failed = is_uf i;
    })

-- A status whose unchanged members are equal.
pub same_members : (status : JobStatus) (succeeded failed : ℕ) (us vs uf vf : List Uid) {completed failed_indexes : List ℕ} {index_failures : List IndexCount} {conditions : List Condition}
    → completed ≡ status.completed → failed_indexes ≡ status.failed_indexes → index_failures ≡ status.index_failures → us ≡ vs → uf ≡ vf → conditions ≡ status.conditions
    → record status {
      succeeded = succeeded;
      failed = failed;
      completed = completed;
      failed_indexes = failed_indexes;
      index_failures = index_failures;
      uncounted_succeeded = us;
      uncounted_failed = uf;
      conditions = conditions;
    } ≡ record status {
      succeeded = succeeded;
      failed = failed;
      uncounted_succeeded = vs;
      uncounted_failed = vf;
    }
same_members status succeeded failed us vs uf vf set failing counts same_s same_f same_conditions =
    λ i. record status {
      succeeded = succeeded;
      failed = failed;
      completed = set i;
      failed_indexes = failing i;
      index_failures = counts i;
      uncounted_succeeded = same_s i;
      uncounted_failed = same_f i;
      conditions = same_conditions i;
    }

-- One UID more makes a list longer by at most one, and a merge is at most as long as both lists.
with_uid-few : (u : Uid) (uids : List Uid) → length (with_uid u uids) ≤ length uids + 1
with_uid-few u [] = omega arith
with_uid-few u (v ∷ uids) = by (nat_lt u.0 v.0) (u.0 == v.0) (with_uid-few u uids)
  where
    by : (lt eq : Bool) → length (with_uid u uids) ≤ length uids + 1 → length (cond lt (u ∷ v ∷ uids) (cond eq (v ∷ uids) (v ∷ with_uid u uids))) ≤ length (v ∷ uids) + 1
    by true eq h = omega arith
    by false true h = omega arith
    by false false h = omega (arith, h)

pub merge-few : (uids more : List Uid) → length (merge uids more) ≤ length uids + length more
merge-few uids [] = omega arith
merge-few uids (u ∷ more) = omega (arith, with_uid-few u (merge uids more), merge-few uids more)

-- Total and list of the successes stay small, with those that are left over: without indexes they rise by the pods at
-- most, and an Indexed Job lists none.
pub successes_fit : (mode : Mode) (total succeeded stays new listed left pods before were : ℕ)
    → (mode ≡ NonIndexed → succeeded ≡ total) → (mode ≡ Indexed → succeeded ≤ 100000) → (mode ≡ Indexed → were ≡ 0)
    → total + stays ≡ before + were → listed ≤ stays + new → (mode ≡ Indexed → listed ≡ stays) → stays ≤ were → new + left ≤ pods → pods < 2 ^ 31
    → before + were + pods < 2 ^ 64 → succeeded + listed + left < 2 ^ 64
successes_fit NonIndexed total succeeded stays new listed left pods before were plain small none sum few same shorter fresh some fits =
    omega (arith, plain refl, sum, few, fresh, fits)
successes_fit Indexed total succeeded stays new listed left pods before were plain small none sum few same shorter fresh some fits =
    omega (arith, small refl, none refl, same refl, shorter, fresh, some)
