-- The members of what is counted in.
use Rattle.std.proofs.Common.{◌+◌, ◌-◌, length, refl, ap, subst, sym, ◌∙◌, arith}
use Rattle.jc_types.specs.declared.limits.TheConstants.{MOST_UNCOUNTED}
use Rattle.jc_types.specs.declared.specifications.JobSpec.{JobSpec}
use Rattle.jc_types.specs.declared.statuses.JobStatus.{JobStatus}
use Rattle.jc_types.proofs.ListFacts.{filter_filter}
use Rattle.jc_states.specs.Bases.{is_own, own_pods}
use Rattle.jc_states.specs.UidLists.{Ascends}
use Rattle.jc_failpol.specs.declared.outcomes.Outcome.TheVariants.{Failed, Succeeded}
use Rattle.jc_account.specs.Judged.{is_staying, stayed}
use Rattle.jc_account.specs.Modes.{gain}
use Rattle.jc_account.proofs.AccountFacts.{newly-order}
use Rattle.jc_account.proofs.Totals.{counted, successes_fit}
use Rattle.jc_account.proofs.accounts.count_job.Goals as goal

pub returns-clause-counted : goal.returns-clause-counted
returns-clause-counted c =
    let job = c.args.job.now in
    let pods = c.args.pods.now in
    let at = c.deref-status.ensures in
    counted job pods _ c.deref.result.now
    c.in_ok-stayed_succeeded.stayed_succeeded c.in_ok-stayed_failed.stayed_failed
    c.in_ok-newly.newly.succeeded c.in_ok-newly.newly.failed
    c.in_ok-newly.newly.completed c.raised-total.result
    c.deref.ensures
    (c.in_ok-stayed_succeeded.ensures.stayed ∙ ap (stayed (own_pods job pods)) (c.as_slice.ensures ∙ ap (λ (s : JobStatus). s.uncounted_succeeded) at))
    (c.in_ok-stayed_failed.ensures.stayed ∙ ap (stayed (own_pods job pods)) (c.as_slice-2.ensures ∙ ap (λ (s : JobStatus). s.uncounted_failed) at))
    c.in_ok-newly.ensures.succeeded
    c.in_ok-newly.ensures.failed
    c.in_ok-newly.ensures.completed
    (c.raised-total.ensures ∙ ap (λ (s : JobStatus). s.succeeded + length s.uncounted_succeeded) at)
    c.in_ok-with_successes.ensures.merged
    c.in_ok-merged.ensures.merged
    c.succeeded.ensures.total
    (c.raised.ensures ∙ ap (λ (s : JobStatus). s.failed + length s.uncounted_failed) at)
    refl
    c.in_ok-releases.ensures
    (λ some is. c.gain.ensures some is
    ∙ ap (λ (s : JobStatus). gain c.deref.result.now.mode some s.completed c.in_ok-newly.newly.completed) at)
    c.len.ensures
    c.new.ensures
    c.new-2.ensures
    refl
    c.in_ok-newly.ensures.left_succeeded
    c.in_ok-newly.ensures.left_failed

pub returns-clause-failed_fits : goal.returns-clause-failed_fits
returns-clause-failed_fits c =
    omega (
      arith,
      c.raised.ensures ∙ ap (λ (s : JobStatus). s.failed + length s.uncounted_failed) c.deref-status.ensures,
      c.in_ok-merged.ensures.no_longer,
      c.in_ok-newly.ensures.few_failed,
      c.requires.totals.1,
    )

pub returns-clause-succeeded_fits : goal.returns-clause-succeeded_fits
returns-clause-succeeded_fits c =
    let status = c.args.job.now.status in
    let at = c.deref-status.ensures in
    successes_fit c.deref.result.now.mode c.raised-total.result c.succeeded.result
    (length c.in_ok-stayed_succeeded.stayed_succeeded) (length c.in_ok-newly.newly.succeeded) (length c.in_ok-with_successes.field-0)
    c.in_ok-newly.newly.left_succeeded (length c.args.pods.now) status.succeeded (length status.uncounted_succeeded)
    c.succeeded.ensures.plain c.succeeded.ensures.indexed
    (λ e. ap length (c.requires.by_index (sym (ap (λ (spec : JobSpec). spec.mode) c.deref.ensures) ∙ e)).0)
    (c.raised-total.ensures ∙ ap (λ (s : JobStatus). s.succeeded + length s.uncounted_succeeded) at)
    c.in_ok-with_successes.ensures.no_longer
    (λ e. ap length (c.in_ok-with_successes.ensures.indexed e))
    (omega (arith, c.in_ok-stayed_succeeded.ensures.shorter, ap length (c.as_slice.ensures ∙ ap (λ (s : JobStatus). s.uncounted_succeeded) at)))
    c.in_ok-newly.ensures.few_succeeded c.requires.few_pods c.requires.totals.0

-- The room is what those leave that stay.
pub judge-requires-clause-room : goal.judge-requires-clause-room
judge-requires-clause-room c =
    let job = c.args.job.now in
    c.room_beside-room.ensures
    ∙ ap (λ n. MOST_UNCOUNTED - n) (c.count_staying.ensures ∙ ap length (sym (filter_filter (is_staying job) (is_own job) c.args.pods.now)))

-- What is judged ascends.
pub with_successes-requires : goal.with_successes-requires
with_successes-requires c =
    subst Ascends (sym c.in_ok-newly.ensures.succeeded) (newly-order c.args.job.now c.args.pods.now Succeeded c.requires.rising)

pub merged-requires : goal.merged-requires
merged-requires c =
    subst Ascends (sym c.in_ok-newly.ensures.failed) (newly-order c.args.job.now c.args.pods.now Failed c.requires.rising)
