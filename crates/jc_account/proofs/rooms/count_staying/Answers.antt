-- Where no UID is listed no pod stays listed.
use Rattle.std.proofs.Common.{◌+◌, length, ap, sym, ◌∙◌}
use Rattle.jc_types.specs.declared.statuses.JobStatus.{JobStatus}
use Rattle.jc_account.proofs.ShortFacts.{none-staying}
use Rattle.jc_account.proofs.rooms.count_staying.Goals as goal

pub returns-then-lists_none : goal.returns-then-lists_none
returns-then-lists_none c =
    none-staying c.args.job.now c.args.pods.now
    (ap (λ (s : JobStatus). length s.uncounted_succeeded + length s.uncounted_failed) (sym c.deref.ensures) ∙ c.lists_none.ensures.0 c.if-lists_none.true)
