-- Up to the first that is not completed all are completed, and from there on all have failed.
use Rattle.std.proofs.Common.{inl, inr}
use Rattle.std.proofs.lemmas.Bool.{cases_lt, or_left, or_right}
use Rattle.jc_ranges.specs.Sets.{has}
use Rattle.jc_manage.proofs.unheld.past_done.Goals as goal

pub returns-clause-between : goal.returns-clause-between
returns-clause-between c n low high =
    let completed = has n c.args.counted.now.completed in
    let failed = has n c.args.counted.now.failed_indexes in
    elim (cases_lt n c.past_members-from.result) [
      | inl below ↦ or_left completed failed (c.past_members-from.ensures.between n low below)
      | inr above ↦ or_right completed failed (c.past_members.ensures.between n above high)
    ]
