use Rattle.std.proofs.Common.{◌≡◌, take}
use Rattle.jc_account.specs.Judgements.{uids_judged}
use Rattle.jc_account.proofs.judgements.uids_judged.Given as goal

-- The UIDs so far are those of the rows before the index with this outcome.
abbrev pub invariant-loop-row : goal.invariant-loop-row
invariant-loop-row l = l.uids ≡ uids_judged l.want (take l.row-index l.rows)
