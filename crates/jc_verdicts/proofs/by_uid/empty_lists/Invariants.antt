use Rattle.jc_verdicts.specs.ByUid.{AreEmpty}
use Rattle.jc_verdicts.proofs.by_uid.empty_lists.Given as goal

-- The lists so far are empty.
abbrev pub invariant-loop : goal.invariant-loop
invariant-loop l = AreEmpty l.lists.items
