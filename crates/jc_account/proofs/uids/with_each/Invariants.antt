use Rattle.std.proofs.Common.{◌≡◌, drop}
use Rattle.jc_states.specs.UidLists.{merge}
use Rattle.jc_account.proofs.uids.with_each.Given as goal

-- The UIDs so far are those with the others from the place on.
abbrev pub invariant-loop-place : goal.invariant-loop-place
invariant-loop-place l = l.all.items ≡ merge l.uids (drop l.place l.more)
