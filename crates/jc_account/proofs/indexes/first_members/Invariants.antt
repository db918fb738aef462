use Rattle.std.proofs.Common.{◌≡◌, take}
use Rattle.jc_account.proofs.indexes.first_members.Given as goal

-- The members so far are those before the place.
abbrev pub invariant-loop-place : goal.invariant-loop-place
invariant-loop-place l = l.members ≡ take l.place l.set
