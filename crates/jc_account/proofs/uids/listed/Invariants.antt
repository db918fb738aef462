use Rattle.std.proofs.Common.{◌≡◌, take}
use Rattle.jc_account.proofs.uids.listed.Given as goal

-- The UIDs listed so far are those before the index.
abbrev pub invariant-loop-uid : goal.invariant-loop-uid
invariant-loop-uid l = l.list ≡ take l.uid-index l.uids
