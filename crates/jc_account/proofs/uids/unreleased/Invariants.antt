use Rattle.std.proofs.Common.{◌≡◌, ◌≤◌, length, take}
use Rattle.jc_account.specs.Accounts.{unreleased}
use Rattle.jc_account.proofs.uids.unreleased.Given as goal

-- The UIDs so far are those before the index that are not among the released ones, and one looks on among these.
abbrev pub invariant-loop-uid : goal.invariant-loop-uid
invariant-loop-uid l = record {
  rest : l.rest ≡ unreleased l.released (take l.uid-index l.uids);
  within : l.from ≤ length l.released;
}
