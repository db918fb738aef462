use Rattle.std.proofs.Common.{◌≡◌, length}
use Rattle.jc_shared.proofs.monitor.players_of.Given as goal

-- So many seats as numbers so far.
abbrev pub invariant-loop-number : goal.invariant-loop-number
invariant-loop-number l = length l.players.items ≡ l.number
