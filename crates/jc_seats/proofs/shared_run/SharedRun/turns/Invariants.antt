use Rattle.std.proofs.Common.{◌≡◌, ◌+◌, length}
use Rattle.jc_seats.proofs.OwnFacts.{Happened}
use Rattle.jc_seats.proofs.shared_run.SharedRun.turns.Given as goal

-- Each turn was an event of the player's own, and it is the same player.
abbrev pub invariant-loop-turn : goal.invariant-loop-turn
invariant-loop-turn g l =
    Happened l.fn.player l.fn.self l.self
    × (l.player.number ≡ l.fn.player.number) × (l.player.threads ≡ l.fn.player.threads)
    × (length l.self.seen.pasts ≡ length l.fn.self.seen.pasts + l._turn)
