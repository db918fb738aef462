use Rattle.std.proofs.Common.{ap, arith, length, ◌∙◌}
use Rattle.jc_runs.specs.Seen.{Seen}
use Rattle.jc_seats.proofs.OwnFacts.{one-more, turned}
use Rattle.jc_seats.proofs.shared_run.SharedRun.turns.Goals as goal

-- An event more.
pub loop-turn-preserved : goal.loop-turn-preserved
loop-turn-preserved g c =
    let i = c.loop-turn.invariant in
    let went = c.in_ok-next.ensures.went c.in-Went.is in
    let so = i.3 in
    let more = ap (λ (s : Seen). length s.pasts) went.1.seen in (
      one-more c.args.player.now c.loop-turn.player c.args.self.now c.loop-turn.self c.turn.new.self i.1 i.2 i.0 went,
      c.in_ok-next.ensures.player.0 ∙ i.1,
      c.in_ok-next.ensures.player.1 ∙ i.2,
      omega (arith, so, more),
    )

-- Whatever the last turn was, it was an event of its own or left what has happened.
pub returns-in_default-clause-own : goal.returns-in_default-clause-own
returns-in_default-clause-own g c =
    let i = c.loop-turn.invariant in
    turned c.args.player.now c.loop-turn.player c.args.self.now c.loop-turn.self c.turn.new.self i.1 i.2 i.0 c.in_ok-next.ensures.own
