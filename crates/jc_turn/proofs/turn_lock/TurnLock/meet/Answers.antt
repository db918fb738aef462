use Rattle.std.proofs.Common.{rules, ◌≡◌}
use Rattle.jc_turn.specs.declared.board.LockStage.TheVariants.{Rests}
use Rattle.jc_turn.proofs.Keeps.{notes}
use Rattle.jc_turn.proofs.turn_lock.TurnLock.meet.Goals as goal

pub split_seat-note-requires : goal.split_seat-note-requires
split_seat-note-requires g c =
    let r : c.rise-giver.result.me.0.stage ≡ Rests = search rules in
    (search rules, search rules, notes g.T.Booked.pasts _ _ _ r)
