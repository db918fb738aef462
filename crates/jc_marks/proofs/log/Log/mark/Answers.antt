use Rattle.std.proofs.Common.{rules, ap}
use Rattle.jc_marks.proofs.Keeps.{cuts}
use Rattle.jc_marks.proofs.log.Log.mark.Goals as goal

pub split_seat-place-requires : goal.split_seat-place-requires
split_seat-place-requires c =
    let i = c.self.invariant in
    (i.1, search rules, cuts _ _ (ap (λ m. m.0.is_log) i.2))
