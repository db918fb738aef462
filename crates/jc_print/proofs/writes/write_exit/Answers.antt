use Rattle.jc_print.proofs.Writing.{adds_exit, keyed}
use Rattle.jc_print.proofs.writes.write_exit.Goals as goal

pub returns : goal.returns
returns c =
    keyed _ _ _ _ _ _ c.in_ok-key.ensures
    (adds_exit _ _ _ _ _ c.ranges.exit c.from.ensures c.in_ok-i64.ensures)
