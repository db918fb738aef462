use Rattle.jc_print.proofs.Writing.{adds_number, keyed}
use Rattle.jc_print.proofs.writes.write_number.Goals as goal

pub returns : goal.returns
returns c =
    keyed _ _ _ _ _ _ c.in_ok-key.ensures (adds_number _ _ _ _ _ c.from.ensures c.in_ok-u64.ensures)
