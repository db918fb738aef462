use Rattle.jc_print.proofs.Writing.{put_behind}
use Rattle.jc_texts.proofs.changes.print_phase_change.Goals as goal

pub returns : goal.returns
returns c =
    put_behind _ _ _ _ _ _ c.in_ok-writer.ensures.tokens c.in_ok-write_phase_change.ensures c.put_written.ensures
