use Rattle.jc_print.proofs.Writing.{put_behind}
use Rattle.jc_texts.proofs.changes.print_ends.Goals as goal

pub returns : goal.returns
returns c =
    put_behind _ _ _ _ _ _ c.in_ok-writer.ensures.tokens c.in_ok-write_ends.ensures c.put_written.ensures
