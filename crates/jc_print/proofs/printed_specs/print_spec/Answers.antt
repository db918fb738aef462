use Rattle.jc_print.proofs.Writing.{put_behind}
use Rattle.jc_print.proofs.printed_specs.print_spec.Goals as goal

pub returns : goal.returns
returns c =
    put_behind _ _ _ _ _ _ c.in_ok-writer.ensures.tokens c.in_ok-write_spec.ensures c.put_written.ensures
