-- The piece that was written follows those before it.
use Rattle.std.proofs.Common.{◌∙◌, arith}
use Rattle.std.proofs.lemmas.Grind.{common_steps}
use Rattle.jc_io.proofs.Bytes.{written_more}
use Rattle.jc_io.proofs.all.write_part.Goals as goal

pub writing-preserved : goal.writing-preserved
writing-preserved g c = record {
  within = grind (arith, common_steps);
  written = written_more _ _ _ _ _ _ c.writing.invariant.written c.in_ok-at.ensures.bytes;
  later = grind arith;
  not_finished = c.in_ok-at.ensures.not_finished ∙ c.writing.invariant.not_finished;
}
