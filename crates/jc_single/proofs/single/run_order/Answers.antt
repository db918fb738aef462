-- There was a text to write, or none.
use Rattle.jc_single.specs.RunEnds.{Stopped, Wrote}
use Rattle.jc_single.specs.RunAnswers.{printed_by}
use Rattle.std.proofs.KnownBytes.{Keeps-refl}
use Rattle.jc_single.proofs.single.run_order.Goals as goal

pub returns-in-Ok : goal.returns-in-Ok
returns-in-Ok g c = Wrote c.in-Ok.ensures.0 (printed_by c.in-Ok.output) c.in-Ok.ensures.1 c.in-Ok.ensures.2 c.write_output.ensures

pub returns-in-Err : goal.returns-in-Err
returns-in-Err g c = Stopped c.in-Err.ensures (Keeps-refl _)
