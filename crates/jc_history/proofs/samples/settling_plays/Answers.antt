use Rattle.jc_history.proofs.SamplePlays.{settling-verdicts, ignoring-counts, ignoring-verdicts, ignoring-full, settling-counts, settling-ends, settling-full, settling-lengths}
use Rattle.jc_history.proofs.samples.settling_plays.Goals as goal

pub returns : goal.returns
returns c = record {
  counts = settling-counts;
  ends = settling-ends;
  full = settling-full;
  lengths = settling-lengths;
  settling_verdicts = settling-verdicts;
  ignoring_counts = ignoring-counts;
  ignoring_verdicts = ignoring-verdicts;
  ignoring_full = ignoring-full;
}
