use Rattle.jc_history.proofs.SamplePlays.{window-replies, refusals-replies, refusals-counts}
use Rattle.jc_history.proofs.samples.refusals_play.Goals as goal

pub returns : goal.returns
returns c = record {
  window = window-replies;
  refusals = refusals-replies;
  refusals_counts = refusals-counts;
}
