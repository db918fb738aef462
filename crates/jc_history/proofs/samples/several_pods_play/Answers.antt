use Rattle.jc_history.proofs.SamplePlays.{indexes-completed, indexes-verdicts, one_index_twice-completed, one_index_twice-verdicts, made_again-verdicts, indexes-replies, indexes-counts, one_index_twice-replies, one_index_twice-counts}
use Rattle.jc_history.proofs.SamplePlays.{late_let_go-replies, late_let_go-counts, made_again-replies, made_again-counts}
use Rattle.jc_history.proofs.samples.several_pods_play.Goals as goal

pub returns : goal.returns
returns c = record {
  indexes = indexes-replies;
  indexes_counts = indexes-counts;
  one_index_twice = one_index_twice-replies;
  one_index_twice_counts = one_index_twice-counts;
  late_let_go = late_let_go-replies;
  late_let_go_counts = late_let_go-counts;
  made_again = made_again-replies;
  made_again_counts = made_again-counts;
  indexes_completed = indexes-completed;
  indexes_verdicts = indexes-verdicts;
  one_index_twice_completed = one_index_twice-completed;
  one_index_twice_verdicts = one_index_twice-verdicts;
  made_again_verdicts = made_again-verdicts;
}
