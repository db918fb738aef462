-- The lemmas on whole syncs and how many pods are made at most.
use Rattle.jc_bearing.proofs.AtMostFacts.{no-more, no-other}
use Rattle.jc_bearing.proofs.laws.whole_syncs_make_no_pod_beyond.Goals as goal

pub returns : goal.returns
returns c = record {
  own = λ ends log new basis job now saw all there then counted last. no-more ends log new basis job now saw all there then counted last;
  others = no-other;
}
