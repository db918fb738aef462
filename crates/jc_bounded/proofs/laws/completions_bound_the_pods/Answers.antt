-- The lemmas on completions.
use Rattle.jc_bounded.proofs.CompletionFacts.{few-left, new-few}
use Rattle.jc_bounded.proofs.laws.completions_bound_the_pods.Goals as goal

pub returns : goal.returns
returns c = record {
  left = few-left;
  new = new-few c.allowed_updates_stay_valid.ensures;
}
