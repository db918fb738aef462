-- The lemmas on a turn.
use Rattle.jc_bounded.proofs.FoldFacts.{any-turn, still-faultless, turns-over}
use Rattle.jc_bounded.proofs.laws.turns_allow_no_more_pods.Goals as goal

pub returns : goal.returns
returns c = record {
  faultless = turns-over c.allowed_updates_stay_valid.ensures;
  still = still-faultless;
  any = any-turn c.allowed_updates_stay_valid.ensures;
}
