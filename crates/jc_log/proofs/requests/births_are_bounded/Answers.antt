-- The lemmas on births.
use Rattle.jc_log.proofs.CountFacts.{births_within, made_within_births, pods_in-few}
use Rattle.jc_log.proofs.requests.births_are_bounded.Goals as goal

pub returns : goal.returns
returns c = record {
  births = births_within;
  made = made_within_births;
  pods = pods_in-few;
}
