-- The lemmas on a status that is written.
use Rattle.jc_coming.proofs.DraftFacts.{none-second, rising, statuses-fewer, written-next}
use Rattle.jc_coming.proofs.laws.a_written_status_is_no_draft.Goals as goal

pub returns : goal.returns
returns c = record {
  fewer = λ log job basis status it there. statuses-fewer log job basis status it.saw there it.pods it.tidy it.asks it.first;
  next = λ log job basis status it. written-next job basis it.saw it.asks (rising basis.key log basis.pods it.pods) it.tidy status it.first log;
  once = none-second;
}
