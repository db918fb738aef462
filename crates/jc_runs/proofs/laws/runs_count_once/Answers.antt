-- What a run counts.
use Rattle.jc_runs.proofs.CountedFacts.{counted, justified}
use Rattle.jc_runs.proofs.laws.runs_count_once.Goals as goal

pub returns : goal.returns
returns c = record {
  at_each = λ m. counted m.shape m.deeds m.log m.teams m.fates m.now;
  justified = λ m. justified m.shape m.deeds m.log m.teams m.fates m.now;
}
