use Rattle.jc_sync.proofs.RegisterFacts.{step_basis}
use Rattle.jc_sync.proofs.StepFacts.{begun_at, stepped_next, stepped_ties}
use Rattle.jc_sync.proofs.laws.steps_keep_what_ties.Goals as goal

pub returns : goal.returns
returns c = record {
  begun = begun_at;
  tied = stepped_ties;
  placed = stepped_next;
  basis = step_basis;
}
