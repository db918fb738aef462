-- The lemmas on conditions.
use Rattle.jc_finish.proofs.SettledFacts.{settled-ends, settled-decided, settled-keeps, settled-not_due, settled-suspended, settled-target}
use Rattle.jc_finish.proofs.laws.conditions_stand.Goals as goal

pub returns : goal.returns
returns c = record {
  kept = settled-keeps;
  decided = settled-decided;
  target = settled-target;
  suspended = settled-suspended;
  ended = settled-ends;
  not_due = settled-not_due;
}
