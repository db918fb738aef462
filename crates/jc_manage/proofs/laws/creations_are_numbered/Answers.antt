-- The lemmas on the indexes of new pods.
use Rattle.jc_manage.proofs.Numbered.{creatable-numbered, creates-numbered}
use Rattle.jc_manage.proofs.laws.creations_are_numbered.Goals as goal

pub returns : goal.returns
returns c = record {
  creatable = creatable-numbered;
  held = creates-numbered;
}
