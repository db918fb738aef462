-- The lemmas on how many pods are made.
use Rattle.jc_manage.proofs.Bounds.{creatable-few, creatable-fit, creatable-fit_ending, creates-few, lacks-few, lacks-ending, wanted-few, wanted-queue}
use Rattle.jc_manage.proofs.laws.creations_stay_within_bounds.Goals as goal

pub returns : goal.returns
returns c = record {
  lacking = creatable-few;
  held = creates-few;
  active = lacks-few;
  ending = lacks-ending;
  completions = wanted-few;
  queue = wanted-queue;
  fit = creatable-fit;
  fit_ending = creatable-fit_ending;
}
