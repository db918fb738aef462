-- The lemmas on free indexes.
use Rattle.jc_manage.proofs.Bounds.{free-new, free-unkept}
use Rattle.jc_manage.proofs.laws.free_indexes_are_free.Goals as goal

pub returns : goal.returns
returns c = record {
  settled = free-new;
  kept = free-unkept;
}
