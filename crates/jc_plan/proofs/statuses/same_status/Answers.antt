-- The test is exact.
use Rattle.jc_types.specs.Equality.{same_status}
use Rattle.jc_types.proofs.EqualityFacts.{same_from_exact, status-exact}
use Rattle.jc_plan.proofs.statuses.same_status.Goals as goal

pub returns : goal.returns
returns c = same_from_exact same_status status-exact _ c.args.old.now c.args.new.now c.is_same.ensures
