use Rattle.jc_types.specs.Equality.{same_status}
use Rattle.jc_types.proofs.EqualityFacts.{same_from_exact, status-exact}
use Rattle.jc_store.proofs.statuses.same_status.Goals as goal

pub returns : goal.returns
returns c = same_from_exact same_status status-exact c.is_same.result c.args.left.now c.args.right.now c.is_same.ensures
