use Rattle.std.proofs.Common.{subst}
use Rattle.jc_ranges.specs.Sets.{IsSet}
use Rattle.jc_ranges.proofs.Apart.{apart_set}
use Rattle.jc_ranges.proofs.set.Ranges.contains.Goals as goal

pub returns-clause-set : goal.returns-clause-set
returns-clause-set c = subst IsSet c.self.view_is (apart_set _ c.self.invariant.apart)
