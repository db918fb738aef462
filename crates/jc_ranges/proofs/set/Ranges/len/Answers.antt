use Rattle.std.proofs.Common.{arith, subst}
use Rattle.jc_ranges.specs.Sets.{IsSet}
use Rattle.jc_ranges.proofs.Order.{length_small}
use Rattle.jc_ranges.proofs.Apart.{apart_set}
use Rattle.jc_ranges.proofs.set.Ranges.len.Goals as goal

pub returns-clause-few_items : goal.returns-clause-few_items
returns-clause-few_items c = let few = length_small _ (apart_set _ c.self.invariant.apart) in omega (arith, few, c.self.invariant.counted)

pub returns-clause-set : goal.returns-clause-set
returns-clause-set c = subst IsSet c.self.view_is (apart_set _ c.self.invariant.apart)
