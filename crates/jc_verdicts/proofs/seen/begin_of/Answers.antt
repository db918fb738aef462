use Rattle.std.proofs.Common.{refl}
use Rattle.jc_verdicts.proofs.TouchFacts.{seen-first}
use Rattle.jc_verdicts.proofs.seen.begin_of.Goals as goal

-- The pods are dropped.
pub returns-then-count-at-clause-seen : goal.returns-then-count-at-clause-seen
returns-then-count-at-clause-seen c = λ owner log known before. seen-first known owner log c.clear.new.self.items 0 c.clear.ensures.items refl
