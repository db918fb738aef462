-- No slot is open where no register that nobody holds wants a plan.
use Rattle.std.proofs.Common.{◌≡◌, None, find, subst}
use Rattle.jc_core.specs.Shared.{Shared, is_open_slot}
use Rattle.jc_seats.proofs.PlannedFacts.{none-open}
use Rattle.jc_seats.proofs.kept.Kept.take_plan.Goals as goal

pub returns-then-self-clause-first : goal.returns-then-self-clause-first
returns-then-self-clause-first g c = λ none.
    subst (λ (s : Shared). find (is_open_slot s.seen) s.slots ≡ None) c.self.view_is
    (none-open c.self.inside.cluster.seen c.self.inside.cluster.slots (c.self.invariant.2 c.if-self.true))
