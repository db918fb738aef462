use Rattle.std.proofs.Common.{ℕ, Option, Some, ap, sym, ◌∙◌}
use Rattle.jc_queue.specs.Delayed.{earlier, least_moment}
use Rattle.jc_queue.proofs.DelayFacts.{least-with}
use Rattle.jc_queue.proofs.delays.put_moment.Goals as goal

-- The least moment, or the new one where that is earlier, is the least.
pub returns-clause-least : goal.returns-clause-least
returns-clause-least c same =
    ap (λ (m : ℕ). Some m) c.earlier.ensures
    ∙ ap (λ (o : Option ℕ). Some (earlier o c.args.moment)) same
    ∙ least-with c.args.moments.now.entries _ c.args.moment
    ∙ ap least_moment (sym c.put_earlier.ensures.earlier)
