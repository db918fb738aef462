-- No register wants a plan after an event that brings none.
use Rattle.std.proofs.Common.{rules, ap, sym, ◌∙◌}
use Rattle.std.specs.Cmp.{first_so, second_so}
use Rattle.jc_runs.specs.Seen.{reply_seen}
use Rattle.jc_core.specs.Shared.{is_unplanned}
use Rattle.jc_seats.specs.PlayerTurns.{wants_none}
use Rattle.jc_seats.proofs.PlannedFacts.{none-after}
use Rattle.jc_seats.proofs.kept.Kept.happen.Goals as goal

pub invariant_of-self-2 : goal.invariant_of-self-2
invariant_of-self-2 g c = (
  search rules,
  search rules,
  λ planned.
      let old = c.self.inside.cluster in
      let both = sym c.stays_planned-planned.ensures ∙ planned in
      let none = c.self.invariant.2 (first_so c.self.inside.planned (wants_none c.args.event) both) in
      ap is_unplanned c.in_ok-happen.ensures.slots
      ∙ none-after old.seen c.args.event (reply_seen old.seen c.args.event) old.slots (second_so c.self.inside.planned (wants_none c.args.event) both) none,
)
