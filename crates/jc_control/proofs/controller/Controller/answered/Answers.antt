use Rattle.std.proofs.Common.{ap, ◌∙◌}
use Rattle.jc_control.specs.Schedules.{ControllerView}
use Rattle.jc_control.proofs.RoomFacts.{provided_rows}
use Rattle.jc_control.proofs.TurnFacts.{known_put}
use Rattle.jc_control.proofs.controller.Controller.answered.Goals as goal
use Rattle.jc_queue.specs.Queued.{has_key}

-- The key has a row, since it is processing.
pub raise_floor-requires : goal.raise_floor-requires
raise_floor-requires c =
    let key = c.args.key.now in
    c.self.invariant.known key (ap (λ (c : ControllerView). has_key key c.schedule.queue.processing) c.self.view_is ∙ c.requires.processing)

pub invariant_of-self : goal.invariant_of-self
invariant_of-self c =
    provided_rows c.self.inside.queue c.self.inside.delays c.self.inside.known.entries c.raise_floor.new.rows.entries c.self.inside.supplies.items
    (known_put c.self.inside.queue.queue.processing c.self.inside.known.entries c.raise_floor.new.rows.entries c.args.key.now _ c.self.invariant.known c.raise_floor.ensures) c.self.invariant
