use Rattle.std.proofs.Common.{ap, ◌∙◌}
use Rattle.jc_control.specs.Schedules.{ControllerView}
use Rattle.jc_control.proofs.RoomFacts.{provided_done, room_left}
use Rattle.jc_control.proofs.controller.Controller.end.Goals as goal
use Rattle.jc_queue.specs.Queued.{has_key}

-- The processing key has a supply.
pub take_supply-supply-requires : goal.take_supply-supply-requires
take_supply-supply-requires c =
    let key = c.args.key.now in
    let busy = ap (λ (c : ControllerView). has_key key c.schedule.queue.processing) c.self.view_is ∙ c.requires.processing in
    record { there = c.self.invariant.supplied key busy }

pub delay-requires : goal.delay-requires
delay-requires c =
    let key = c.args.key.now in
    let busy = ap (λ (c : ControllerView). has_key key c.schedule.queue.processing) c.self.view_is ∙ c.requires.processing in
    record {
      same = c.take_supply-supply.ensures.supply;
      room = room_left c.self.inside.queue c.self.inside.delays c.self.inside.known.entries c.self.inside.supplies.items key busy c.self.invariant;
    }

pub done-requires : goal.done-requires
done-requires c =
    record { processing = ap (λ (view : ControllerView). has_key c.args.key.now view.schedule.queue.processing) c.self.view_is ∙ c.requires.processing }

pub invariant_of-self : goal.invariant_of-self
invariant_of-self c =
    let key = c.args.key.now in
    let busy = ap (λ (c : ControllerView). has_key key c.schedule.queue.processing) c.self.view_is ∙ c.requires.processing in
    provided_done c.self.inside.queue c.done.new.self c.self.inside.delays c.delay.new.delays c.self.inside.known.entries c.self.inside.supplies.items c.take_supply-supply.new.supplies.items key c.args.end
    c.args.now c.len-waiting.ensures.queue busy c.take_supply-supply.ensures.left c.delay.ensures.delays c.delay.ensures.room
    c.done.ensures.finished c.done.ensures.room c.self.invariant

pub invariant_of-self-else-forgets_caches : goal.invariant_of-self-else-forgets_caches
invariant_of-self-else-forgets_caches c =
    let key = c.args.key.now in
    let busy = ap (λ (c : ControllerView). has_key key c.schedule.queue.processing) c.self.view_is ∙ c.requires.processing in
    provided_done c.self.inside.queue c.done.new.self c.self.inside.delays c.delay.new.delays c.self.inside.known.entries c.self.inside.supplies.items c.take_supply-supply.new.supplies.items key c.args.end
    c.args.now c.len-waiting.ensures.queue busy c.take_supply-supply.ensures.left c.delay.ensures.delays c.delay.ensures.room
    c.done.ensures.finished c.done.ensures.room c.self.invariant
