use Rattle.std.proofs.Common.{slice_get, [], ◌∷◌, ◌++◌, ap, sym, ◌∙◌, arith}
use Rattle.jc_control.specs.Schedules.{ControllerView}
use Rattle.jc_control.proofs.RoomFacts.{provided_got}
use Rattle.jc_control.proofs.controller.Controller.take_first.Goals as goal

-- The key that is got has a row, a supply, and room for its end.
pub invariant_of-self-2 : goal.invariant_of-self-2
invariant_of-self-2 c =
    provided_got c.self.inside.queue c.reserve.new.self c.get.new.self c.self.inside.delays c.reserve-2.new.self c.self.inside.known.entries c.add_known.new.rows.entries c.self.inside.supplies.items c.push_reserved.new.self.items c.args.key.now
    (c.requires.first ∙ ap (λ (c : ControllerView). slice_get c.schedule.queue.line 0) (sym c.self.view_is))
    c.reserve.ensures.queue (omega (arith, c.in_ok-reserve.ensures.room, c.len.ensures.count, c.processing-syncs.ensures.count))
    c.reserve-2.ensures.delays (omega (arith, c.in_ok-reserve-2.ensures.room, c.processing-syncs.ensures.count))
    (c.push_reserved.ensures.items
    ∙ ap (λ keys. keys ++ c.with.result ∷ []) c.reserve-3.ensures.items
    ∙ ap (λ k. c.self.inside.supplies.items ++ k ∷ []) (c.with.ensures ∙ c.in_ok-twice.ensures))
    c.in_ok-add_known.ensures.noted c.get.ensures.got c.get.ensures.room c.self.invariant
