use Rattle.std.proofs.Common.{◌≡◌, ap, sym, subst, ◌∙◌}
use Rattle.std.proofs.lemmas.Result.{on_ok_weaker}
use Rattle.jc_control.specs.ControllerCalls.{TakesFirst, TakesKey, begun, followed}
use Rattle.jc_control.proofs.TurnFacts.{begun-first, begun-taken, begun_is}
use Rattle.jc_control.proofs.controller.Controller.begin_as.Goals as goal
use Rattle.jc_control.proofs.controller.Controller.begin_as.Goals.{After-follow}

pub follow-requires : goal.follow-requires
follow-requires c =
    record { first = subst (λ answer. TakesFirst answer c.args.self.now.schedule.queue.line) (sym c.requires.foreseen) (begun-first c.args.self.now c.args.now) }

-- What the answer leaves is what a begin leaves.
left_is : (c : After-follow) → followed c.args.self.now.schedule c.args.answer.now ≡ (begun c.args.now c.args.self.now).schedule
left_is c = ap (λ answer. followed c.args.self.now.schedule answer) c.requires.foreseen ∙ begun_is c.args.self.now c.args.now

pub returns-clause-schedule : goal.returns-clause-schedule
returns-clause-schedule c = on_ok_weaker c.follow.result (λ is. is ∙ left_is c) c.follow.ensures.schedule

pub returns-clause-taken : goal.returns-clause-taken
returns-clause-taken c =
    on_ok_weaker c.follow.result
    (λ is.
    subst (λ answer. TakesKey answer c.args.self.now.schedule.queue.processing c.follow.new.self.schedule.queue.processing) (sym c.requires.foreseen)
    (subst (λ schedule. TakesKey (begun c.args.now c.args.self.now).answer c.args.self.now.schedule.queue.processing schedule.queue.processing) (sym (is ∙ left_is c))
    (begun-taken c.args.self.now c.args.now c.facts.ensures.queue)))
    c.follow.ensures.schedule
