use Rattle.std.proofs.Common.{slice_get, sym, ap, ◌∙◌}
use Rattle.std.specs.Option.{option_copied}
use Rattle.jc_control.specs.Schedules.{ControllerView, known_of}
use Rattle.jc_log.specs.Tables.{at}
use Rattle.jc_types.specs.Keys.{same_key}
use Rattle.jc_control.proofs.TurnFacts.{begun-answer, lag-none}
use Rattle.jc_control.proofs.controller.Controller.peek.Goals as goal

-- The sync of the first key begins, as no cache is behind.
pub returns : goal.returns
returns c =
    let seen = c.args.self.now in
    let key = c.in-Some-first.key.now in
    let none =
    lag-none seen key c.known_of-known.result (option_copied c.job-job.result) c.in-Some.jobs_at c.in-Some-at.pods_at c.first_lag.result
    (c.known_of-known.ensures ∙ ap (λ (c : ControllerView). known_of key c.schedule) c.self.view_is)
    (c.job-job.ensures ∙ ap (λ (c : ControllerView). at same_key c.jobs key) c.self.view_is)
    c.first_lag.ensures c.in_default-first_lag.is in
    begun-answer seen c.args.now c.in-Some.jobs_at c.in-Some-at.pods_at key
    (sym c.in-Some.is ∙ c.at.ensures ∙ ap (λ (c : ControllerView). c.schedule.jobs_at) c.self.view_is)
    (sym c.in-Some-at.is ∙ c.at-2.ensures ∙ ap (λ (c : ControllerView). c.schedule.pods_at) c.self.view_is)
    (c.in-Some-first.ensures.first ∙ ap (λ (c : ControllerView). slice_get c.schedule.queue.line 0) c.self.view_is)
    none c.in_ok-basis.basis c.in_ok-basis.ensures
