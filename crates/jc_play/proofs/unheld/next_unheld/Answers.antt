use Rattle.std.proofs.Common.{◌||◌, is_some, refl, sym, ap, ◌∙◌, true≢false}
use Rattle.jc_history.specs.Available.{but_clock}
use Rattle.jc_history.specs.Play.{first_event}
use Rattle.jc_runs.specs.Seen.{deeds_seen, log_seen}
use Rattle.jc_play.proofs.UnheldFacts.{left-clock, left-there, unheld-comes}
use Rattle.jc_play.proofs.unheld.next_unheld.Goals as goal
use Rattle.jc_play.proofs.unheld.next_unheld.Goals.{then-is_some, else-is_some}

pub returns-then-is_some-2-clause-first : goal.returns-then-is_some-2-clause-first
returns-then-is_some-2-clause-first c =
    let seen = c.args.machine.now in
    let rest = first_event (but_clock seen.shape (deeds_seen seen) (log_seen seen)) in
    elim c.if-is_some.branch [
      | then-is_some w ↦ left-there c.args.slots.now seen c.but_clock_unheld-found.result rest c.but_clock_unheld-found.ensures refl (ap (λ b. b || is_some rest) (sym c.is_some.ensures ∙ w.if-is_some.true))
      | else-is_some w ↦
          left-there c.args.slots.now seen c.but_clock_unheld-found.result w.held_step.result c.but_clock_unheld-found.ensures w.held_step.ensures
          (ap (λ b. b || is_some w.held_step.result) (sym c.is_some.ensures ∙ w.if-is_some.false) ∙ sym w.is_some-else-is_some.ensures ∙ sym w.value-is ∙ c.if-is_some-2.true)
    ]

pub returns-then-is_some-2-clause-can_come : goal.returns-then-is_some-2-clause-can_come
returns-then-is_some-2-clause-can_come c = unheld-comes c.args.machine.now c.args.slots.now _ (returns-then-is_some-2-clause-first c)

pub returns-else-is_some-2-clause-first : goal.returns-else-is_some-2-clause-first
returns-else-is_some-2-clause-first c =
    let seen = c.args.machine.now in
    elim c.if-is_some.branch [
      | then-is_some w ↦ absurd (true≢false (sym (w.value-is ∙ w.if-is_some.true) ∙ c.if-is_some-2.false))
      | else-is_some w ↦
          left-clock c.args.slots.now seen c.but_clock_unheld-found.result w.held_step.result c.but_clock_unheld-found.ensures w.held_step.ensures
          (ap (λ b. b || is_some w.held_step.result) (sym c.is_some.ensures ∙ w.if-is_some.false) ∙ sym w.is_some-else-is_some.ensures ∙ sym w.value-is ∙ c.if-is_some-2.false)
          c.clock_event.result c.clock_event.ensures
    ]

pub returns-else-is_some-2-clause-can_come : goal.returns-else-is_some-2-clause-can_come
returns-else-is_some-2-clause-can_come c = unheld-comes c.args.machine.now c.args.slots.now _ (returns-else-is_some-2-clause-first c)
