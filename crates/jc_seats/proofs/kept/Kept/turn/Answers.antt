use Rattle.std.proofs.Common.{◌≡◌, ◌∙◌, ap, true, refl, sym, subst}
use Rattle.jc_core.specs.Turns.{is_quiescent_seen}
use Rattle.jc_core.specs.Shared.{Shared, has_holders}
use Rattle.jc_seats.specs.PlayerTurns.{HasLeft}
use Rattle.jc_seats.proofs.TurnFacts.{rests, went-own}
use Rattle.jc_seats.proofs.kept.Kept.turn.Goals as goal

pub returns-in-Ok-Some-clause-first : goal.returns-in-Ok-Some-clause-first
returns-in-Ok-Some-clause-first g c = λ other. absurd (other c.in-Ok-Some.work refl)

pub returns-in-None-2-clause-ends : goal.returns-in-None-2-clause-ends
returns-in-None-2-clause-ends g c = λ e.
    let same = c.in-Ok-None.ensures.none c.in-Ok-None.field-0-is in (
      same,
      subst (λ (s : Shared). is_quiescent_seen s.seen ≡ true) same (rests c.take_plan.new.self.slots (sym (c.if-held.ensures ∙ ap (λ (s : Shared). has_holders s.slots) c.self.view_is)) c.take_plan.new.self.seen (c.in-None-2.ensures.system refl)),
      subst (λ (s : Shared). HasLeft c.args.player.now s.seen → ⊥) same (c.in-None-2.ensures.lanes refl),
    )

pub returns-in_ok-go-in-Some-clause-went : goal.returns-in_ok-go-in-Some-clause-went
returns-in_ok-go-in-Some-clause-went g c = λ e. went-own c.args.player.now _ c.args.self.now _ c.in-Some.event (c.in-Ok-None.ensures.none c.in-Ok-None.field-0-is) c.in_ok-go-in-Some.ensures.happened c.in-Some.ensures.own
