use Rattle.std.proofs.Common.{ℕ, ◌<◌, is_some, refl, sym, ap, ◌∙◌, subst, true≢false, arith, below_more}
use Rattle.std.proofs.Math.Nat.{mod-lt}
use Rattle.jc_types.specs.declared.runs.Event.{Event}
use Rattle.jc_core.specs.Actors.{CanCome, IsOfActor}
use Rattle.jc_core.specs.Actor.TheVariants as actor
use Rattle.jc_core.specs.Shared.{Shared}
use Rattle.jc_seats.specs.PlayerTurns.{IsLaneOf}
use Rattle.jc_seats.proofs.TurnFacts.{own-lanes, owner-next}
use Rattle.jc_seats.proofs.UsedFacts.{none-left}
use Rattle.jc_seats.proofs.kept.Kept.next_of_lanes.Goals as goal
use Rattle.jc_seats.proofs.kept.Kept.next_of_lanes.Goals.{then-owner-player+else-is_some, else-owner-player}

pub owner_after-owner-requires : goal.owner_after-owner-requires
owner_after-owner-requires g c =
    let some = c.args.player.now.within in
    subst (λ (owner : ℕ). owner < c.args.player.now.threads) (sym c.loop-number.invariant.0) (mod-lt c.loop-number.number (omega (arith, some)))

pub returns-then-is_some-clause-own : goal.returns-then-is_some-clause-own
returns-then-is_some-clause-own g c =
    own-lanes c.args.player.now c.loop-number.number c.available-found.result (sym c.loop-number.invariant.0 ∙ c.if-owner-player.true) c.available-found.ensures.of_actor

pub loop-number-preserved : goal.loop-number-preserved
loop-number-preserved g c = (
  owner-next c.args.player.now.threads c.loop-number.number c.loop-number.owner _ c.loop-number.invariant.0 c.owner_after-owner.ensures,
  below_more (λ lane. IsLaneOf c.args.player.now lane → (event : Event) → IsOfActor (actor.Lane lane) event → CanCome c.args.self.now.seen event → ⊥) c.loop-number.number c.loop-number.invariant.1 (λ own event of can. elim c.if-owner-player.branch [
    | then-owner-player+else-is_some w ↦ true≢false (sym (ap is_some (w.available-found.ensures.exactly event of (subst (λ (s : Shared). CanCome s.seen event) (sym c.self.view_is) can) refl)) ∙ sym w.is_some.ensures ∙ w.if-is_some.false)
    | else-owner-player w ↦ w.if-owner-player.false (c.loop-number.invariant.0 ∙ own)
  ]),
)

pub returns-clause-none : goal.returns-clause-none
returns-clause-none g c = λ e. none-left c.args.player.now c.args.self.now.seen c.lanes-lanes.result c.lanes-lanes.ensures.used (λ lane lt. let test = c.loop-number-test.false in c.loop-number.invariant.1 lane (omega (arith, lt, test)))
