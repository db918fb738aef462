use Rattle.std.proofs.Common.{ap, inl, inr, reverse, sym, subst, ◌∙◌}
use Rattle.jc_runs.specs.Seen.{Seen}
use Rattle.jc_turn.proofs.Prefixes.{prefix_trans}
use Rattle.jc_seats.specs.Hands.{WasTaken}
use Rattle.jc_seats.proofs.HandFacts.{taken-now}
use Rattle.jc_seats.proofs.Beginnings.{happened_begins, same_begins}
use Rattle.jc_types.specs.declared.runs.Event.{Event}
use Rattle.jc_core.specs.Shared.{Shared}
use Rattle.jc_seats.specs.PlayerTurns.{HasHappened, IsOwnEvent}
use Rattle.jc_seats.proofs.shared_run.SharedRun.turn.Goals as goal

-- What the log has seen is a beginning still, since a turn leaves what had happened.
pub invariant_of-self-in-Plan : goal.invariant_of-self-in-Plan
invariant_of-self-in-Plan g c =
    let told = c.in_ok-work.ensures.plan c.in-Plan.work c.in-Plan.is in
    let old = c.self.inside.kept.seen in
    let new = c.turn.new.self.seen in
    (c.self.invariant.0, prefix_trans c.self.inside.log.seen (reverse old.pasts) (reverse new.pasts) c.self.invariant.1 (same_begins old new told.seen))

pub task-requires-clause-taken : goal.task-requires-clause-taken
task-requires-clause-taken g c =
    let told = c.in_ok-work.ensures.plan c.in-Plan.work c.in-Plan.is in
    subst (λ (s : Seen). WasTaken g.J.Naming.script g.J.Naming.shape (reverse s.pasts) c.in-Plan.work) (sym told.seen)
    (taken-now g.J.Naming.script g.J.Naming.shape c.self.inside.kept.seen c.keeps.ensures.named c.in-Plan.work told.basis)

pub invariant_of-self-in-Went : goal.invariant_of-self-in-Went
invariant_of-self-in-Went g c =
    let told = c.in_ok-work.ensures.went c.in-Went.is in
    let old = c.self.inside.kept.seen in
    let new = c.turn.new.self.seen in
    (c.self.invariant.0, prefix_trans c.self.inside.log.seen (reverse old.pasts) (reverse new.pasts) c.self.invariant.1 (happened_begins old new told.0 told.1.seen))

pub returns-in-Went-clause-went : goal.returns-in-Went-clause-went
returns-in-Went-clause-went g c = λ e.
    subst (λ (s : Shared). (event : Event) × HasHappened event s c.turn.new.self × IsOwnEvent c.args.player.now s event) c.self.view_is (c.in_ok-work.ensures.went c.in-Went.is)

pub returns-in-Went-clause-own : goal.returns-in-Went-clause-own
returns-in-Went-clause-own g c =
    inr (subst (λ (s : Shared). (event : Event) × HasHappened event s c.turn.new.self × IsOwnEvent c.args.player.now s event) c.self.view_is (c.in_ok-work.ensures.went c.in-Went.is))

-- A plan that is taken leaves what has happened.
pub returns-in-Plan-clause-own : goal.returns-in-Plan-clause-own
returns-in-Plan-clause-own g c =
    inl (ap (λ (s : Shared). s.seen) c.task.ensures.same ∙ (c.in_ok-work.ensures.plan c.in-Plan.work c.in-Plan.is).seen ∙ ap (λ (s : Shared). s.seen) c.self.view_is)
