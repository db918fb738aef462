-- A conflict that a sync of a legal history is told is later than what it sent.
use Rattle.std.proofs.Common.{◌≡◌, ℕ, ◌<◌, List, [], ◌∷◌, slice_get, Option, Some, None, IfSome, is_some, refl, sym, ap, ◌∙◌, subst, arith, true≢false}
use Rattle.std.specs.Option.{option_map, unwrap_or}
use Rattle.jc_log.specs.Acts as does
use Rattle.jc_types.specs.declared.actions.Fault.{Fault}
use Rattle.jc_types.specs.declared.actions.Fault.TheVariants.{Drop, Lose}
use Rattle.jc_types.specs.declared.actions.SpecChange.{SpecChange}
use Rattle.jc_types.specs.declared.numbers.Version.{Version}
use Rattle.jc_types.specs.declared.replies.Answer.{Answer}
use Rattle.jc_types.specs.declared.replies.Answer.TheVariants as answer
use Rattle.jc_types.specs.declared.replies.Reply.{Reply}
use Rattle.jc_types.specs.declared.replies.Reply.TheVariants as reply
use Rattle.jc_types.specs.declared.replies.Request.{Request}
use Rattle.jc_types.specs.declared.runs.Shape.{Shape}
use Rattle.jc_types.specs.declared.specifications.JobSpec.{JobSpec}
use Rattle.jc_states.specs.declared.bases.Basis.{Basis}
use Rattle.jc_types.specs.ValidSpecs.{IsValidSpec}
use Rattle.jc_log.specs.Deeds.{Deed}
use Rattle.jc_log.specs.Requests.{changed_spec, update_refusal}
use Rattle.jc_plan.specs.Plans.{planned}
use Rattle.jc_asks.specs.declared.asks.Ask.{Ask}
use Rattle.jc_asks.specs.Asks.{conflict_of, version_sent}
use Rattle.jc_asks.specs.Readings.{next_ask, steps_of}
use Rattle.jc_asks.specs.Sends.{sends_of}
use Rattle.jc_asks.specs.Steps.{Sync, answered_to, as_answer, stepped_at}
use Rattle.jc_sync.specs.AllRegisters.{IsRegister}
use Rattle.jc_sync.proofs.ReadFacts.{reads_next}
use Rattle.jc_history.specs.Diaries.{notes}
use Rattle.jc_history.specs.Legal.{IsLegal, IsLegalNext}
use Rattle.jc_history.specs.Registers.{made, register}
use Rattle.jc_history.specs.Replies.{diary, log_given}
use Rattle.jc_history.proofs.RequestFacts.{made-steps}
use Rattle.jc_runs.specs.Conflicts.{AreToldLater}
use Rattle.jc_runs.specs.Machines.{AllAskValid, IsTeam}
use Rattle.jc_runs.specs.Teams.{stride_at}
use Rattle.jc_runs.proofs.CountedFacts.{later_conflicts}
use Rattle.jc_runs.proofs.LegalRuns.{Machine, There, given, legal_run, team, there, within}
use Rattle.jc_runs.proofs.ListFacts.{register_there}
use Rattle.jc_runs.proofs.StepRuns.{step_gives-at}

-- The answer of a step.
abbrev answer_in : Reply → Answer
answer_in (reply.Stepped asked given) = given
answer_in other = answer.Unavailable

-- What is told of the version of a conflict is told of this one.
of-conflict : (sent : Option Version) (given : Answer) (current : Version) → given ≡ answer.Conflict current → IfSome sent (λ old. IfSome (conflict_of given) (λ v. old.0 < v.0)) → IfSome sent (λ old. old.0 < current.0)
of-conflict sent given current is later = subst (λ g. IfSome sent (λ old. IfSome (conflict_of g) (λ v. old.0 < v.0))) is later

module _ (shape : Shape) (past : List Deed) (d : Deed) (legal : IsLegalNext shape past d) (m : Machine shape past) (c w : ℕ) (asked : Request) (current : Version) (basis : Basis) (ask : Ask)
    (act : d.act ≡ does.Step c w) (told : d.reply ≡ reply.Stepped asked (answer.Conflict current)) (begun : register w (diary shape c past) ≡ Some basis) (next : next_ask (planned basis) (made w (diary shape c past)) ≡ Some ask) where
  of_shape : (c < shape.controllers) × (w < shape.workers)
  of_shape = within shape past d legal m (does.Step c w) act

  one : There shape past d legal m m.teams c
  one = team shape past d legal m c of_shape.0

  its : IsTeam shape past m.log c one.one
  its = m.run.each c one.one one.is

  r : There shape past d legal m one.one.registers w
  r = there shape past d legal m one.one.registers w (let count = its.count in let working = of_shape.1 in omega (arith, count, working))

  f : There shape past d legal m one.one.faults w
  f = there shape past d legal m one.one.faults w (let count = its.faults in let working = of_shape.1 in omega (arith, count, working))

  -- The reply is that of the machine's step.
  gave : (o : Option Sync) → slice_get one.one.registers w ≡ Some o → reply.Stepped asked (answer.Conflict current) ≡ (stride_at m.log m.now f.one one.one.con.schedule o).reply
  gave o q =
      sym told
      ∙ (given shape past d legal m (does.Step c w) (record { reply = (stride_at m.log m.now f.one one.one.con.schedule o).reply; entry = (stride_at m.log m.now f.one one.one.con.schedule o).entry }) act
      (step_gives-at shape past m.log m.teams m.fates m.now m.run c one.one one.is w f.one f.is o q)).told

  its-basis : (o : Option Sync) → slice_get one.one.registers w ≡ Some o → option_map (λ (s : Sync). s.flight.basis) o ≡ Some basis
  its-basis o q = sym (its.workers.syncs w o q) ∙ ap (λ log. register w (notes shape c past log)) m.run.log_is ∙ begun

  -- The request is the next one of the register, and sends its version.
  module _ (sync : Sync) (mine : slice_get one.one.registers w ≡ Some (Some sync)) where
    known : IsRegister c w past sync
    known = m.run.syncs.each c w sync (register_there m.teams c one.one one.one one.is w (Some sync) mine)

    same : sync.flight.basis ≡ basis
    same = ap (λ o. unwrap_or o basis) (its-basis (Some sync) mine)

    steps : steps_of c w past ≡ made w (diary shape c past)
    steps = sym (made-steps shape c w past (log_given shape past) basis begun)

    sends : sync.flight.sends ≡ sends_of basis (made w (diary shape c past))
    sends = known.sends ∙ (λ i. sends_of (same i) (steps i))

    left-is : slice_get sync.left 0 ≡ Some ask
    left-is =
        sym (reads_next (planned sync.flight.basis) (steps_of c w past) sync.left known.reads)
        ∙ (λ i. next_ask (planned (same i)) (steps i)) ∙ next

    later-at : (left : List Ask) → sync.left ≡ left → slice_get left 0 ≡ Some ask → (fault : Option Fault) → reply.Stepped asked (answer.Conflict current) ≡ (stepped_at m.now fault m.log sync.flight left).reply
        → IfSome (version_sent sync.flight.sends ask) (λ sent. sent.0 < current.0)
    later-at [] is e fault told = absurd (true≢false (sym (ap is_some e)))
    later-at (a ∷ rest) is e None told =
        subst (λ x. IfSome (version_sent sync.flight.sends x) (λ sent. sent.0 < current.0)) (ap (λ o. unwrap_or o a) e)
        (of-conflict (version_sent sync.flight.sends a) (as_answer (answered_to m.log m.now sync.flight a).reply) current (sym (ap answer_in told))
        (later_conflicts shape past m.log m.teams m.fates m.now m.run c one.one one.is w sync mine a rest is))
    later-at (a ∷ rest) is e (Some Drop) told = absurd (true≢false (ap (λ x. is_some (conflict_of (answer_in x))) told))
    later-at (a ∷ rest) is e (Some Lose) told = absurd (true≢false (ap (λ x. is_some (conflict_of (answer_in x))) told))

  pub told-later : IfSome (version_sent (sends_of basis (made w (diary shape c past))) ask) (λ sent. sent.0 < current.0)
  told-later = by r.one r.is
    where
      by : (o : Option Sync) → slice_get one.one.registers w ≡ Some o → IfSome (version_sent (sends_of basis (made w (diary shape c past))) ask) (λ sent. sent.0 < current.0)
      by None q = absurd (true≢false (sym (ap is_some (its-basis None q))))
      by (Some sync) q =
          subst (λ v. IfSome (version_sent v ask) (λ sent. sent.0 < current.0)) (sends sync q)
          (later-at sync q sync.left refl (left-is sync q) f.one (gave (Some sync) q))

-- So it is in each legal history.
pub all-told_later : ((spec : JobSpec) (change : SpecChange) → IsValidSpec spec → update_refusal spec change ≡ None → IsValidSpec (changed_spec spec change))
    → (shape : Shape) (deeds : List Deed) → IsLegal shape deeds → AllAskValid deeds → AreToldLater shape deeds
all-told_later stay shape [] legal valid = tt
all-told_later stay shape (d ∷ past) legal valid = (
  λ c w asked current basis ask act told begun next. told-later shape past d legal.0 (legal_run stay shape past legal.1 valid.1) c w asked current basis ask act told begun next,
  all-told_later stay shape past legal.1 valid.1,
)
