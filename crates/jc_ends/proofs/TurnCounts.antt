-- What falls with a turn that writes no pod: the numbers of what is still to come.
use Rattle.std.proofs.Common.{ℕ, List, ◌∷◌}
use Rattle.jc_types.specs.declared.objects.Job.{Job}
use Rattle.jc_types.specs.declared.runs.Shape.{Shape}
use Rattle.jc_types.specs.declared.statuses.JobStatus.{JobStatus}
use Rattle.jc_states.specs.declared.bases.Basis.{Basis}
use Rattle.jc_log.specs.Deeds.{Deed}
use Rattle.jc_log.specs.Range.{IsMoment}
use Rattle.jc_history.specs.Legal.{IsLegal}
use Rattle.jc_runs.specs.Machines.{AllAskValid}
use Rattle.jc_settle.specs.Settles.{settled_on}
use Rattle.jc_calm.specs.SettleTurns.{BeginsAlone, EndsAtOnce, MovesTheClock, WritesNoMore, WritesStatus}
use Rattle.jc_coming.specs.Drafts.{statuses_to_come}
use Rattle.jc_coming.specs.Moments.{keys_to_come, moments_to_come}
use Rattle.jc_ends.proofs.ComingFacts.{coming-falls}
use Rattle.jc_ends.proofs.Descent.{Count, Falls}
use Rattle.jc_ends.proofs.FallFacts.{count_of}
use Rattle.jc_ends.proofs.TidyFacts.{Stay}
use Rattle.jc_ends.proofs.TurnFalls.{clock-falls, finds-falls, writes-falls}

-- What is still to come.
abbrev pub coming_at : Shape → List Deed → Count
coming_at shape past = count_of statuses_to_come moments_to_come keys_to_come shape past

module _ (stay : Stay) (shape : Shape) (start : IsMoment shape.start) (past : List Deed) (legal : IsLegal shape past) (valid : AllAskValid past) where
  pub clock-lessens : (d : Deed) (due : ℕ) → MovesTheClock shape past d due → Falls (coming_at shape past) (coming_at shape (d ∷ past))
  clock-lessens d due h = clock-falls statuses_to_come moments_to_come keys_to_come coming-falls stay shape start past legal valid d due h

  module _ (c w : ℕ) (basis : Basis) (begin : Deed) (b : BeginsAlone shape past c w basis begin) where
    pub finds-lessens : (end : Deed) → EndsAtOnce shape past c w basis begin end → Falls (coming_at shape past) (coming_at shape (end ∷ begin ∷ past))
    finds-lessens end h = finds-falls statuses_to_come moments_to_come keys_to_come coming-falls stay shape start past legal valid c w basis begin b end h

    pub writes-lessens : (job : Job) (status : JobStatus) (write : Deed) → WritesStatus shape past c w basis job status begin write → (m : WritesNoMore shape past basis job status)
        → Falls (coming_at shape past) (coming_at shape (settled_on shape m.events past))
    writes-lessens job status write h m = writes-falls statuses_to_come moments_to_come keys_to_come coming-falls stay shape start past legal valid c w basis begin b job status write h m
