-- The laws over legal histories alone.
use Rattle.std.proofs.Common.{◌≡◌, true, List, [], ◌∷◌, ◌++◌, Some, subst}
use Rattle.jc_types.specs.declared.objects.Entry.TheVariants.{PodPut}
use Rattle.jc_types.specs.declared.objects.Job.{Job}
use Rattle.jc_types.specs.declared.objects.KeyNames.{KeyNames as Key}
use Rattle.jc_types.specs.declared.objects.Pod.{Pod}
use Rattle.jc_types.specs.declared.runs.Shape.{Shape}
use Rattle.jc_states.specs.Conditions.{has_end}
use Rattle.jc_log.specs.Deeds.{Deed}
use Rattle.jc_log.specs.Log.{Never, job_in, life}
use Rattle.jc_log.proofs.WriteFacts.{Stored-from_legal}
use Rattle.jc_history.specs.Diaries.{notes}
use Rattle.jc_history.specs.Legal.{IsLegal}
use Rattle.jc_history.specs.Replies.{log_given}
use Rattle.jc_bounds.specs.Bounded.{IsBounded}
use Rattle.jc_bounds.specs.Final.{KnowsEnds}
use Rattle.jc_bounds.specs.Fitting.{IsMade}
use Rattle.jc_bounds.specs.Histories.{HoldsBounds, KeepsBounds}
use Rattle.jc_bounds.specs.KeptEnds.{IsLeftAlone, HasNothingOpen, StatusesStand}
use Rattle.jc_bounds.proofs.BoundFacts.{legal-bounded}
use Rattle.jc_bounds.proofs.EndFacts.{legal-final}
use Rattle.jc_bounds.proofs.FitFacts.{legal-fits}
use Rattle.jc_bounds.proofs.KeepFacts.{final-shut, legal-keeps, legal-stands}
use Rattle.jc_bounds.proofs.LegalLogs.{legal-log}

module _ (shape : Shape) where
  pub bounded : (deeds : List Deed) → shape.controllers ≡ 1 → IsLegal shape deeds → IsBounded (log_given shape deeds) (notes shape 0 deeds (log_given shape deeds))
  bounded deeds one h = legal-bounded shape deeds one h (Stored-from_legal (log_given shape deeds) (legal-log shape deeds one h).0)

  pub final : (deeds : List Deed) → shape.controllers ≡ 1 → IsLegal shape deeds → KnowsEnds (log_given shape deeds) (notes shape 0 deeds (log_given shape deeds))
  final deeds one h = let l = legal-log shape deeds one h in legal-final shape deeds one h (Stored-from_legal (log_given shape deeds) l.0) l.1

  pub fits : (past : List Deed) (d : Deed) (pod : Pod) → shape.controllers ≡ 1 → IsLegal shape (d ∷ past)
      → log_given shape (d ∷ past) ≡ PodPut pod ∷ log_given shape past → life pod.uid (log_given shape past) ≡ Never
      → IsMade shape d.act (log_given shape past) (notes shape 0 past (log_given shape past)) pod
  fits past d pod one h = legal-fits shape past d pod one h (legal-log shape (d ∷ past) one h).0

  pub keeps : (past : List Deed) (d : Deed) → shape.controllers ≡ 1 → IsLegal shape (d ∷ past) → (k : Key) (job : Job)
      → job_in k (log_given shape past) ≡ Some job → has_end job.status.conditions ≡ true
      → IsLeftAlone (log_given shape past) (log_given shape (d ∷ past)) k job
  keeps past d one h = let l = legal-log shape (d ∷ past) one h in legal-keeps shape past d one h l.0 l.1

  pub nothing_open : (deeds : List Deed) → shape.controllers ≡ 1 → IsLegal shape deeds → (k : Key) (job : Job) → job_in k (log_given shape deeds) ≡ Some job → has_end job.status.conditions ≡ true → HasNothingOpen (log_given shape deeds) job
  nothing_open deeds one h = final-shut (log_given shape deeds) (notes shape 0 deeds (log_given shape deeds)) (legal-log shape deeds one h).0 (final deeds one h)

  pub stands : (deeds : List Deed) → shape.controllers ≡ 1 → IsLegal shape deeds → StatusesStand (log_given shape deeds)
  stands deeds one h = legal-stands shape deeds one h (λ past g. legal-log shape past one g)

  -- What came before is legal too.
  legal-before : (later deeds : List Deed) → IsLegal shape (later ++ deeds) → IsLegal shape deeds
  legal-before [] deeds h = h
  legal-before (d ∷ later) deeds h = legal-before later deeds h.1

  keeps-both : (past : List Deed) (d : Deed) → shape.controllers ≡ 1 → IsLegal shape (d ∷ past) → KeepsBounds shape past d
  keeps-both past d one h = record {
    fits = λ pod. fits past d pod one h;
    left = keeps past d one h;
    nothing_open = nothing_open (d ∷ past) one h;
    stands = stands (d ∷ past) one h;
  }

  pub holds : (deeds : List Deed) → shape.controllers ≡ 1 → IsLegal shape deeds → HoldsBounds shape deeds
  holds deeds one h = λ later past d parts. keeps-both past d one (legal-before later (d ∷ past) (subst (IsLegal shape) parts h))
