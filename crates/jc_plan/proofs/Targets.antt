-- What a sync decides of the Job of its basis.
use Rattle.std.proofs.Common.{◌≡◌, ℕ, true, List, Option, Some, None, IfSome, option_and_then, refl}
use Rattle.jc_types.specs.declared.objects.Job.{Job}
use Rattle.jc_types.specs.declared.objects.Pod.{Pod}
use Rattle.jc_types.specs.declared.statuses.CondKind.{CondKind}
use Rattle.jc_types.specs.declared.statuses.Reason.{Reason}
use Rattle.jc_states.specs.declared.bases.Basis.{Basis}
use Rattle.jc_types.specs.declared.syncs.CountIn.{CountIn}
use Rattle.jc_states.specs.Bases.{own_pods}
use Rattle.jc_finish.specs.Decisions.{decided, decision_of}
use Rattle.jc_finish.specs.Settled.{is_target_kind}
use Rattle.jc_finish.proofs.DecisionFacts.{decided_target}

-- The kind of what is decided is that of a target.
abbrev pub IsTarget : Option (CondKind × Reason) → Type 0
IsTarget target = IfSome target (λ pair. is_target_kind pair.0 ≡ true)

pub target-kind : (counted : CountIn) (now : ℕ) (job : Job) (own : List Pod) → IsTarget (decided counted now job own)
target-kind counted now job own = by (decided counted now job own) refl
  where
    by : (target : Option (CondKind × Reason)) → decided counted now job own ≡ target → IsTarget target
    by None e = tt
    by (Some target) e = (decided_target counted now job own target e).0

pub decision-kind : (basis : Basis) (counted : CountIn) → IsTarget (decision_of basis counted)
decision-kind basis counted = by basis.job
  where
    by : (job : Option Job) → IsTarget (option_and_then (λ job. decided counted basis.now job (own_pods job basis.pods)) job)
    by None = tt
    by (Some job) = target-kind counted basis.now job (own_pods job basis.pods)
