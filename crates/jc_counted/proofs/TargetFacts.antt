-- Where a Job of the log has ended, how it ends is decided.
use Rattle.std.proofs.Common.{◌≡◌, ◌≢◌, ◌⊎◌, inl, inr, Bool, true, false, cond, List, [], ◌∷◌, Option, Some, None, IfSome, refl, sym, subst}
use Rattle.std.specs.List.{AllByRecursion as Each}
use Rattle.std.proofs.lemmas.Bool.{or_cases, or_left, or_right}
use Rattle.jc_types.specs.Equality.{same_status}
use Rattle.jc_types.specs.declared.objects.Job.{Job}
use Rattle.jc_types.specs.declared.objects.KeyNames.{KeyNames as Key}
use Rattle.jc_types.specs.declared.runs.Shape.{Shape}
use Rattle.jc_types.specs.declared.statuses.CondKind.{CondKind}
use Rattle.jc_types.specs.declared.statuses.CondKind.TheVariants.{Suspended, FailureTarget, SuccessCriteriaMet}
use Rattle.jc_types.specs.declared.statuses.Condition.{Condition}
use Rattle.jc_types.specs.declared.statuses.JobStatus.{JobStatus}
use Rattle.jc_states.specs.declared.bases.Basis.{Basis}
use Rattle.jc_states.specs.Conditions.{has_end, has_target, stands}
use Rattle.jc_log.specs.Acts as does
use Rattle.jc_log.specs.Acts.{Act}
use Rattle.jc_log.specs.Deeds.{Deed}
use Rattle.jc_log.specs.Log.{job_in}
use Rattle.jc_plan.specs.Plans.{changed, planned, planned_for}
use Rattle.jc_plan.specs.Statuses.{first_value, second_value}
use Rattle.jc_plan.proofs.PlanBounds.{first-rests, second-rests}
use Rattle.jc_plan.proofs.ValueFacts.{first-keeps, second-keeps}
use Rattle.jc_history.specs.Replies.{log_given}
use Rattle.jc_counted.proofs.KeptFacts.{AreKept, MayAct, job-kept}

-- Where an end stands among the conditions, a target does.
abbrev EndsBy : List Condition → Type 0
EndsBy conditions = has_end conditions ≡ true → has_target conditions ≡ true

-- ---- the statuses of a plan

-- A target stands where each condition that stood still does, but for the Suspended one.
target-stays : (before after : List Condition) → ((kind : CondKind) → kind ≢ Suspended → stands kind before ≡ true → stands kind after ≡ true) → has_target before ≡ true → has_target after ≡ true
target-stays before after keeps h = by (or_cases (stands FailureTarget before) (stands SuccessCriteriaMet before) h)
  where
    by : (stands FailureTarget before ≡ true) ⊎ (stands SuccessCriteriaMet before ≡ true) → has_target after ≡ true
    by (inl e) = or_left (stands FailureTarget after) (stands SuccessCriteriaMet after) (keeps FailureTarget (λ e. cc) e)
    by (inr e) = or_right (stands FailureTarget after) (stands SuccessCriteriaMet after) (keeps SuccessCriteriaMet (λ e. cc) e)

module _ (job : Job) (basis : Basis) (before : EndsBy job.status.conditions) where
  first-by : EndsBy (first_value job basis).conditions
  first-by new = by (has_end job.status.conditions) refl
    where
      by : (b : Bool) → has_end job.status.conditions ≡ b → has_target (first_value job basis).conditions ≡ true
      by true e = target-stays job.status.conditions (first_value job basis).conditions (λ kind proper stood. first-keeps job basis kind proper stood) (before e)
      by false e = (first-rests job basis e new).target

  second-by : EndsBy (second_value job basis).conditions
  second-by new = by (has_end job.status.conditions) refl
    where
      by : (b : Bool) → has_end job.status.conditions ≡ b → has_target (second_value job basis).conditions ≡ true
      by true e = target-stays job.status.conditions (second_value job basis).conditions (λ kind proper stood. second-keeps job basis kind proper stood) (before e)
      by false e = (second-rests job basis e new).target

-- ---- the plan

changed-by : (old new : JobStatus) → EndsBy new.conditions → IfSome (changed old new) (λ (status : JobStatus). EndsBy status.conditions)
changed-by old new h = by (same_status old new)
  where
    by : (b : Bool) → IfSome (cond b None (Some new)) (λ (status : JobStatus). EndsBy status.conditions)
    by true = tt
    by false = h

record PlansBy (one other : Option JobStatus) : Type 0 where
  first : IfSome one (λ (status : JobStatus). EndsBy status.conditions)
  second : IfSome other (λ (status : JobStatus). EndsBy status.conditions)

plan-by : (b : Basis) → IfSome b.job (λ (job : Job). EndsBy job.status.conditions) → PlansBy (planned b).first (planned b).second
unfolding planned
plan-by b h = by b.job h
  where
    by : (o : Option Job) → IfSome o (λ (job : Job). EndsBy job.status.conditions) → PlansBy (planned_for b o).first (planned_for b o).second
    by None g = record { first = tt; second = tt }
    by (Some job) g = record {
      first = changed-by job.status (first_value job b) (first-by job b g);
      second = changed-by (first_value job b) (second_value job b) (second-by job b g);
    }

-- ---- the log of deeds

abbrev JobEnds : Job → Type 0
JobEnds job = EndsBy job.status.conditions

ends-kept : AreKept JobEnds (λ pod. Unit {0}) (λ key spec. Unit {0})
ends-kept = record {
  created = λ log key spec now may e. e;
  updated = λ log job change h. h;
  stated = λ log basis job current status saw h there. by basis status (plan-by basis (subst (λ o. IfSome o JobEnds) (sym saw) h));
  made = λ log job index now h. tt;
  marked = λ log pod now h. tt;
  freed = λ log pod h. tt;
  reported = λ log pod change h. tt;
}
  where
    by : (basis : Basis) (status : JobStatus) → PlansBy (planned basis).first (planned basis).second → ((planned basis).first ≡ Some status) ⊎ ((planned basis).second ≡ Some status) → EndsBy status.conditions
    by basis status p (inl is) = subst (λ o. IfSome o (λ (s : JobStatus). EndsBy s.conditions)) is p.first
    by basis status p (inr is) = subst (λ o. IfSome o (λ (s : JobStatus). EndsBy s.conditions)) is p.second

any-may : (deeds : List Deed) → Each (λ (d : Deed). MayAct JobEnds (λ pod. Unit {0}) (λ key spec. Unit {0}) ends-kept d.act) deeds
any-may [] = tt
any-may (d ∷ deeds) = (by d.act, any-may deeds)
  where
    by : (act : Act) → MayAct JobEnds (λ pod. Unit {0}) (λ key spec. Unit {0}) ends-kept act
    by (does.Create key spec) = tt
    by other = tt

-- A Job of the log that has ended has a target.
pub ended-by : (shape : Shape) (deeds : List Deed) (k : Key) (job : Job) → job_in k (log_given shape deeds) ≡ Some job → has_end job.status.conditions ≡ true → has_target job.status.conditions ≡ true
ended-by shape deeds k job there = subst (λ o. IfSome o JobEnds) there (job-kept JobEnds (λ pod. Unit {0}) (λ key spec. Unit {0}) ends-kept shape deeds (any-may deeds) k)
