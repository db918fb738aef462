-- Where no Job is created that ignores the last end of its fate, none does that is there in a settle.
use Rattle.std.proofs.Common.{ℕ, List, [], ◌∷◌, Option, IfSome, subst}
use Rattle.std.specs.List.{AllByRecursion as Each}
use Rattle.jc_types.proofs.ListFacts.{Each-weaker}
use Rattle.jc_types.specs.declared.actions.End.{End}
use Rattle.jc_types.specs.declared.objects.Job.{Job}
use Rattle.jc_types.specs.declared.objects.KeyNames.{KeyNames as Key}
use Rattle.jc_types.specs.declared.objects.Pod.{Pod}
use Rattle.jc_types.specs.declared.runs.Shape.{Shape}
use Rattle.jc_types.specs.declared.runs.Sys.{Sys}
use Rattle.jc_types.specs.declared.runs.Sys.TheVariants as sys
use Rattle.jc_types.specs.declared.specifications.JobSpec.{JobSpec}
use Rattle.jc_log.specs.Acts as does
use Rattle.jc_log.specs.Acts.{Act}
use Rattle.jc_log.specs.Deeds.{Deed, act_of_system}
use Rattle.jc_log.proofs.WriteFacts.{job_in-key}
use Rattle.jc_runs.specs.Replies.{log_given}
use Rattle.jc_settle.specs.Settles.{settled_on}
use Rattle.jc_counted.proofs.KeptFacts.{AreKept, MayAct, job-kept}
use Rattle.jc_remaining.specs.Nodes.{fate}
use Rattle.jc_remaining.specs.Remaining.{LastEndsCount, ends_of}
use Rattle.jc_remaining.specs.Retries.{CountsAtLast}
use Rattle.jc_remaining.proofs.SuccessCounts.{success-counts}
use Rattle.jc_finite.specs.Finite.{EndInTheEnd, LastEndCounts, SucceedInTheEnd}
use Rattle.jc_finite.proofs.SuccessFacts.{each-on}

module _ (shape : Shape) (fates : Key → Option (List End)) where
  abbrev Counts : Deed → Type 0
  Counts d = LastEndCounts fates d.act

  -- An update changes neither the template of a Job nor what it makes of failures, and a status neither.
  abbrev HasCounting : Job → Type 0
  HasCounting job = CountsAtLast (ends_of fates job.key) job.spec

  abbrev AnyPod : Pod → Type 0
  AnyPod pod = Unit {0}

  abbrev CountsOf : Key → JobSpec → Type 0
  CountsOf key spec = CountsAtLast (ends_of fates key) spec

  kept : AreKept HasCounting AnyPod CountsOf
  kept = record {
    created = λ log key spec now may. may;
    updated = λ log job change h. h;
    stated = λ log basis job current status saw h there is. there;
    made = λ log job index now h. tt;
    marked = λ log pod now h. tt;
    freed = λ log pod h. tt;
    reported = λ log pod change h. tt;
  }

  -- A settle creates no Job.
  system-counts : (x : Sys) → LastEndCounts fates (act_of_system x)
  system-counts (sys.List c kind) = tt
  system-counts (sys.Deliver c kind) = tt
  system-counts (sys.Begin c w) = tt
  system-counts (sys.Step c w) = tt
  system-counts sys.Node = tt
  system-counts (sys.Clock add) = tt

  may : (act : Act) → LastEndCounts fates act → MayAct HasCounting AnyPod CountsOf kept act
  may (does.Create key spec) h = h
  may other h = tt

  pub jobs-count : (past : List Deed) → Each Counts past → (events : ℕ) → LastEndsCount fates (log_given shape (settled_on shape events past))
  jobs-count past h events key job there =
      subst (λ k. CountsAtLast (ends_of fates k) job.spec) (job_in-key key (log_given shape (settled_on shape events past)) job there)
      (subst (λ o. IfSome o HasCounting) there
      (job-kept HasCounting AnyPod CountsOf kept shape (settled_on shape events past)
      (Each-weaker Counts (λ (d : Deed). MayAct HasCounting AnyPod CountsOf kept d.act) (λ d. may d.act) (settled_on shape events past) (each-on shape (LastEndCounts fates) system-counts events past h)) key))

-- ---- where the last end of each fate is a success

pub success-enough : (past : List Deed) → SucceedInTheEnd past → EndInTheEnd past
success-enough past h = record { lasts = each past; restarts = h.restarts }
  where
    of : (act : Act) → LastEndCounts (fate past) act
    of (does.Create key spec) = success-counts (ends_of (fate past) key) spec (h.lasts key)
    of other = tt

    each : (deeds : List Deed) → Each (λ (d : Deed). LastEndCounts (fate past) d.act) deeds
    each [] = tt
    each (d ∷ deeds) = (of d.act, each deeds)
