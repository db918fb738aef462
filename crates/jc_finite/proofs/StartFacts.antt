-- Where no Job is created whose containers restart for ever, or none of its key is ever deleted, each pod that fails and is
-- restarted has its Job, and so has each that a sync under way may still make.
use Rattle.std.proofs.Common.{◌≡◌, ◌⊎◌, inl, inr, true, List, [], ◌∷◌, Option, Some, None, IfSome, sym, ◌∙◌, subst, true≢false}
use Rattle.std.specs.List.{AllByRecursion as Each}
use Rattle.jc_types.proofs.ListFacts.{Each-both, Each-weaker}
use Rattle.jc_types.specs.declared.objects.Entry.{Entry}
use Rattle.jc_types.specs.declared.objects.Job.{Job}
use Rattle.jc_types.specs.declared.objects.KeyNames.{KeyNames as Key}
use Rattle.jc_types.specs.declared.objects.Pod.{Pod}
use Rattle.jc_types.specs.declared.runs.Shape.{Shape}
use Rattle.jc_types.specs.declared.specifications.Restart.{Restart}
use Rattle.jc_log.specs.Acts as does
use Rattle.jc_log.specs.Acts.{Act}
use Rattle.jc_log.specs.Deeds.{Deed}
use Rattle.jc_log.specs.Log.{Live, life, pods_in, upto}
use Rattle.jc_log.specs.Requests.{grown}
use Rattle.jc_log.proofs.PodFacts.{pods_in-live}
use Rattle.jc_runs.specs.Basis.{Basis}
use Rattle.jc_runs.specs.Replies.{gives, log_given}
use Rattle.jc_counted.proofs.KeptFacts.{PutsBy, act-by, found-by}
use Rattle.jc_counted.proofs.PolicyFacts.{Created, CreatesSuch, pods-have, policies}
use Rattle.jc_remaining.specs.Decisions.{restarts_on_failure}
use Rattle.jc_remaining.specs.Nodes.{fate}
use Rattle.jc_remaining.specs.Remaining.{ends_of}
use Rattle.jc_restarts.specs.Restarts.{HasItsJob, IsPresent, MayMakePods, NeverDeleted}
use Rattle.jc_restarts.proofs.SawFacts.{sync-saw}
use Rattle.jc_restarts.proofs.StandFacts.{each-upto, has-its-job, saw-there}
use Rattle.jc_finite.specs.Finite.{CountSuccesses, EndInTheEnd, FailsUnderItsJob, MakesUnderItsJob, RestartsEnd, RestartsStop, StopInTheEnd, StopWhereKept, SuccessesCount, SucceedAll}
use Rattle.jc_finite.proofs.SuccessFacts.{CountsIfNone, Succeeds, pod-has}

-- ---- what a sync saw

-- What holds of the key and the policy of each Job that is created, holds of those of each that a sync under way saw.
module _ (K : Key → Restart → Type 0) (shape : Shape) where
  abbrev JobK : Job → Type 0
  JobK job = K job.key job.spec.template.restart

  abbrev PodK : Pod → Type 0
  PodK pod = K pod.owner pod.restart

  abbrev PutsK : Entry → Type 0
  PutsK e = PutsBy JobK PodK (Created K) (policies K) e

  all-such : (deeds : List Deed) → Each (λ (d : Deed). CreatesSuch K d.act) deeds → Each PutsK (log_given shape deeds)
  unfolding log_given
  all-such [] may = tt
  all-such (d ∷ past) may =
      by (gives shape past (log_given shape past) d.act).entry (act-by JobK PodK (Created K) (policies K) shape past (log_given shape past) (all-such past may.1) d.act may.0) (all-such past may.1)
    where
      by : (o : Option Entry) → IfSome o PutsK → Each PutsK (log_given shape past) → Each PutsK (grown (log_given shape past) o)
      by None h older = older
      by (Some e) h older = (h, older)

  saw-such : (deeds : List Deed) → Each (λ (d : Deed). CreatesSuch K d.act) deeds → (basis : Basis) (job : Job) → MayMakePods shape deeds basis → basis.job ≡ Some job → K job.key job.spec.template.restart
  saw-such deeds may basis job makes saw =
      subst (λ o. IfSome o JobK) (sym (sync-saw shape deeds basis makes) ∙ saw)
      (found-by JobK PodK (Created K) (policies K) (upto basis.jobs_at.0 (log_given shape deeds)) (each-upto PutsK basis.jobs_at.0 (log_given shape deeds) (all-such deeds may)) basis.key)

-- ---- where none is ever deleted

module _ (shape : Shape) (past : List Deed) (kept : StopWhereKept past) where
  abbrev log : List Entry
  log = log_given shape past

  -- What is so of the key and the policy of each Job.
  abbrev EndsOrStands : Key → Restart → Type 0
  EndsOrStands key restart = restarts_on_failure restart ≡ true → SucceedAll (ends_of (fate past) key) ⊎ (CountSuccesses (ends_of (fate past) key) × NeverDeleted key past)

  stop-such : (act : Act) → RestartsStop past act → CreatesSuch EndsOrStands act
  stop-such (does.Create key spec) h = h
  stop-such other h = tt

  create-such : Each (λ (d : Deed). CreatesSuch EndsOrStands d.act) past
  create-such = Each-weaker (λ (d : Deed). RestartsStop past d.act) (λ (d : Deed). CreatesSuch EndsOrStands d.act) (λ d. stop-such d.act) past kept.restarts

  counts-of : (act : Act) → RestartsStop past act → SuccessesCount (fate past) act
  counts-of (does.Create key spec) h = λ policy. by (h policy)
    where
      by : SucceedAll (ends_of (fate past) key) ⊎ (CountSuccesses (ends_of (fate past) key) × NeverDeleted key past) → CountSuccesses (ends_of (fate past) key)
      by (inl all) = Each-weaker Succeeds CountsIfNone (λ end succeeds none. succeeds.1) (ends_of (fate past) key) all
      by (inr both) = both.0
  counts-of other h = tt

  pod-fails : (pod : Pod) → (life pod.uid (log_given shape past) ≡ Live pod) × EndsOrStands pod.owner pod.restart → FailsUnderItsJob (fate past) (log_given shape past) pod
  pod-fails pod h active policy end fated failing = by (h.1 policy)
    where
      by : SucceedAll (ends_of (fate past) pod.owner) ⊎ (CountSuccesses (ends_of (fate past) pod.owner) × NeverDeleted pod.owner past) → HasItsJob (log_given shape past) pod
      by (inl all) = absurd (true≢false (sym failing ∙ (pod-has Succeeds (fate past) pod all end fated).0))
      by (inr both) = has-its-job shape past pod h.0 both.1

  sync-makes : (basis : Basis) → MayMakePods shape past basis → MakesUnderItsJob (fate past) (log_given shape past) basis
  sync-makes basis makes job saw policy = by (saw-such EndsOrStands shape past create-such basis job makes saw policy)
    where
      by : SucceedAll (ends_of (fate past) job.key) ⊎ (CountSuccesses (ends_of (fate past) job.key) × NeverDeleted job.key past) → SucceedAll (ends_of (fate past) job.key) ⊎ IsPresent (log_given shape past) job
      by (inl all) = inl all
      by (inr both) = inr (saw-there shape past basis job makes saw both.1)

  pub kept-stop : StopInTheEnd shape past
  kept-stop = record {
    lasts = kept.lasts;
    counts = Each-weaker (λ (d : Deed). RestartsStop past d.act) (λ (d : Deed). SuccessesCount (fate past) d.act) (λ d. counts-of d.act) past kept.restarts;
    pods =
        Each-weaker (λ (pod : Pod). (life pod.uid log ≡ Live pod) × EndsOrStands pod.owner pod.restart) (FailsUnderItsJob (fate past) log) pod-fails (pods_in log)
        (Each-both (λ (pod : Pod). life pod.uid log ≡ Live pod) (λ (pod : Pod). EndsOrStands pod.owner pod.restart) (pods_in log) (pods_in-live log) (pods-have EndsOrStands shape past create-such));
    syncs = sync-makes;
  }

-- ---- where no container restarts for ever

ends-kept : (past : List Deed) → EndInTheEnd past → StopWhereKept past
ends-kept past ends = record { lasts = ends.lasts; restarts = Each-weaker (λ (d : Deed). RestartsEnd (fate past) d.act) (λ (d : Deed). RestartsStop past d.act) (λ d. of d.act) past ends.restarts }
  where
    of : (act : Act) → RestartsEnd (fate past) act → RestartsStop past act
    of (does.Create key spec) h = λ policy. inl (h policy)
    of other h = tt

pub ends-stop : (shape : Shape) (past : List Deed) → EndInTheEnd past → StopInTheEnd shape past
ends-stop shape past ends = kept-stop shape past (ends-kept past ends)
