-- Whole syncs and how many pods are made for a Job at most.
use Rattle.std.proofs.Common.{◌≡◌, ℕ, ◌+◌, ◌≤◌, false, List, length, Some, IfSome, refl, sym, ap, ◌∙◌, subst, arith}
use Rattle.std.proofs.lemmas.Option.{same_Some as some_is}
use Rattle.jc_types.specs.Keys.{same_key, same_uid}
use Rattle.jc_types.specs.declared.actions.End.{End}
use Rattle.jc_types.specs.declared.numbers.Version.{Version}
use Rattle.jc_types.specs.declared.objects.Entry.{Entry}
use Rattle.jc_types.specs.declared.objects.Job.{Job}
use Rattle.jc_types.specs.declared.objects.Pod.{Pod}
use Rattle.jc_states.specs.Bases.{own_pods}
use Rattle.jc_states.specs.PodLists.{IsRising}
use Rattle.jc_states.specs.declared.bases.Basis.{Basis}
use Rattle.jc_states.proofs.PodListFacts.{rises_filter}
use Rattle.jc_log.specs.Log.{job_in, made_for, pods_in, pods_under}
use Rattle.jc_log.proofs.PodFacts.{pods_in-rises}
use Rattle.jc_log.proofs.WriteFacts.{job_in-key}
use Rattle.jc_plan.specs.Plans.{planned}
use Rattle.jc_making.specs.Grants.{AllGranted, job_left}
use Rattle.jc_making.specs.Making.{IsCounted, creations_left, fails}
use Rattle.jc_making.specs.Nodes.{last_end}
use Rattle.jc_making.proofs.LowerFacts.{lowers}
use Rattle.jc_bearing.specs.AtMost.{pods_at_most}
use Rattle.jc_bearing.specs.Whole.{DoesAll, HasAllFor, SawLog, at_version}

-- The version of a Job is of no account.
any-version : (ends : List End) (made : ℕ) (version : Version) (job : Job) (own : List Pod) → creations_left ends made (at_version version job) own ≡ creations_left ends made job own
any-version ends made version job own = refl

module _ (ends : List End) (log new : List Entry) (basis : Basis) (job now : Job) (saw : SawLog log basis) (all : DoesAll log basis new) (there : job_in basis.key log ≡ Some job) (then : job_in basis.key new ≡ Some now)
    (counted : IsCounted job (own_pods job (pods_under basis.key log))) (last : IfSome (last_end ends) (λ end. fails end ≡ false)) where
  its : HasAllFor log basis job new
  its = all.its job (saw.job ∙ there)

  abbrev own-then : List Pod
  own-then = own_pods job (pods_under basis.key new)

  rising : IsRising basis.pods
  rising = subst IsRising (sym saw.pods) (rises_filter 0 (λ pod. same_key pod.owner basis.key) (pods_in log) (pods_in-rises log))

  less : creations_left ends (made_for job.uid log + length (planned basis).creates) (job_left (planned basis) job) (own_pods job (pods_under basis.key new)) + length (planned basis).creates
      ≤ creations_left ends (made_for job.uid log) job (own_pods job (pods_under basis.key log))
  less =
      subst (λ pods. creations_left ends (made_for job.uid log + length (planned basis).creates) (job_left (planned basis) job) (own_pods job (pods_under basis.key new)) + length (planned basis).creates
      ≤ creations_left ends (made_for job.uid log) job (own_pods job pods)) saw.pods
      (lowers ends (made_for job.uid log) job basis (saw.job ∙ there) rising (subst (λ pods. IsCounted job (own_pods job pods)) (sym saw.pods) counted) last (own_pods job (pods_under basis.key new))
      (subst (λ pods. AllGranted (planned basis) (made_for job.uid log) (own_pods job pods) (own_pods job (pods_under basis.key new))) (sym saw.pods) its.own))

  now-is : now ≡ at_version its.version (job_left (planned basis) job)
  now-is = some_is now (at_version its.version (job_left (planned basis) job)) (sym then ∙ its.job_is)

  key-is : job.key ≡ basis.key
  key-is = job_in-key basis.key log job there

  at-most-now : pods_at_most ends new (at_version its.version (job_left (planned basis) job))
      ≡ (made_for job.uid log + length (planned basis).creates)
      + creations_left ends (made_for job.uid log + length (planned basis).creates) (job_left (planned basis) job) (own_pods job (pods_under basis.key new))
  at-most-now =
      (λ i. its.made i + creations_left ends (its.made i) (at_version its.version (job_left (planned basis) job)) (own_pods job (pods_under (key-is i) new)))
      ∙ ap (λ n. (made_for job.uid log + length (planned basis).creates) + n)
      (any-version ends (made_for job.uid log + length (planned basis).creates) its.version (job_left (planned basis) job) (own_pods job (pods_under basis.key new)))

  at-most-then : pods_at_most ends log job ≡ made_for job.uid log + creations_left ends (made_for job.uid log) job (own_pods job (pods_under basis.key log))
  at-most-then = ap (λ k. made_for job.uid log + creations_left ends (made_for job.uid log) job (own_pods job (pods_under k log))) key-is

  pub no-more : pods_at_most ends new now ≤ pods_at_most ends log job
  no-more = subst (λ j. pods_at_most ends new j ≤ pods_at_most ends log job) (sym now-is) (omega (arith, at-most-now, at-most-then, less))

pub no-other : (ends : List End) (log new : List Entry) (basis : Basis) (job : Job) → DoesAll log basis new → same_key basis.key job.key ≡ false → IfSome basis.job (λ seen. same_uid seen.uid job.uid ≡ false)
    → pods_at_most ends new job ≡ pods_at_most ends log job
no-other ends log new basis job all key uid = λ i. all.others.made job.uid uid i + creations_left ends (all.others.made job.uid uid i) job (own_pods job (all.others.pods job.key key i))
