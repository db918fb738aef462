-- How many pods may still be made for a Job: what a whole sync leaves of it, and a deed of the node.
use Rattle.std.proofs.Common.{◌≡◌, ℕ, ◌+◌, ◌≤◌, false, List, ◌∷◌, length, Option, Some, IfSome, refl, sym, ap, ◌∙◌, subst, arith}
use Rattle.std.specs.Option.{option_map_or}
use Rattle.jc_types.specs.declared.objects.KeyNames.{KeyNames as Key}
use Rattle.jc_types.specs.Keys.{same_key, same_uid}
use Rattle.jc_types.specs.declared.actions.End.{End}
use Rattle.jc_types.specs.declared.numbers.Version.{Version}
use Rattle.jc_types.specs.declared.objects.Entry.{Entry}
use Rattle.jc_types.specs.declared.objects.Job.{Job}
use Rattle.jc_types.specs.declared.objects.Pod.{Pod}
use Rattle.jc_types.specs.declared.runs.Shape.{Shape}
use Rattle.jc_states.specs.Bases.{own_pods}
use Rattle.jc_states.specs.PodLists.{IsRising}
use Rattle.jc_states.specs.declared.bases.Basis.{Basis}
use Rattle.jc_states.proofs.PodListFacts.{rises_filter}
use Rattle.jc_log.specs.Acts as does
use Rattle.jc_log.specs.Deeds.{Deed}
use Rattle.jc_log.specs.Log.{job_in, made_for, pods_in, pods_under}
use Rattle.jc_log.proofs.PodFacts.{pods_in-rises}
use Rattle.jc_log.proofs.WriteFacts.{job_in-key}
use Rattle.jc_plan.specs.Plans.{planned}
use Rattle.jc_runs.specs.Replies.{log_given}
use Rattle.jc_retries.specs.Grants.{AllBecome, AllGranted, job_left}
use Rattle.jc_retries.specs.Making.{IsCounted}
use Rattle.jc_retries.specs.Nodes.{fate}
use Rattle.jc_retries.specs.Retries.{CountsAtLast, creations_allowed}
use Rattle.jc_retries.proofs.RetryNodes.{gone-allowed, retries-fall}
use Rattle.jc_retries.proofs.RetryPlans.{uses-up}
use Rattle.jc_bearing.specs.Whole.{DoesAll, HasAllFor, SawLog, at_version}
use Rattle.jc_bearing.proofs.ReportFacts.{NodeKeeps, node-bound}
use Rattle.jc_remaining.specs.Remaining.{creations_for, creations_under, ends_of}

-- The version of a Job is of no account.
any-version : (ends : List End) (made : ℕ) (version : Version) (job : Job) (own : List Pod) → creations_allowed ends made (at_version version job) own ≡ creations_allowed ends made job own
any-version ends made version job own = refl

-- ---- a whole sync

module _ (fates : Key → Option (List End)) (log new : List Entry) (basis : Basis) (all : DoesAll log basis new) where
  -- Of its own Job.
  module _ (job : Job) (saw : SawLog log basis) (there : job_in basis.key log ≡ Some job) (counted : IsCounted job (own_pods job (pods_under basis.key log))) (lasts : CountsAtLast (ends_of fates basis.key) job.spec) where
    abbrev made : ℕ
    made = length (planned basis).creates

    its : HasAllFor log basis job new
    its = all.its job (saw.job ∙ there)

    rising : IsRising basis.pods
    rising = subst IsRising (sym saw.pods) (rises_filter 0 (λ (pod : Pod). same_key pod.owner basis.key) (pods_in log) (pods_in-rises log))

    granted : AllGranted (planned basis) (made_for job.uid log) (own_pods job basis.pods) (own_pods job (pods_under basis.key new))
    granted = record {
      after = its.own.after;
      fresh = its.own.fresh;
      parts = its.own.parts;
      follow = subst (λ pods. AllBecome (planned basis) (own_pods job pods) its.own.after) (sym saw.pods) its.own.follow;
      new = its.own.new;
      rising = its.own.rising;
    }

    less : creations_allowed (ends_of fates basis.key) (made_for job.uid log + length (planned basis).creates) (job_left (planned basis) job) (own_pods job (pods_under basis.key new)) + length (planned basis).creates
        ≤ creations_allowed (ends_of fates basis.key) (made_for job.uid log) job (own_pods job (pods_under basis.key log))
    unfolding granted
    less =
        subst (λ pods. creations_allowed (ends_of fates basis.key) (made_for job.uid log + length (planned basis).creates) (job_left (planned basis) job) (own_pods job (pods_under basis.key new))
        + length (planned basis).creates ≤ creations_allowed (ends_of fates basis.key) (made_for job.uid log) job (own_pods job pods)) saw.pods
        (uses-up (ends_of fates basis.key) (made_for job.uid log) job basis (saw.job ∙ there) rising (subst (λ pods. IsCounted job (own_pods job pods)) (sym saw.pods) counted) lasts
        (own_pods job (pods_under basis.key new)) granted its.looks)

    key-is : job.key ≡ basis.key
    key-is = job_in-key basis.key log job there

    now-is : creations_for fates new (at_version its.version (job_left (planned basis) job))
        ≡ creations_allowed (ends_of fates basis.key) (made_for job.uid log + length (planned basis).creates) (job_left (planned basis) job) (own_pods job (pods_under basis.key new))
    now-is =
        (λ i. creations_allowed (ends_of fates (key-is i)) (its.made i) (at_version its.version (job_left (planned basis) job)) (own_pods job (pods_under (key-is i) new)))
        ∙ any-version (ends_of fates basis.key) (made_for job.uid log + length (planned basis).creates) its.version (job_left (planned basis) job) (own_pods job (pods_under basis.key new))

    was-is : creations_for fates log job ≡ creations_allowed (ends_of fates basis.key) (made_for job.uid log) job (own_pods job (pods_under basis.key log))
    was-is = λ i. creations_allowed (ends_of fates (key-is i)) (made_for job.uid log) job (own_pods job (pods_under (key-is i) log))

    pub own-fewer : creations_under fates new basis.key + length (planned basis).creates ≤ creations_under fates log basis.key
    own-fewer =
        let now : creations_under fates new basis.key ≡ creations_for fates new (at_version its.version (job_left (planned basis) job)) = ap (λ o. option_map_or (creations_for fates new) o 0) its.job_is in
        let was : creations_under fates log basis.key ≡ creations_for fates log job = ap (λ o. option_map_or (creations_for fates log) o 0) there in
        omega (arith, less, now, now-is, was, was-is)

  -- Of another Job.
  pub other-for : (job : Job) → same_key basis.key job.key ≡ false → IfSome basis.job (λ seen. same_uid seen.uid job.uid ≡ false) → creations_for fates new job ≡ creations_for fates log job
  other-for job key uid = λ i. creations_allowed (ends_of fates job.key) (all.others.made job.uid uid i) job (own_pods job (all.others.pods job.key key i))

-- ---- a deed of the node

allowed-kept : (ends : List End) (job : Job) → NodeKeeps ends job (λ made own. creations_allowed ends made job own)
allowed-kept ends job = record {
  acts = λ fates made front back log pod act counted ended befalls. retries-fall ends made job front back fates log pod counted ended act befalls;
  gone = λ made front back pod lost. gone-allowed ends made job front back pod lost;
}

pub node-for : (shape : Shape) (past : List Deed) (d : Deed) → d.act ≡ does.Node → (job : Job) → IsCounted job (own_pods job (pods_under job.key (log_given shape past)))
    → creations_for (fate past) (log_given shape (d ∷ past)) job ≤ creations_for (fate past) (log_given shape past) job
node-for shape past d act job counted =
    node-bound (λ made own. creations_allowed (ends_of (fate past) job.key) made job own) shape past d act (ends_of (fate past) job.key) job (allowed-kept (ends_of (fate past) job.key) job) refl counted
