-- Each pod of a log has the restart policy of a Job that was created under its key.
use Rattle.std.proofs.Common.{List}
use Rattle.std.specs.List.{AllByRecursion as Each}
use Rattle.jc_types.specs.declared.objects.Job.{Job}
use Rattle.jc_types.specs.declared.objects.KeyNames.{KeyNames as Key}
use Rattle.jc_types.specs.declared.objects.Pod.{Pod}
use Rattle.jc_types.specs.declared.runs.Shape.{Shape}
use Rattle.jc_types.specs.declared.specifications.JobSpec.{JobSpec}
use Rattle.jc_types.specs.declared.specifications.Restart.{Restart}
use Rattle.jc_log.specs.Acts.{Act}
use Rattle.jc_log.specs.Deeds.{Deed}
use Rattle.jc_log.specs.Log.{pods_in}
use Rattle.jc_history.specs.Replies.{log_given}
use Rattle.jc_counted.proofs.KeptFacts.{AreKept, MayAct, pods-kept}

-- What holds of the key and the policy of each Job that is created, holds of those of each pod.
module _ (K : Key → Restart → Type 0) where
  abbrev JobHas : Job → Type 0
  JobHas job = K job.key job.spec.template.restart

  abbrev PodHas : Pod → Type 0
  PodHas pod = K pod.owner pod.restart

  abbrev pub Created : Key → JobSpec → Type 0
  Created key spec = K key spec.template.restart

  pub policies : AreKept JobHas PodHas Created
  policies = record {
    created = λ log key spec now may. may;
    updated = λ log job change h. h;
    stated = λ log basis job current status saw h there is. there;
    made = λ log job index now h. h;
    marked = λ log pod now h. h;
    freed = λ log pod h. h;
    reported = λ log pod change h. h;
  }

  -- The act creates such a Job, if any.
  abbrev pub CreatesSuch : Act → Type 0
  CreatesSuch act = MayAct JobHas PodHas Created policies act

  pub pods-have : (shape : Shape) (deeds : List Deed) → Each (λ (d : Deed). CreatesSuch d.act) deeds → Each PodHas (pods_in (log_given shape deeds))
  pods-have shape deeds may = pods-kept JobHas PodHas Created policies shape deeds may
