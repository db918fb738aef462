-- The write that an event is judges by the Job that its sync saw.
use Rattle.std.proofs.Common.{◌≡◌, ℕ, Bool, true, false, cond, ◌&&◌, List, reverse, take, Option, Some, None, refl, sym, ap, ◌∙◌}
use Rattle.std.specs.Option.{option_map, option_and_then}
use Rattle.jc_types.specs.declared.objects.Entry.{Entry}
use Rattle.jc_types.specs.declared.objects.Job.{Job}
use Rattle.jc_log.specs.Deeds.{Deed}
use Rattle.jc_log.specs.Log.{job_in}
use Rattle.jc_log.proofs.LogFacts.{upto-reverse}
use Rattle.jc_verdicts.specs.declared.workers.Start.{Start}
use Rattle.jc_ledger.specs.Ledger.{Judging, is_status, judging_at, judging_of}
use Rattle.jc_verdicts.specs.SyncStarts.{began_with}
use Rattle.jc_ledger.specs.Syncs.{Began, appends, request_of, step_sync}
use Rattle.jc_verdicts.specs.Verdicts.{sync_at}

-- The write that judges, by its sync.
judging_by_sync : (d : Deed) (past : List Deed) (log : List Entry) → judging_of d past log ≡ option_and_then (judging_at d.length.0 log) (sync_at d past)
judging_by_sync d past log = by (is_status (request_of d.reply) && appends d past)
  where
    by : (b : Bool) → cond {A = Option Judging} b (option_and_then (judging_at d.length.0 log) (step_sync d past)) None ≡ option_and_then (judging_at d.length.0 log) (cond {A = Option Began} b (step_sync d past) None)
    by true = refl
    by false = refl

module _ (d : Deed) (past : List Deed) (log : List Entry) where
  -- The sync wrote that began so: it judges by the Job that was there.
  pub judging-start : (found : Option Start) (start : Start) (end : ℕ) (job : Option Job) → option_map began_with found ≡ sync_at d past
      → found ≡ Some start → take end log ≡ take start.jobs_at.0 log → job ≡ job_in start.key.now (reverse (take end log))
      → option_map (λ (there : Job). record { job = there; seen = start.pods_at.0; at = d.length.0 }) job ≡ judging_of d past (reverse log)
  judging-start found start end job syncs some same finds =
      sym (judging_by_sync d past (reverse log) ∙ ap (option_and_then (judging_at d.length.0 (reverse log))) (sym syncs ∙ ap (option_map began_with) some)
      ∙ ap (option_map (λ (there : Job). record { job = there; seen = start.pods_at.0; at = d.length.0 }))
      (ap (job_in start.key.now) (upto-reverse start.jobs_at.0 log ∙ ap reverse (sym same)) ∙ sym finds))
