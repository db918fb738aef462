-- No Job of a legal history that is Indexed lists a success.
use Rattle.std.proofs.Common.{◌≡◌, List, length, Some, None, sym, ap, ◌∙◌, arith}
use Rattle.jc_types.specs.declared.actions.SpecChange.{SpecChange}
use Rattle.jc_types.specs.declared.objects.Entry.{Entry}
use Rattle.jc_types.specs.declared.objects.Job.{Job}
use Rattle.jc_types.specs.declared.objects.KeyNames.{KeyNames as Key}
use Rattle.jc_types.specs.declared.runs.Shape.{Shape}
use Rattle.jc_types.specs.declared.specifications.JobSpec.{JobSpec}
use Rattle.jc_types.specs.ValidSpecs.{IsValidSpec}
use Rattle.jc_log.specs.Deeds.{Deed}
use Rattle.jc_log.specs.Log.{job_in}
use Rattle.jc_log.specs.Requests.{changed_spec, update_refusal}
use Rattle.jc_log.specs.Writes.{Stored}
use Rattle.jc_log.proofs.LogFacts.{upto-all}
use Rattle.jc_log.proofs.WriteFacts.{Stored-from_legal}
use Rattle.jc_plan.specs.Next.{ListsNoSuccess}
use Rattle.jc_ledger.specs.declared.flights.Flight.{Flight}
use Rattle.jc_ledger.specs.Tied.{Tied, made_as}
use Rattle.jc_ledger.proofs.MadeFacts.{WasMade, job_in-was_made}
use Rattle.jc_ledger.proofs.PutFacts.{ties_of}
use Rattle.jc_ledger.proofs.QuietFacts.{seen_job-entry}
use Rattle.jc_history.specs.Legal.{IsLegal}
use Rattle.jc_history.specs.Replies.{log_given}
use Rattle.jc_runs.specs.Machines.{AllAskValid}
use Rattle.jc_runs.proofs.LegalRuns.{legal_run}

module _ (deeds : List Deed) (log : List Entry) (flights : List Flight) (t : Tied deeds log flights) (k : Key) (job : Job) (there : job_in k log ≡ Some job) where
  stored : Stored log
  stored = Stored-from_legal log t.legal

  was : WasMade log job
  was = job_in-was_made k log job stored there

  is_made : made_as was.made.uid log ≡ Some was.made
  is_made = ap (λ j. made_as j log) (sym was.step.uid) ∙ was.is_made

  pub lists-none : ListsNoSuccess job
  lists-none =
      ((ties_of deeds log flights was.made t is_made).tidy job.version.0 job
      (seen_job-entry k (length log) log job t.legal (omega arith) (ap (job_in k) (upto-all (length log) log (omega arith)) ∙ there)) was.step.uid).none

-- What an update that is not refused gives is valid.
abbrev pub Stay : Type 0
Stay = (spec : JobSpec) (change : SpecChange) → IsValidSpec spec → update_refusal spec change ≡ None → IsValidSpec (changed_spec spec change)

pub legal-lists-none : Stay → (shape : Shape) (deeds : List Deed) → IsLegal shape deeds → AllAskValid deeds → (k : Key) (job : Job) → job_in k (log_given shape deeds) ≡ Some job → ListsNoSuccess job
legal-lists-none stay shape deeds legal valid k job there =
    let m = legal_run stay shape deeds legal valid in
    lists-none deeds m.log _ m.run.syncs.tied k job (ap (job_in k) m.run.log_is ∙ there)
