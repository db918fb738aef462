-- The report of a script whose commands are proper is one.
use Rattle.std.proofs.Common.{◌≡◌, ℕ, Bool, List, Option, Some, None, Result, Ok, Err, refl, subst, sym}
use Rattle.std.specs.Prelude.{IfSome, IsOkAnd}
use Rattle.std.specs.List.{AllByRecursion as Each}
use Rattle.jc_types.specs.declared.actions.Script.{Script}
use Rattle.jc_types.specs.declared.runs.Shape.{Shape}
use Rattle.jc_audit.specs.Audits.{VerdictHolds}
use Rattle.jc_audit.specs.Proper.{IsProperCommand}
use Rattle.jc_audit.specs.declared.verdicts.Verdict.TheVariants.{Yes}
use Rattle.jc_script.specs.Scripts.{BadLine}
use Rattle.jc_single.specs.Played.{Staging, script_played, staging_of}
use Rattle.jc_single.specs.Headlines.{TellsHistory}
use Rattle.jc_ctl.specs.Audited.{PassesAudit}
use Rattle.jc_ctl.proofs.laws.written_reports_pass_audits.Goals as goal

-- A report of which an audit says yes passes where its script is the one that is played.
by-staging : (full : Bool) (old new : Option (List ℕ)) (r : Result Script BadLine) (o : Option Staging)
    → ((script : Script) → r ≡ Ok script → IfSome o (λ staging. Each IsProperCommand script.commands))
    → ((threads : ℕ) (script : Script) (shape : Shape) → Each IsProperCommand script.commands → TellsHistory threads script shape full old new
    → PassesAudit shape old new)
    → IfSome o (λ staging. IsOkAnd r (λ script. TellsHistory staging.threads script staging.shape full old new) → PassesAudit staging.shape old new)
by-staging full old new r None proper passes = tt
by-staging full old new (Ok script) (Some staging) proper passes =
    λ told. passes staging.threads script staging.shape (proper script refl) told
by-staging full old new (Err bad) (Some staging) proper passes = λ told. absurd told

pub returns : goal.returns
returns c = λ order input full old new fits.
    by-staging full old new (script_played order input) (staging_of order)
    (λ script said. c.played_scripts_are_proper.ensures order input script fits said)
    (λ threads script shape proper told.
    let report = told.report.told in
    record {
      text = told.text;
      says = subst (λ text. VerdictHolds shape text Yes) (sym report.text_is)
          (c.histories_print_reports.ensures script shape told.report.history full (record {
            proper = proper;
            legal = report.legal;
            orderly = report.orderly;
            history_full = report.filled;
          }));
      written = told.written;
    })
