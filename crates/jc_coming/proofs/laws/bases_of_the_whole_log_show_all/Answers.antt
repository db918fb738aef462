-- A basis of the whole log.
use Rattle.std.proofs.Common.{ℕ, List, refl, ap, arith, length}
use Rattle.jc_types.specs.declared.objects.Entry.{Entry}
use Rattle.jc_types.specs.declared.objects.KeyNames.{KeyNames as Key}
use Rattle.jc_log.specs.Log.{job_in, pods_under}
use Rattle.jc_log.proofs.LogFacts.{upto-all}
use Rattle.jc_control.specs.Schedules.{log_end}
use Rattle.jc_history.specs.Fresh.{basis}
use Rattle.jc_history.specs.Notes.{Note}
use Rattle.jc_coming.specs.Moments.{ShowsAll}
use Rattle.jc_coming.proofs.laws.bases_of_the_whole_log_show_all.Goals as goal

whole : (notes : List Note) (log : List Entry) (now : ℕ) (key : Key) → ShowsAll notes log (basis notes log now key (log_end log) (log_end log))
whole notes log now key = record {
  job = ap (job_in key) (upto-all (length log) log (omega arith));
  pods = ap (pods_under key) (upto-all (length log) log (omega arith));
  backed_off = refl;
}

pub returns : goal.returns
returns c = whole
