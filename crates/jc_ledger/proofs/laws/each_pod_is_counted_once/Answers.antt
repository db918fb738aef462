-- What is tied counts once, now and after each deed; so does each world of a run.
use Rattle.jc_ledger.proofs.OnceFacts.{tied_once, once_tied}
use Rattle.jc_ledger.proofs.RunFacts.{run_once}
use Rattle.jc_ledger.proofs.laws.each_pod_is_counted_once.Goals as goal

pub returns : goal.returns
returns c = record {
  tied = λ w t. tied_once w.deeds w.log w.flights t;
  at_each = λ w t. once_tied w.deeds w.log w.flights t;
  run = run_once;
}
