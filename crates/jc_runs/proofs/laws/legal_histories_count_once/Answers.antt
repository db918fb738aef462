-- What a legal history counts: what its machine does.
use Rattle.std.proofs.Common.{subst, ◌∙◌, ap}
use Rattle.jc_log.specs.Log.{job_in}
use Rattle.jc_ledger.specs.Once.{AllJustified, OnceAtEach}
use Rattle.jc_runs.proofs.CountedFacts.{counted, justified}
use Rattle.jc_runs.proofs.LegalRuns.{legal_run}
use Rattle.jc_runs.proofs.laws.legal_histories_count_once.Goals as goal

pub returns : goal.returns
returns c = record {
  at_each = λ shape deeds legal valid.
      let m = legal_run c.allowed_updates_stay_valid.ensures shape deeds legal valid in
      subst (OnceAtEach deeds) m.run.log_is (counted shape deeds m.log m.teams m.fates m.now m.run);
  justified = λ shape deeds legal valid k job there.
      let m = legal_run c.allowed_updates_stay_valid.ensures shape deeds legal valid in
      subst (AllJustified job deeds) m.run.log_is (justified shape deeds m.log m.teams m.fates m.now m.run k job (ap (job_in k) m.run.log_is ∙ there));
}
