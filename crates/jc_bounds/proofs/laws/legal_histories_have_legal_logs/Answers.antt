-- The lemma on the log of a legal history.
use Rattle.jc_bounds.proofs.LegalLogs.{legal-log}
use Rattle.jc_bounds.proofs.laws.legal_histories_have_legal_logs.Goals as goal

pub returns : goal.returns
returns c = record {
  legal = λ shape deeds one legal. (legal-log shape deeds one legal).0;
  totals = λ shape deeds one legal. (legal-log shape deeds one legal).1;
}
