-- The lemma on the log of deeds.
use Rattle.std.proofs.Common.{◌≡◌, true}
use Rattle.jc_origins.proofs.OriginFacts.{log-origins}
use Rattle.jc_origins.proofs.laws.logs_come_of_their_deeds.Goals as goal

pub returns : goal.returns
returns c = λ test shape deeds asks. log-origins (λ key. test key ≡ true) shape deeds asks
