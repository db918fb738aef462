-- The lemmas on deeds.
use Rattle.jc_log.proofs.DeedFacts.{deeds-more, deeds-upto, length-deeds}
use Rattle.jc_log.proofs.laws.deeds_grow.Goals as goal

pub returns : goal.returns
returns c = record { more = deeds-more; prefix = deeds-upto; count = length-deeds }
