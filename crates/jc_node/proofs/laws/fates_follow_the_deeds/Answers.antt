-- Of each key the rows and the deeds say the same.
use Rattle.std.proofs.Common.{refl}
use Rattle.jc_node.proofs.LawFacts.{fates-decided, fates-left}
use Rattle.jc_node.proofs.laws.fates_follow_the_deeds.Goals as goal

pub returns : goal.returns
returns c = record { none = refl; decided = fates-decided; left = fates-left }
