use Rattle.std.proofs.Common.{[]}
use Rattle.jc_reap.proofs.LongerPlays.{front-both, whole-is}
use Rattle.jc_reap.proofs.laws.longer_scripts_play_on.Goals as goal

pub returns-clause-whole : goal.returns-clause-whole
returns-clause-whole c = λ front more shape. whole-is front more shape

pub returns-clause-deeds : goal.returns-clause-deeds
returns-clause-deeds c = λ front more shape. (front-both front more shape).still.deeds

pub returns-clause-fresh : goal.returns-clause-fresh
returns-clause-fresh c = λ front shape n above. (front-both front [] shape).still.fresh n above
