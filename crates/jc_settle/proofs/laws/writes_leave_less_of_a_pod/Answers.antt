-- The lemmas on what is left of a pod.
use Rattle.jc_settle.proofs.LeftFacts.{mark-lowers, node-lowers, release-lowers}
use Rattle.jc_settle.proofs.laws.writes_leave_less_of_a_pod.Goals as goal

pub returns : goal.returns
returns c = record { node = λ most fates log pod act comes befalls. node-lowers most fates log pod comes act befalls; mark = mark-lowers; release = release-lowers }
