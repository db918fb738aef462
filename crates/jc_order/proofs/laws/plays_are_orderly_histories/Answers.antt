-- The lemmas on the whole play.
use Rattle.jc_order.proofs.PlayFacts.{play-is, play-orderly, play-log, play-full, play-used}
use Rattle.jc_order.proofs.laws.plays_are_orderly_histories.Goals as goal

pub returns : goal.returns
returns c = record { history = play-is; orderly = play-orderly; log = play-log; full = play-full; used = play-used }
