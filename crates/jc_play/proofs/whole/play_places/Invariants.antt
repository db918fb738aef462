use Rattle.jc_play.proofs.WholeFacts.{IsPlaying}
use Rattle.jc_play.proofs.whole.play_places.Given as goal

-- The places below this one were played.
abbrev pub invariant-loop-place : goal.invariant-loop-place
invariant-loop-place l = IsPlaying l.initial.machine l.machine l.place
