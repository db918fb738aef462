use Rattle.std.proofs.Common.{ap}
use Rattle.jc_history.specs.Play.{nothing, whole_play, rest_played}
use Rattle.jc_history.proofs.laws.nothing_is_played.Goals as goal

pub returns : goal.returns
unfolding whole_play
returns c = λ script shape e. ap (λ commands. rest_played script shape 0 commands nothing) e
