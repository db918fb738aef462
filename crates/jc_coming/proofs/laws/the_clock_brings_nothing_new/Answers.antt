-- The lemmas on the clock.
use Rattle.jc_coming.proofs.ClockFacts.{moments-fall, statuses-fall}
use Rattle.jc_coming.proofs.KeyTurns.{due-fall, keys-stay}
use Rattle.jc_coming.proofs.laws.the_clock_brings_nothing_new.Goals as goal

pub returns : goal.returns
returns c = record {
  statuses = λ now later log. statuses-fall now later log;
  moments = λ now later log notes. moments-fall now later log notes;
  keys = λ now later log notes it. keys-stay now later log notes it.on it.same it.idle;
  due = λ now later log notes due it least come. due-fall now later log notes it.on it.same it.idle due least come;
}
