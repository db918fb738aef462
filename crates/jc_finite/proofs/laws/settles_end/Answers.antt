-- The lemmas on the end of a settle.
use Rattle.jc_finite.proofs.EndFacts.{settle-ends, settle-stops}
use Rattle.jc_finite.proofs.LastFacts.{success-enough}
use Rattle.jc_finite.proofs.StartFacts.{ends-stop, kept-stop}
use Rattle.jc_finite.proofs.SuccessFacts.{always-enough, late-out}
use Rattle.jc_finite.proofs.laws.settles_end.Goals as goal

pub returns : goal.returns
returns c = record {
  rests = λ shape past legal valid some start ends. settle-ends c.allowed_updates_stay_valid.ensures shape past legal valid some start ends;
  stops = λ shape past legal valid some start stops. settle-stops c.allowed_updates_stay_valid.ensures shape past legal valid some start stops;
  late = late-out;
  succeeding = success-enough;
  always = always-enough;
  weaker = ends-stop;
  kept = kept-stop;
}
