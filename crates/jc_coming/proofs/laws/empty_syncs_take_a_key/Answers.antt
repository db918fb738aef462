-- The lemmas on a sync that asks for nothing.
use Rattle.std.proofs.Common.{refl}
use Rattle.jc_coming.proofs.KeyTurns.{keys-fall}
use Rattle.jc_coming.proofs.laws.empty_syncs_take_a_key.Goals as goal

pub returns : goal.returns
returns c = record {
  moments = λ now w ended log notes basis. refl;
  keys = λ w ended log notes basis rest first current unneeded. keys-fall w ended log notes basis rest first current unneeded;
}
