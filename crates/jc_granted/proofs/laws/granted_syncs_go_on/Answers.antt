-- The lemmas on what a step leaves of its register.
use Rattle.jc_granted.proofs.StepGrants.{end-frees, grant-keeps}
use Rattle.jc_granted.proofs.laws.granted_syncs_go_on.Goals as goal

pub returns : goal.returns
returns c = record {
  on = λ shape past d k w basis legal act begun it. grant-keeps shape past d legal k w basis act begun it.asked it.given it.reply_is it.granted;
  ends = λ shape past d k w basis legal act begun. end-frees shape past d legal k w basis act begun;
}
