use Rattle.std.proofs.Common.{subst, sym}
use Rattle.jc_types.specs.Weights.{IsGreatest}
use Rattle.jc_types.proofs.pieces.PieceCopied.copy.Goals as goal

pub invariant_of-result : goal.invariant_of-result
invariant_of-result c = subst (IsGreatest c.self.inside.most) (sym c.in_ok-copy.ensures) c.self.invariant
