use Rattle.std.proofs.Common.{subst, sym, ◌∙◌}
use Rattle.jc_types.specs.Weights.{IsGreatest}
use Rattle.jc_types.proofs.pieces.Piece.of_vec.Goals as goal

pub invariant_of-result : goal.invariant_of-result
invariant_of-result c = subst (IsGreatest c.greatest-most.result) (c.as_slice.ensures.value ∙ sym c.in_ok-counts.ensures) c.greatest-most.ensures
