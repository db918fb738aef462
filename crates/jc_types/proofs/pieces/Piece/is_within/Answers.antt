use Rattle.std.proofs.Common.{◌≤◌, subst, sym, arith}
use Rattle.std.proofs.lemmas.Bool.{le-leb, leb-true}
use Rattle.jc_types.specs.Weights.{IsGreatest}
use Rattle.jc_types.proofs.WeightFacts.{within-greatest}
use Rattle.jc_types.proofs.pieces.Piece.is_within.Goals as goal

pub returns : goal.returns
returns c =
    let most = c.self.inside.most in
    let both = within-greatest c.args.limit most c.args.self.now (omega (arith, c.ranges.limit.fits)) (subst (IsGreatest most) c.self.view_is c.self.invariant) in (
      λ low. both.0 (subst (λ n. most ≤ n) c.from.ensures (leb-true most c.from.result low)),
      λ all. le-leb most c.from.result (subst (λ n. most ≤ n) (sym c.from.ensures) (both.1 all)),
    )
