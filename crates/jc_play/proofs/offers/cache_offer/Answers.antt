use Rattle.std.proofs.Common.{ap, arith}
use Rattle.jc_types.specs.declared.runs.Shape.{Shape}
use Rattle.jc_play.proofs.ActorFacts.{cache-only}
use Rattle.jc_play.proofs.offers.cache_offer.Goals as goal

pub returns : goal.returns
returns c =
    let same = ap (λ (s : Shape). s.controllers) c.shape.ensures in
    let test = c.if-controller-shape.false in
    cache-only c.args.machine.now c.args.controller c.args.kind (omega (arith, same, test)) _ _ _ c.list_of-list.ensures c.delivery_of-delivery.ensures c.first_of.ensures
