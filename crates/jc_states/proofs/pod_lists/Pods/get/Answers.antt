use Rattle.std.proofs.Common.{ap, arith, get_or, length, sym, ◌∙◌}
use Rattle.jc_states.proofs.PodListFacts.{pod_among}
use Rattle.jc_states.proofs.PodPlaceFacts.{found-shown, within-shown}
use Rattle.jc_states.proofs.pod_lists.Pods.get.Goals as goal

pub offset_bounds-pods-place : goal.offset_bounds-pods-place
offset_bounds-pods-place c =
    let within =
    within-shown c.args.uid c.self.inside.pods.items c.as_slice-pods.result.now c.place_from-place.result c.as_slice-pods.ensures.value c.place_from-place.ensures c.is_there.result c.is_there.ensures c.if-not-is_there.false in
    omega (arith, within, ap length c.as_slice-pods.ensures.value, c.as_slice-pods.ensures.len, c.self.inside.pods.ok)

pub bounds-pods-place : goal.bounds-pods-place
bounds-pods-place c =
    let within =
    within-shown c.args.uid c.self.inside.pods.items c.as_slice-pods.result.now c.place_from-place.result c.as_slice-pods.ensures.value c.place_from-place.ensures c.is_there.result c.is_there.ensures c.if-not-is_there.false in
    omega (arith, within, ap length c.as_slice-pods.ensures.value)

pub returns : goal.returns
returns c =
    sym
    (ap (pod_among c.args.uid) (sym c.self.view_is)
    ∙ found-shown c.args.uid c.self.inside.pods.items c.as_slice-pods.result.now c.place_from-place.result c.as_slice-pods.ensures.value c.place_from-place.ensures c.is_there.result c.is_there.ensures
    c.if-not-is_there.false c.index-pods-place.result c.self.invariant.tallies.rising
    (c.index-pods-place.is ∙ ap (λ all. get_or all c.place_from-place.result c.index-pods-place.result) c.as_slice-pods.ensures.value))
