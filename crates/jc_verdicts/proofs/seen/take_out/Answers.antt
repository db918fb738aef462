use Rattle.std.proofs.Common.{ap, arith, length, sym, ◌∙◌}
use Rattle.jc_states.specs.PodLists.{place_from}
use Rattle.jc_states.proofs.PodListFacts.{drop-absent}
use Rattle.jc_states.proofs.PodPlaceFacts.{none-shown, removed-shown, within-shown}
use Rattle.jc_verdicts.proofs.seen.take_out.Goals as goal

-- The place of the pod is within the pods.
pub remove-requires : goal.remove-requires
remove-requires c =
    let within =
    within-shown c.args.uid c.args.pods.now.items c.as_slice-2.result.now c.place_from-place.result c.as_slice-2.ensures.value
    (c.place_from-place.ensures ∙ ap (place_from c.args.uid) (c.as_slice.ensures.value ∙ sym c.as_slice-2.ensures.value)) c.is_there.result c.is_there.ensures c.if-is_there.true in
    omega (arith, within, ap length c.as_slice.ensures.value, c.as_slice.ensures.len)

-- It is taken out.
pub returns-then-is_there : goal.returns-then-is_there
returns-then-is_there c =
    removed-shown c.args.uid c.args.pods.now.items c.as_slice-2.result.now c.place_from-place.result c.as_slice-2.ensures.value
    (c.place_from-place.ensures ∙ ap (place_from c.args.uid) (c.as_slice.ensures.value ∙ sym c.as_slice-2.ensures.value)) c.is_there.result c.is_there.ensures c.if-is_there.true c.remove.new.self.items c.requires c.remove.ensures.items

-- There is none.
pub returns-else-is_there : goal.returns-else-is_there
returns-else-is_there c =
    sym
    (drop-absent c.args.uid c.args.pods.now.items
    (none-shown c.args.uid c.args.pods.now.items c.as_slice-2.result.now c.place_from-place.result c.as_slice-2.ensures.value
    (c.place_from-place.ensures ∙ ap (place_from c.args.uid) (c.as_slice.ensures.value ∙ sym c.as_slice-2.ensures.value)) c.is_there.result c.is_there.ensures c.if-is_there.false))
