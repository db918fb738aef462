use Rattle.std.proofs.Common.{ap, arith, length, set, sym, ◌∙◌}
use Rattle.jc_verdicts.proofs.VerdictPods.{put-fits, put-new, put-none, put-over, put-rises, put-stays, put-within}
use Rattle.jc_verdicts.proofs.seen.put.Goals as goal

-- The place of the pod of the UID is within the pods.
pub index_mut-requires : goal.index_mut-requires
index_mut-requires c =
    let within =
    put-within c.args.known.now.entries c.args.pods.now.items c.as_slice.result.now c.as_slice-2.result.now
    c.args.pod.now c.deref.result.now c.deref-2.result.now c.place_from-place.result c.requires
    c.as_slice.ensures.value c.as_slice-2.ensures.value c.deref.ensures c.deref-2.ensures
    c.place_from-place.ensures c.is_there.result c.is_there.ensures c.if-is_there.true in
    omega (arith, within, ap length c.as_slice.ensures.value, c.as_slice.ensures.len)

-- The pod is written over it.
pub returns-then-is_there-clause-rising : goal.returns-then-is_there-clause-rising
returns-then-is_there-clause-rising c =
    put-rises c.args.known.now.entries c.args.pods.now.items c.as_slice.result.now c.as_slice-2.result.now
    c.args.pod.now c.deref.result.now c.deref-2.result.now c.place_from-place.result c.requires
    c.as_slice.ensures.value c.as_slice-2.ensures.value c.deref.ensures c.deref-2.ensures
    c.place_from-place.ensures c.is_there.result c.is_there.ensures
    (set c.args.pods.now.items c.place_from-place.result c.in_ok-again.again)
    (put-over c.args.known.now.entries c.args.pods.now.items c.as_slice.result.now c.as_slice-2.result.now
    c.args.pod.now c.deref.result.now c.deref-2.result.now c.place_from-place.result c.requires
    c.as_slice.ensures.value c.as_slice-2.ensures.value c.deref.ensures c.deref-2.ensures
    c.place_from-place.ensures c.is_there.result c.is_there.ensures c.in_ok-again.again c.in_ok-again.ensures c.if-is_there.true)

pub returns-then-is_there-clause-puts : goal.returns-then-is_there-clause-puts
returns-then-is_there-clause-puts c =
    put-stays c.args.known.now.entries c.args.pods.now.items c.as_slice.result.now c.as_slice-2.result.now
    c.args.pod.now c.deref.result.now c.deref-2.result.now c.place_from-place.result c.requires
    c.as_slice.ensures.value c.as_slice-2.ensures.value c.deref.ensures c.deref-2.ensures
    c.place_from-place.ensures c.is_there.result c.is_there.ensures
    (set c.args.pods.now.items c.place_from-place.result c.in_ok-again.again)
    (put-over c.args.known.now.entries c.args.pods.now.items c.as_slice.result.now c.as_slice-2.result.now
    c.args.pod.now c.deref.result.now c.deref-2.result.now c.place_from-place.result c.requires
    c.as_slice.ensures.value c.as_slice-2.ensures.value c.deref.ensures c.deref-2.ensures
    c.place_from-place.ensures c.is_there.result c.is_there.ensures c.in_ok-again.again c.in_ok-again.ensures c.if-is_there.true)

-- A place is found within the pods, or at their end.
pub insert-requires : goal.insert-requires
insert-requires c =
    let fits =
    put-fits c.args.known.now.entries c.args.pods.now.items c.as_slice.result.now c.as_slice-2.result.now c.args.pod.now
    c.deref.result.now c.deref-2.result.now c.place_from-place.result c.requires
    c.as_slice.ensures.value c.as_slice-2.ensures.value c.deref.ensures c.deref-2.ensures
    c.place_from-place.ensures c.is_there.result c.is_there.ensures in
    omega (arith, fits, ap length c.as_slice.ensures.value, c.as_slice.ensures.len)

-- The pod is put there.
pub returns-in_ok-insert-clause-rising : goal.returns-in_ok-insert-clause-rising
returns-in_ok-insert-clause-rising c =
    put-rises c.args.known.now.entries c.args.pods.now.items c.as_slice.result.now c.as_slice-2.result.now
    c.args.pod.now c.deref.result.now c.deref-2.result.now c.place_from-place.result c.requires
    c.as_slice.ensures.value c.as_slice-2.ensures.value c.deref.ensures c.deref-2.ensures
    c.place_from-place.ensures c.is_there.result c.is_there.ensures
    c.insert.new.self.items
    (put-new c.args.known.now.entries c.args.pods.now.items c.as_slice.result.now c.as_slice-2.result.now c.args.pod.now
    c.deref.result.now c.deref-2.result.now c.place_from-place.result c.requires
    c.as_slice.ensures.value c.as_slice-2.ensures.value c.deref.ensures c.deref-2.ensures
    c.place_from-place.ensures c.is_there.result c.is_there.ensures c.in_ok-added.added c.in_ok-added.ensures c.if-is_there.false c.insert.new.self.items
    c.in_ok-insert.ensures.items)

pub returns-in_ok-insert-clause-puts : goal.returns-in_ok-insert-clause-puts
returns-in_ok-insert-clause-puts c =
    put-stays c.args.known.now.entries c.args.pods.now.items c.as_slice.result.now c.as_slice-2.result.now
    c.args.pod.now c.deref.result.now c.deref-2.result.now c.place_from-place.result c.requires
    c.as_slice.ensures.value c.as_slice-2.ensures.value c.deref.ensures c.deref-2.ensures
    c.place_from-place.ensures c.is_there.result c.is_there.ensures
    c.insert.new.self.items
    (put-new c.args.known.now.entries c.args.pods.now.items c.as_slice.result.now c.as_slice-2.result.now c.args.pod.now
    c.deref.result.now c.deref-2.result.now c.place_from-place.result c.requires
    c.as_slice.ensures.value c.as_slice-2.ensures.value c.deref.ensures c.deref-2.ensures
    c.place_from-place.ensures c.is_there.result c.is_there.ensures c.in_ok-added.added c.in_ok-added.ensures c.if-is_there.false c.insert.new.self.items
    c.in_ok-insert.ensures.items)

-- It is not there, and does not stay.
pub returns-else-stays-clause-puts : goal.returns-else-stays-clause-puts
returns-else-stays-clause-puts c =
    put-none c.args.known.now.entries c.args.pods.now.items c.as_slice.result.now c.as_slice-2.result.now c.args.pod.now
    c.deref.result.now c.deref-2.result.now c.place_from-place.result c.requires
    c.as_slice.ensures.value c.as_slice-2.ensures.value c.deref.ensures c.deref-2.ensures
    c.place_from-place.ensures c.is_there.result c.is_there.ensures
    c.deref-3.result.now c.deref-3.ensures c.if-is_there.false (sym c.stays.ensures ∙ c.if-stays.false)
