use Rattle.std.proofs.Common.{ap, arith, set, ◌∙◌}
use Rattle.jc_core.specs.RegisterChanges.{changed_slot}
use Rattle.jc_core.proofs.PlaceFacts.{changed-nowhere, changed-there}
use Rattle.jc_core.proofs.changes.change_at.Goals as goal

pub returns-then-place-len : goal.returns-then-place-len
returns-then-place-len c =
    let old = c.args.slots.now.items in
    let place = c.place_of-place.result in
    let test = c.if-place-len.true in
    let count = c.len.ensures in
    ap (set old place) (c.changed_slot.ensures ∙ ap (changed_slot c.args.change) c.index.ensures)
    ∙ changed-there c.args.shape.now old c.requires.whole c.args.change c.args.controller c.args.worker c.requires.of place c.index.result.now c.place_of-place.ensures (omega (arith, test, count))

pub returns-else-place-len : goal.returns-else-place-len
returns-else-place-len c =
    let test = c.if-place-len.false in
    let count = c.len.ensures in
    changed-nowhere c.args.shape.now c.args.slots.now.items c.requires.whole c.args.change c.args.controller c.args.worker c.requires.of c.place_of-place.result c.place_of-place.ensures (omega (arith, test, count))
