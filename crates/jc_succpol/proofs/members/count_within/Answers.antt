-- The member at this place, and those behind it.
use Rattle.std.proofs.Common.{◌<◌, ◌+◌, Bool, cond, drop, length, sym, ap, ◌∙◌, arith}
use Rattle.std.specs.List.{count_by}
use Rattle.jc_ranges.specs.Sets.{has}
use Rattle.jc_succpol.proofs.MemberFacts.{count_from}
use Rattle.jc_succpol.proofs.members.count_within.Goals as goal
use Rattle.jc_succpol.proofs.members.count_within.Goals.{then-is_shared, else-is_shared}

pub loop-place-preserved : goal.loop-place-preserved
loop-place-preserved c =
    let within : c.loop-place.place < length c.args.completed.now = omega (arith, c.len-place-end.ensures.count) in
    let from = count_from (λ n. has n c.args.indexes.now) c.args.completed.now c.loop-place.place within in
    let one = λ (b : Bool). cond b 1 0 + count_by (λ n. has n c.args.indexes.now) (drop (c.loop-place.place + 1) c.args.completed.now) in
    elim c.if-is_shared.branch [
      | then-is_shared w ↦
          let counts = from ∙ ap one (sym c.is_shared.ensures ∙ w.if-is_shared.true) in
          record { counted = omega (arith, counts); few = omega arith }
      | else-is_shared w ↦
          let counts = from ∙ ap one (sym c.is_shared.ensures ∙ w.if-is_shared.false) in
          record { counted = omega (arith, counts); few = omega arith }
    ]
