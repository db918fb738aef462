-- The member at this place, and those behind it.
use Rattle.std.proofs.Common.{◌<◌, ◌+◌, ◌&&◌, drop, length, sym, ap, ◌∙◌, arith}
use Rattle.std.specs.List.{list_all}
use Rattle.jc_ranges.specs.Sets.{has}
use Rattle.jc_succpol.proofs.MemberFacts.{all_from}
use Rattle.jc_succpol.proofs.members.includes.Goals as goal

pub returns-then-not-is_shared : goal.returns-then-not-is_shared
returns-then-not-is_shared c =
    let within : c.loop-place.place < length c.args.indexes.now = omega (arith, c.len-place-end.ensures.count) in
    let from = all_from (λ n. has n c.args.completed.now) c.args.indexes.now c.loop-place.place within in
    let test = sym c.is_shared.ensures ∙ c.if-not-is_shared.true in
    sym (c.loop-place.invariant ∙ from ∙ ap (λ b. b && list_all (λ n. has n c.args.completed.now) (drop (c.loop-place.place + 1) c.args.indexes.now)) test)

pub loop-place-preserved : goal.loop-place-preserved
loop-place-preserved c =
    let within : c.loop-place.place < length c.args.indexes.now = omega (arith, c.len-place-end.ensures.count) in
    let from = all_from (λ n. has n c.args.completed.now) c.args.indexes.now c.loop-place.place within in
    let test = sym c.is_shared.ensures ∙ c.if-not-is_shared.false in
    c.loop-place.invariant ∙ from ∙ ap (λ b. b && list_all (λ n. has n c.args.completed.now) (drop (c.loop-place.place + 1) c.args.indexes.now)) test
