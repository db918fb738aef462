use Rattle.std.proofs.Common.{◌∙◌, ◌||◌, eqb, ap, sym, subst, arith, length}
use Rattle.std.specs.List.{flat_map}
use Rattle.jc_ranges.specs.Sets.{IsSet, has}
use Rattle.jc_ranges.specs.Texts.{numbers}
use Rattle.jc_ranges.proofs.Order.{length_small, has-with_member}
use Rattle.jc_ranges.proofs.Apart.{apart_set}
use Rattle.jc_ranges.proofs.Puts.{member_kept, length-with_member}
use Rattle.jc_ranges.proofs.set.Ranges.insert.Goals as goal

pub returns-then-is_at-clause-members : goal.returns-then-is_at-clause-members
returns-then-is_at-clause-members c =
    let set = subst IsSet c.self.view_is (apart_set c.self.inside.runs c.self.invariant.apart) in
    member_kept c.args.n c.args.self.now set.increasing
    (ap (has c.args.n) (sym c.self.view_is) ∙ ap (λ z. has c.args.n (flat_map numbers z)) (sym c.as_slice-2.ensures) ∙ sym c.if-is_at.ensures)

pub overflow_add-self : goal.overflow_add-self
overflow_add-self c =
    let few = length_small (flat_map numbers c.self.inside.runs) (apart_set c.self.inside.runs c.self.invariant.apart) in
    omega (arith, few, c.self.invariant.counted)

pub invariant_of-self-2 : goal.invariant_of-self-2
invariant_of-self-2 c =
    let absent = ap (λ z. has c.args.n (flat_map numbers z)) (sym c.as_slice-2.ensures) ∙ sym c.if-is_at.ensures in
    let more = length-with_member c.args.n (flat_map numbers c.self.inside.runs) absent in
    let same = ap length c.in_ok-put.ensures.numbers in
    record { apart = c.in_ok-put.ensures.apart; counted = omega (arith, more, same, c.self.invariant.counted) }

pub returns-clause-holds : goal.returns-clause-holds
returns-clause-holds c = λ m.
    ap (has m) c.in_ok-put.ensures.numbers ∙ has-with_member m c.args.n (flat_map numbers c.self.inside.runs) ∙ ap (λ z. eqb m c.args.n || has m z) c.self.view_is
