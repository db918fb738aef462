use Rattle.std.proofs.Common.{rules, ap, arith, cond, subst, sym, ◌∙◌, ◌==◌, ◌≡◌, ◌-◌}
use Rattle.jc_states.specs.Held.{IsAscending, times}
use Rattle.jc_states.proofs.HeldFacts.{ascends-remove, found-shown, removed-place, removed-repeats, taken-out, times-remove}
use Rattle.jc_states.proofs.held.Held.remove.Goals as goal

pub is_there-still-requires-clause-ascending : goal.is_there-still-requires-clause-ascending
is_there-still-requires-clause-ascending c =
    let found = found-shown c.args.n c.self.inside.indexes.items c.place_for-place.result c.is_there.result c.self.invariant.0 c.place_for-place.ensures c.is_there.ensures c.if-not-is_there.false in
    let gone = taken-out c.self.inside.indexes.items c.remove.new.self.items c.place_for-place.result c.remove.result (c.remove.ensures.succeeds 0 (omega (arith, found.0, c.self.inside.indexes.ok))) c.remove.ensures.items in
    subst IsAscending (sym gone) (ascends-remove 0 c.self.inside.indexes.items c.place_for-place.result c.self.invariant.0)

pub is_there-still-requires-clause-place : goal.is_there-still-requires-clause-place
is_there-still-requires-clause-place c =
    let found = found-shown c.args.n c.self.inside.indexes.items c.place_for-place.result c.is_there.result c.self.invariant.0 c.place_for-place.ensures c.is_there.ensures c.if-not-is_there.false in
    let gone = taken-out c.self.inside.indexes.items c.remove.new.self.items c.place_for-place.result c.remove.result (c.remove.ensures.succeeds 0 (omega (arith, found.0, c.self.inside.indexes.ok))) c.remove.ensures.items in
    removed-place c.args.n c.self.inside.indexes.items c.remove.new.self.items c.place_for-place.result c.self.invariant.0 c.place_for-place.ensures gone

pub overflow_sub-self : goal.overflow_sub-self
overflow_sub-self c =
    let found = found-shown c.args.n c.self.inside.indexes.items c.place_for-place.result c.is_there.result c.self.invariant.0 c.place_for-place.ensures c.is_there.ensures c.if-not-is_there.false in
    let gone = taken-out c.self.inside.indexes.items c.remove.new.self.items c.place_for-place.result c.remove.result (c.remove.ensures.succeeds 0 (omega (arith, found.0, c.self.inside.indexes.ok))) c.remove.ensures.items in
    let one : c.from.result ≡ cond c.is_there-still.result 1 0 = search rules in
    let all = removed-repeats c.args.n c.self.inside.indexes.items c.remove.new.self.items c.place_for-place.result c.self.inside.repeated c.from.result c.is_there-still.result found c.self.invariant.1 gone c.is_there-still.ensures one in
    omega (arith, all)

pub invariant_of-self : goal.invariant_of-self
invariant_of-self c =
    let found = found-shown c.args.n c.self.inside.indexes.items c.place_for-place.result c.is_there.result c.self.invariant.0 c.place_for-place.ensures c.is_there.ensures c.if-not-is_there.false in
    let gone = taken-out c.self.inside.indexes.items c.remove.new.self.items c.place_for-place.result c.remove.result (c.remove.ensures.succeeds 0 (omega (arith, found.0, c.self.inside.indexes.ok))) c.remove.ensures.items in
    let one : c.from.result ≡ cond c.is_there-still.result 1 0 = search rules in
    let all = removed-repeats c.args.n c.self.inside.indexes.items c.remove.new.self.items c.place_for-place.result c.self.inside.repeated c.from.result c.is_there-still.result found c.self.invariant.1 gone c.is_there-still.ensures one in
    (subst IsAscending (sym gone) (ascends-remove 0 c.self.inside.indexes.items c.place_for-place.result c.self.invariant.0), omega (arith, all))

pub returns : goal.returns
returns c m =
    let found = found-shown c.args.n c.self.inside.indexes.items c.place_for-place.result c.is_there.result c.self.invariant.0 c.place_for-place.ensures c.is_there.ensures c.if-not-is_there.false in
    let gone = taken-out c.self.inside.indexes.items c.remove.new.self.items c.place_for-place.result c.remove.result (c.remove.ensures.succeeds 0 (omega (arith, found.0, c.self.inside.indexes.ok))) c.remove.ensures.items in
    ap (times m) gone ∙ times-remove m c.self.inside.indexes.items c.place_for-place.result c.args.n found.0 found.1
    ∙ ap (λ items. times m items - cond (c.args.n == m) 1 0) c.self.view_is
