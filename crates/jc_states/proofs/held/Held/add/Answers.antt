use Rattle.std.proofs.Common.{ap, arith, cond, rules, ◌∙◌, ◌==◌, ◌≡◌, ◌+◌}
use Rattle.jc_states.specs.Held.{times}
use Rattle.jc_states.proofs.HeldFacts.{added-ascends, added-repeats, one-more, place-within, repeats-few, times-insert}
use Rattle.jc_states.proofs.held.Held.add.Goals as goal

pub insert-requires : goal.insert-requires
insert-requires c =
    let within = place-within c.args.n c.self.inside.indexes.items in
    omega (arith, within, c.self.inside.indexes.ok, c.place_for-place.ensures)

pub overflow_add-self : goal.overflow_add-self
overflow_add-self c =
    let few = repeats-few c.self.inside.indexes.items in
    let is = c.self.invariant.1 in
    let one : c.from.result ≡ cond c.is_there-again.result 1 0 = search rules in
    let most = one-more c.from.result c.is_there-again.result one in
    omega (arith, few, is, c.self.inside.indexes.ok, most)

pub invariant_of-self-2 : goal.invariant_of-self-2
invariant_of-self-2 c =
    let one : c.from.result ≡ cond c.is_there-again.result 1 0 = search rules in (
      added-ascends c.args.n c.self.inside.indexes.items c.insert.new.self.items c.place_for-place.result c.self.invariant.0 c.place_for-place.ensures c.in_ok-insert.ensures.items,
      added-repeats c.args.n c.self.inside.indexes.items c.insert.new.self.items c.place_for-place.result c.self.inside.repeated c.from.result c.is_there-again.result c.self.invariant.1 c.is_there-again.ensures one c.in_ok-insert.ensures.items,
    )

pub returns-clause-adds : goal.returns-clause-adds
returns-clause-adds c m =
    ap (times m) c.in_ok-insert.ensures.items ∙ times-insert m c.self.inside.indexes.items c.place_for-place.result c.args.n
    ∙ ap (λ items. times m items + cond (c.args.n == m) 1 0) c.self.view_is
