use Rattle.std.proofs.Common.{◌≡◌, ◌+◌, ◌-◌, ◌<◌, ◌/◌, arith, subst}
use Rattle.jc_states.specs.Held.{place_for}
use Rattle.jc_states.proofs.RunFacts.{places-climb, places-end, places-full}
use Rattle.jc_states.proofs.held.end_of_run.Goals as goal

pub overflow_sub-grown : goal.overflow_sub-grown
overflow_sub-grown c =
    let rise = places-climb c.args.indexes.now.items c.requires.ascending c.requires.once c.args.from (c.halving.low + (c.halving.high - c.halving.low) / 2 + 1) (omega (arith, c.halving.invariant.0)) in
    omega (arith, rise, c.place_for-place.ensures, c.place_for.ensures)

-- Up to the lower bound the places grow as the indexes do.
pub returns-clause-held : goal.returns-clause-held
returns-clause-held c n low high =
    places-full c.args.indexes.now.items c.requires.ascending c.requires.once c.args.from c.halving.low n c.halving.invariant.0 c.halving.invariant.3 low high

-- Both bounds are one.
pub returns-clause-free : goal.returns-clause-free
returns-clause-free c below =
    let same : c.halving.high ≡ c.halving.low = omega (arith, c.halving.invariant.1, c.halving-test.false) in
    places-end c.args.indexes.now.items c.requires.ascending c.requires.once c.args.from c.halving.low c.halving.invariant.0 c.halving.invariant.3
    (subst (λ k. k < c.args.end → place_for (k + 1) c.args.indexes.now.items ≡ place_for c.args.from c.args.indexes.now.items + (k + 1 - c.args.from) → ⊥) same c.halving.invariant.4 below)
