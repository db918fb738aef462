-- A count that is written at its place is what `raise` says.
use Rattle.std.proofs.Common.{◌≡◌, List, [], ◌∷◌, ◌++◌, sym, subst, ap, refl, ◌∙◌}
use Rattle.std.specs.Prelude.{OnOk}
use Rattle.std.specs.List.{insert}
use Rattle.std.proofs.Math.ListN.{set}
use Rattle.jc_types.specs.declared.statuses.IndexCount.{IndexCount}
use Rattle.jc_perindex.proofs.Placed.{raise_before, raise_last, raise_there}
use Rattle.jc_perindex.proofs.counts.raise.Goals as goal

pub returns-then-found-index : goal.returns-then-found-index
returns-then-found-index c =
    let counts = c.args.counts.now in
    let there = c.in-Some.found.count in
    let place = c.in-Some.found.place in
    subst (λ (cs : List IndexCount). OnOk c.set.result (c.set.new.self ≡ cs))
    (ap (set counts place) c.with_failure.ensures
    ∙ sym (raise_there c.args.index c.args.fail there counts place c.in-Some.ensures.place c.in-Some.ensures.within c.in-Some.ensures.count c.if-found-index.true))
    c.set.ensures.written

pub returns-in-None : goal.returns-in-None
returns-in-None c =
    let counts = c.args.counts.now in
    subst (λ (cs : List IndexCount). OnOk c.push.result (c.push.new.self ≡ cs))
    (ap (λ (count : IndexCount). counts ++ count ∷ []) c.one_failure.ensures
    ∙ sym (raise_last c.args.index c.args.fail counts (c.in-None.ensures.past refl)))
    c.push.ensures.added

pub returns-else-found-index : goal.returns-else-found-index
returns-else-found-index c =
    let counts = c.args.counts.now in
    let there = c.in-Some.found.count in
    let place = c.in-Some.found.place in
    subst (λ (cs : List IndexCount). OnOk c.insert.result (c.insert.new.self ≡ cs))
    (ap (insert counts place) c.one_failure-in-Some.ensures
    ∙ sym (raise_before c.args.index c.args.fail there counts place c.in-Some.ensures.place c.in-Some.ensures.count c.if-found-index.false))
    c.insert.ensures.added
