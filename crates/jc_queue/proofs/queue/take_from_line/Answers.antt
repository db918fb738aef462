use Rattle.std.proofs.Common.{◌≡◌, subst, sym, ◌∙◌}
use Rattle.std.specs.List.{remove}
use Rattle.std.specs.Prelude.{OnSome}
use Rattle.jc_types.specs.Keys.{same_key}
use Rattle.jc_queue.proofs.BackFacts.{without-unplaced}
use Rattle.jc_queue.proofs.Steps.{remove-found}
use Rattle.jc_queue.proofs.queue.take_from_line.Goals as goal

-- A key that has no place is not in line.
pub returns-in_default-clause-items : goal.returns-in_default-clause-items
returns-in_default-clause-items c =
    without-unplaced c.args.key.now c.args.line.now.items (sym c.in_default.is ∙ c.place_in_line.ensures.place)

-- The key at the place is taken out.
pub returns-clause-items : goal.returns-clause-items
returns-clause-items c =
    subst (λ r. OnSome r (c.remove.new.self.items ≡ remove c.args.line.now.items c.in-Some.place)) (c.remove.ensures.succeeds c.args.key.now c.in-Some.ensures.within) c.remove.ensures.items
    ∙ remove-found (same_key c.args.key.now) c.args.line.now.items c.in-Some.place c.in-Some.ensures.place
