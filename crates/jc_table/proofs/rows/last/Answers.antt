use Rattle.std.proofs.Common.{◌++◌, ◌∷◌, [], ap, sym, ◌∙◌}
use Rattle.std.specs.Slice.Iter.{iter_rest}
use Rattle.jc_table.specs.Pages.{present}
use Rattle.jc_table.proofs.PageFacts.{present-none, present-some}
use Rattle.jc_table.proofs.rows.last.Goals as goal

-- The last place has a value.
pub returns-in-Some : goal.returns-in-Some
returns-in-Some g c =
    sym c.loop-value.invariant
    ∙ ap present (c.in_ok-value.ensures.steps ∙ ap (λ place. iter_rest c.next_back.new.self ++ place ∷ []) c.in-Some.is)
    ∙ present-some (iter_rest c.next_back.new.self) c.in-Some.value

-- The last place has none.
pub loop-value-preserved : goal.loop-value-preserved
loop-value-preserved g c =
    sym (present-none (iter_rest c.next_back.new.self))
    ∙ ap present (sym (c.in_ok-value.ensures.steps ∙ ap (λ place. iter_rest c.next_back.new.self ++ place ∷ []) c.in_default.is))
    ∙ c.loop-value.invariant
