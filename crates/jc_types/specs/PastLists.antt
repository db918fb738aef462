-- Events that have happened, with the room that is left for more.
--     PastList          the events in their order, and how many more can be added without memory
use Rattle.std.specs.Prelude.{ℕ, List}
use Rattle.jc_types.specs.declared.runs.Past.{Past}

-- The events in their order, and how many more can be added without memory.
pub record PastList : Type 0 where
  pub items : List Past
  pub room : ℕ
