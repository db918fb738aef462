-- A log and its marks, as contracts see them.
use Rattle.std.specs.Prelude.{List}
use Rattle.atomic_table.specs.Seated.{TableId}
use Rattle.jc_types.specs.declared.runs.Past.{Past}

-- Which log it is, and what it has seen.
pub record LogView : Type 0 where
  pub name : TableId
  pub seen : List Past

-- The log that the mark was cut from, and what that had seen then.
pub record MarkView : Type 0 where
  pub name : TableId
  pub seen : List Past
