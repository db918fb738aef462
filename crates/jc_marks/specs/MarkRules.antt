-- The rule of a log and its marks, and what each step on its table tells.
--     KeepsLog views          the rule: one view is the log's, and each other has seen a beginning
--                             of what that has seen
--     log_view, mark_of       the view of the log; a mark of what it has seen
--     now_grown, now_compared         what a step tells
use Rattle.std.specs.Prelude.{◌≡◌, ◌≢◌, ℕ, true, false, List, []}
use mathlib.Core.Option.{some}
use mathlib.Core.List.{IsPrefix}
use lib.ListN.{get_elem?}
use Rattle.atomic_table.specs.Table.{Me, Step}
use Rattle.jc_types.specs.declared.runs.Past.{Past}
use Rattle.jc_marks.specs.declared.board.LogPlaceView.{LogPlaceView}

-- The view is a mark's, and has seen a beginning of this list.
pub record IsMarkOf (list : List Past) (v : LogPlaceView) : Type 0 where
  pub mark : v.is_log ≡ false
  pub seen : IsPrefix v.seen list

-- Exactly one view is the log's. What it has met is a beginning of what it has seen, and each other
-- is behind that.
pub record KeepsLog (views : List LogPlaceView) : Type 0 where
  pub log : ℕ
  pub view : LogPlaceView
  pub there : get_elem? views log ≡ some view
  pub is_log : view.is_log ≡ true
  pub met : IsPrefix view.met view.seen
  pub marks : (j : ℕ) (v : LogPlaceView) → j ≢ log → get_elem? views j ≡ some v → IsMarkOf view.seen v

-- The view of a log that has seen this list.
abbrev pub log_view : List Past → LogPlaceView
log_view list = record { seen = list; met = []; is_log = true }

-- A mark of what the view has seen.
abbrev pub mark_of : LogPlaceView → LogPlaceView
mark_of v = record { seen = v.seen; met = []; is_log = false }

-- What a spent view is: a mark of nothing.
abbrev pub blank_mark : LogPlaceView
blank_mark = record { seen = []; met = []; is_log = false }

-- The first view has met what the second has seen.
abbrev pub met_views : LogPlaceView → LogPlaceView → LogPlaceView
met_views v w = record v { met = w.seen }

abbrev pub Mine : Type 0
Mine = Me (Unit {0}) LogPlaceView

-- The list is what was seen.
abbrev pub now_grown : List Past → Step (Unit {0}) → Mine → ℕ → Mine → Type 0
now_grown list st m found m' = m' ≡ (log_view list, m.1)

-- What was met was a beginning of what was seen.
abbrev pub now_compared : Step (Unit {0}) → Mine → ℕ → Mine → Type 0
now_compared st m found m' = (m' ≡ (log_view m.0.seen, m.1)) × IsPrefix m.0.met m.0.seen
