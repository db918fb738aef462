-- A history at rest: nothing of the system is left to do.
--     HasNothingToDo notes log workers   a controller has nothing to do
--     IsSystemAtRest shape past log      no controller has, nor the node
--     HasComeToRest shape deeds          the history is legal, has workers, and nothing is available at its end
use Rattle.std.specs.Prelude.{◌≡◌, ℕ, ◌<◌, List, [], None, true}
use Rattle.jc_types.specs.declared.objects.Entry.{Entry}
use Rattle.jc_types.specs.declared.objects.KeyNames.{KeyNames as Key}
use Rattle.jc_types.specs.declared.runs.Shape.{Shape}
use Rattle.jc_log.specs.Deeds.{Deed}
use Rattle.jc_history.specs.Available.{is_quiescent}
use Rattle.jc_history.specs.Delays.{delay}
use Rattle.jc_history.specs.Diaries.{notes}
use Rattle.jc_history.specs.Legal.{IsLegal}
use Rattle.jc_history.specs.Lines.{line as line_of}
use Rattle.jc_history.specs.Nodes.{fate, node_step}
use Rattle.jc_history.specs.Notes.{Note}
use Rattle.jc_history.specs.Registers.{register}
use Rattle.jc_history.specs.Replies.{log_given}
use Rattle.jc_order.specs.Ends.{IsUpToDate}

-- Both caches have seen the whole log, no sync is under way, no key is in line and none is delayed.
pub record HasNothingToDo (notes : List Note) (log : List Entry) (workers : ℕ) : Type 0 where
  pub caches : IsUpToDate notes log
  pub registers : (w : ℕ) → w < workers → register w notes ≡ None
  pub line : line_of notes ≡ []
  pub delays : (k : Key) → delay k notes ≡ None

-- So it is with each controller, and the node has nothing to do.
pub record IsSystemAtRest (shape : Shape) (past : List Deed) (log : List Entry) : Type 0 where
  pub each : (c : ℕ) → c < shape.controllers
      → HasNothingToDo (notes shape c past log) log shape.workers
  pub node : node_step log (fate past) ≡ None

-- The history is legal and has workers, and nothing is available at its end.
pub record HasComeToRest (shape : Shape) (deeds : List Deed) : Type 0 where
  pub legal : IsLegal shape deeds
  pub working : 0 < shape.workers
  pub quiet : is_quiescent shape deeds (log_given shape deeds) ≡ true
