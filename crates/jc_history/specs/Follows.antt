-- What the store and the controllers of a cluster have is what its history says.
--     ClusterWorld                the deeds so far, the log, and the controllers
--     cluster_after d w cons      these after one more deed, with these controllers
--     Agrees w c con              a controller of the number has what the deeds and the log say
--     AllAgree w                  so has each controller, in their order
--     FollowsHistory w            and the history is legal, and the log is that of the history
--     TakesNoNote shape past d c  the deed is none of the controller's
use Rattle.std.specs.Prelude.{◌≡◌, ℕ, false, List, [], slice_get, Some, ◌∷◌}
use Rattle.jc_control.specs.Schedules.{ControllerView, MirrorsLog}
use Rattle.jc_types.specs.declared.objects.Entry.{Entry}
use Rattle.jc_types.specs.declared.runs.Shape.{Shape}
use Rattle.jc_log.specs.Deeds.{Deed}
use Rattle.jc_history.specs.Agrees.{IsScheduleOf}
use Rattle.jc_history.specs.Diaries.{moment, notes_taken, notes, restarts}
use Rattle.jc_history.specs.Legal.{IsLegal}
use Rattle.jc_history.specs.Replies.{diary, log_given}

-- A history so far, of this shape: its deeds, its log, both newest first, and the controllers in their order.
pub record ClusterWorld : Type 0 where
  pub shape : Shape
  pub deeds : List Deed
  pub log : List Entry
  pub cons : List ControllerView

-- The same after one more deed, with its log, and with these controllers.
abbrev pub cluster_after : Deed → ClusterWorld → List ControllerView → ClusterWorld
cluster_after d w cons =
    record w { deeds = d ∷ w.deeds; log = log_given w.shape (d ∷ w.deeds); cons = cons }

-- A controller of the number has what the deeds and the log say.
pub record Agrees (w : ClusterWorld) (c : ℕ) (con : ControllerView) : Type 0 where
  pub schedule : IsScheduleOf (notes w.shape c w.deeds w.log) con.schedule
  pub holds : MirrorsLog w.log con

-- So has each controller, in their order.
abbrev pub AllAgree : ClusterWorld → Type 0
AllAgree w = (c : ℕ) (con : ControllerView) → slice_get w.cons c ≡ Some con → Agrees w c con

-- So have all, the history is legal, and the log is that of the history.
pub record FollowsHistory (w : ClusterWorld) : Type 0 where
  pub legal : IsLegal w.shape w.deeds
  pub log_is : w.log ≡ log_given w.shape w.deeds
  pub each : AllAgree w

-- The controller takes no note of the deed.
pub record TakesNoNote (shape : Shape) (past : List Deed) (d : Deed) (c : ℕ) : Type 0 where
  pub goes_on : restarts c d.act ≡ false
  pub nothing : notes_taken c d.act d.reply (moment shape past) (log_given shape (d ∷ past))
      (diary shape c past) ≡ []
