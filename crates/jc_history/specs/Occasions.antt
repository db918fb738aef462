-- What laws on histories speak of, as plain data, so that each has one variable in place of its parts.
--     Occasion                      a deed that comes after others, and a controller that may note it
--     HasLegalPast o                the deeds before it are legal
--     log_before, log_with          the log before the deed, and with it
--     diary_before, diary_with      what the controller has noted before the deed, and with it
--     moment_before, begin_before   the moment before it, and how a begin would be answered
--     HasDeed o act reply           after a legal past the deed does this, and is answered so
--     GoesOver o old new            what the controller had before is this with the deed
--     Exchange                      a request of a worker's sync, with its answer
--     IsExchanged o x               after a legal past the deed is that step of the sync
--     diary_asked, end_asked        the notes with that of the request; how it ends the sync, where it does
--     WorkerPast                    a worker, and the deeds and the log that its controller's notes are read off
--     notes_read, register_read     these notes, and the sync of the worker as they say
use Rattle.std.specs.Prelude.{◌≡◌, ℕ, List, ◌∷◌, Option, Some}
use Rattle.jc_log.specs.Acts as does
use Rattle.jc_control.specs.Schedules.{Schedule}
use Rattle.jc_control.specs.declared.begins.Begin.{Begin}
use Rattle.jc_control.specs.declared.ends.SyncEnd.{SyncEnd}
use Rattle.jc_types.specs.declared.objects.Entry.{Entry}
use Rattle.jc_types.specs.declared.replies.Answer.{Answer}
use Rattle.jc_types.specs.declared.replies.Reply.{Reply}
use Rattle.jc_types.specs.declared.replies.Reply.TheVariants as reply
use Rattle.jc_types.specs.declared.replies.Request.{Request}
use Rattle.jc_types.specs.declared.runs.Shape.{Shape}
use Rattle.jc_states.specs.declared.bases.Basis.{Basis}
use Rattle.jc_log.specs.Acts.{Act}
use Rattle.jc_log.specs.Deeds.{Deed}
use Rattle.jc_history.specs.Agrees.{IsScheduleOf}
use Rattle.jc_history.specs.Diaries.{end_by, moment, notes}
use Rattle.jc_history.specs.Legal.{IsLegal}
use Rattle.jc_history.specs.Notes.{Asked, Note}
use Rattle.jc_history.specs.Registers.{asks_status, register}
use Rattle.jc_history.specs.Replies.{begin_now, diary, log_given}

-- ---- a deed

-- A deed that comes after others, the newest first, and a controller that may note it.
pub record Occasion : Type 0 where
  pub shape : Shape
  pub controller : ℕ
  pub past : List Deed
  pub deed : Deed

-- The deeds before it are legal.
abbrev pub HasLegalPast : Occasion → Type 0
HasLegalPast o = IsLegal o.shape o.past

-- The log before the deed.
abbrev pub log_before : Occasion → List Entry
log_before o = log_given o.shape o.past

-- And with it.
abbrev pub log_with : Occasion → List Entry
log_with o = log_given o.shape (o.deed ∷ o.past)

-- What the controller has noted before the deed.
abbrev pub diary_before : Occasion → List Note
diary_before o = diary o.shape o.controller o.past

-- And with it.
abbrev pub diary_with : Occasion → List Note
diary_with o = diary o.shape o.controller (o.deed ∷ o.past)

-- The moment before the deed.
abbrev pub moment_before : Occasion → ℕ
moment_before o = moment o.shape o.past

-- How a begin of the controller would be answered then, where the worker is free.
abbrev pub begin_before : Occasion → Begin
begin_before o = begin_now o.shape o.controller o.past

-- The deeds before are legal, the deed does this, and it is answered so.
pub record HasDeed (o : Occasion) (act : Act) (answered : Reply) : Type 0 where
  pub legal : HasLegalPast o
  pub act_is : o.deed.act ≡ act
  pub reply_is : o.deed.reply ≡ answered

-- A controller that had this before the deed has the other with it, as its notes say.
abbrev pub GoesOver : Occasion → Schedule → Schedule → Type 0
GoesOver o old new = IsScheduleOf (diary_before o) old → IsScheduleOf (diary_with o) new

-- ---- a request of a sync

-- A request of a worker's sync, which began with this, and its answer.
pub record Exchange : Type 0 where
  pub worker : ℕ
  pub basis : Basis
  pub asked : Request
  pub given : Answer

-- After a legal past the deed is the worker's step, in which its sync asked this and was answered so.
pub record IsExchanged (o : Occasion) (x : Exchange) : Type 0 where
  pub done : HasDeed o (does.Step o.controller x.worker) (reply.Stepped x.asked x.given)
  pub its : register x.worker (diary_before o) ≡ Some x.basis

-- What the controller had noted before the deed, with the request's note.
abbrev pub diary_asked : Occasion → Exchange → List Note
diary_asked o x = Asked x.worker x.basis x.asked x.given ∷ diary_before o

-- How the request ends its sync, where it does.
abbrev pub end_asked : Exchange → Option SyncEnd
end_asked x = end_by (asks_status x.asked) x.given

-- ---- a worker

-- A worker of a controller, and the deeds and the log that the controller's notes are read off.
pub record WorkerPast : Type 0 where
  pub shape : Shape
  pub controller : ℕ
  pub worker : ℕ
  pub deeds : List Deed
  pub log : List Entry

-- These notes.
abbrev pub notes_read : WorkerPast → List Note
notes_read p = notes p.shape p.controller p.deeds p.log

-- The sync of the worker, as they say.
abbrev pub register_read : WorkerPast → Option Basis
register_read p = register p.worker (notes_read p)
