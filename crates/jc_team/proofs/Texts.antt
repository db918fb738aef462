-- Steps are answered without a text.
use Rattle.std.proofs.Common.{◌≡◌, ℕ, List, Option, Some, None, slice_get, refl}
use Rattle.std.specs.Option.{unwrap_or}
use Rattle.jc_types.specs.declared.actions.Fault.{Fault}
use Rattle.jc_types.specs.declared.objects.Entry.{Entry}
use Rattle.jc_types.specs.declared.replies.Reply.{Reply}
use Rattle.jc_control.specs.Schedules.{Schedule}
use Rattle.jc_sync.specs.Steps.{Sync}
use Rattle.jc_runs.specs.Teams.{Team, stride_at, stride_of}
use Rattle.jc_runs.specs.TextlessReplies.{HasNoText}
use Rattle.jc_runs.proofs.TextFacts.{no_text_of, step_texts}

stride_texts_at : (log : List Entry) (now : ℕ) (fault : Option Fault) (schedule : Schedule) (register : Option Sync) → HasNoText (stride_at log now fault schedule register).reply
stride_texts_at log now fault schedule None = tt
stride_texts_at log now fault schedule (Some sync) = step_texts _ now fault log sync refl

-- A step of the worker.
pub stride_texts : (given : Reply) (log : List Entry) (now : ℕ) (team : Team) (w : ℕ) → given ≡ (stride_of log now team w).reply → HasNoText given
stride_texts given log now team w is =
    no_text_of given _ is (stride_texts_at log now (unwrap_or (slice_get team.faults w) None) team.con.schedule (unwrap_or (slice_get team.registers w) None))
