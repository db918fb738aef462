-- What the deeds of a history, newest first, say of syncs.
--     reach past           the length of the log after them
--     Began                with what a sync began: its key, and the numbers of the two caches
--     began_of reply       that of the reply, if a sync began
--     sync_of c w past     that of the worker's last begin: the worker's sync
--     request_of reply     the request that a step made
--     step_sync d past     that of the sync whose step the deed is
--     appends d past       the deed appended an entry to the log
use Rattle.std.specs.Prelude.{ℕ, ◌==◌, nat_lt, Bool, false, ◌&&◌, List, [], ◌∷◌, find, if◌then◌else◌, Option, Some, None, is_some, option_and_then}
use Rattle.jc_log.specs.Acts as does
use Rattle.jc_types.specs.declared.objects.KeyNames.{KeyNames as Key}
use Rattle.jc_types.specs.declared.replies.Reply.{Reply}
use Rattle.jc_types.specs.declared.replies.Reply.TheVariants as reply
use Rattle.jc_types.specs.declared.replies.Request.{Request}
use Rattle.jc_log.specs.Acts.{Act}
use Rattle.jc_log.specs.Deeds.{Deed}

-- The length of the log after the deeds.
abbrev pub reach : List Deed → ℕ
reach [] = 0
reach (d ∷ past) = d.length.0

-- With what a sync began.
pub record Began : Type 0 where
  pub key : Key
  pub jobs_at : ℕ
  pub pods_at : ℕ

-- With what a sync began, if the reply says that one did.
abbrev pub began_of : Reply → Option Began
began_of (reply.Begun key jobs_at pods_at) =
    Some (record { key = key; jobs_at = jobs_at.0; pods_at = pods_at.0 })
began_of other = None

-- It is a begin of the worker.
abbrev pub is_begin : ℕ → ℕ → Act → Bool
is_begin c w (does.Begin controller worker) = (controller == c) && (worker == w)
is_begin c w other = false

-- With what the worker's sync began by the deed.
abbrev pub began_by : ℕ → ℕ → Deed → Option Began
began_by c w d = if is_begin c w d.act then began_of d.reply else None

-- The worker's sync: its last begin. A worker that never began has none.
abbrev pub sync_of : ℕ → ℕ → List Deed → Option Began
sync_of c w past = option_and_then (began_by c w) (find (λ d. is_some (began_by c w d)) past)

-- The controller and the worker of a step.
abbrev pub stepper : Act → Option (ℕ × ℕ)
stepper (does.Step controller worker) = Some (controller, worker)
stepper other = None

-- The request that a step made.
abbrev pub request_of : Reply → Option Request
request_of (reply.Stepped request answer) = Some request
request_of other = None

-- The sync whose step the deed is.
abbrev pub step_sync : Deed → List Deed → Option Began
step_sync d past = option_and_then (λ worker. sync_of worker.0 worker.1 past) (stepper d.act)

-- The deed appended an entry. A reply that was lost does not say so, but the length of the log does.
abbrev pub appends : Deed → List Deed → Bool
appends d past = nat_lt (reach past) d.length.0
