-- The requests of a sync as its plan and the answers so far tell them: the plan's, and behind each let-go that
-- took the finalizer a mark of the pod. The next one is the first that was not made.
--     with_marks gone asks      the requests with a mark behind each let-go of one of these pods
--     requests plan gone        those of a plan
--     told_step reply           the request and its answer, where the reply tells of a step
--     steps_of c w past         the requests of the worker's sync and their answers, the newest first
--     gone_in steps             the pods whose let-go took the finalizer
--     next_ask plan steps       the next request
use Rattle.std.specs.Prelude.{ℕ, ◌==◌, Bool, false, ◌&&◌, List, [], ◌∷◌, length, Option, Some, None, is_some, slice_get, if◌then◌else◌}
use Rattle.std.specs.List.{filter_map}
use Rattle.jc_log.specs.Acts as does
use Rattle.jc_types.specs.declared.numbers.Uid.{Uid}
use Rattle.jc_types.specs.declared.replies.Answer.{Answer}
use Rattle.jc_types.specs.declared.replies.Reply.{Reply}
use Rattle.jc_types.specs.declared.replies.Reply.TheVariants as reply
use Rattle.jc_types.specs.declared.replies.Request.{Request}
use Rattle.jc_types.specs.declared.replies.Request.TheVariants as request
use Rattle.jc_log.specs.Acts.{Act}
use Rattle.jc_log.specs.Deeds.{Deed}
use Rattle.jc_states.specs.UidLists.{is_in}
use Rattle.jc_plan.specs.declared.plans.Planned.{Planned}
use Rattle.jc_ledger.specs.Syncs.{began_by}
use Rattle.jc_asks.specs.declared.asks.Ask.{Ask}
use Rattle.jc_asks.specs.declared.asks.Ask.TheVariants.{MarkPod, LetPodGo}
use Rattle.jc_asks.specs.Asks.{asks_of, is_gone}

-- A request, and behind a let-go of one of these pods its mark.
abbrev pub with_mark_behind : List Uid → Ask → List Ask → List Ask
with_mark_behind gone (LetPodGo u v) asks = LetPodGo u v ∷ (if is_in u gone then MarkPod u ∷ asks else asks)
with_mark_behind gone ask asks = ask ∷ asks

-- The requests, with a mark behind each let-go of one of these pods.
abbrev pub with_marks : List Uid → List Ask → List Ask
with_marks gone [] = []
with_marks gone (ask ∷ asks) = with_mark_behind gone ask (with_marks gone asks)

-- Those of a plan, where these pods were let go.
abbrev pub requests : Planned → List Uid → List Ask
requests plan gone = with_marks gone (asks_of plan)

-- ---- read from a history

-- The request of a step and its answer, where the reply tells of one.
abbrev pub told_step : Reply → Option (Request × Answer)
told_step (reply.Stepped asked given) = Some (asked, given)
told_step other = None

-- It is a step of the worker.
abbrev pub is_step : ℕ → ℕ → Act → Bool
is_step c w (does.Step controller worker) = (controller == c) && (worker == w)
is_step c w other = false

-- What the deed tells of a step of the worker.
abbrev pub step_told : ℕ → ℕ → Deed → Option (Request × Answer)
step_told c w d = if is_step c w d.act then told_step d.reply else None

-- The steps with one more, where there is one.
abbrev pub with_step : Option (Request × Answer) → List (Request × Answer) → List (Request × Answer)
with_step None steps = steps
with_step (Some step) steps = step ∷ steps

-- Those since the worker's last begin.
abbrev pub steps_of : ℕ → ℕ → List Deed → List (Request × Answer)
steps_of c w [] = []
steps_of c w (d ∷ past) =
    if is_some (began_by c w d) then [] else with_step (step_told c w d) (steps_of c w past)

-- The pod of the request, where that was a let-go that took the finalizer.
abbrev pub gone_of : Request → Bool → Option Uid
gone_of (request.LetGo u) gone = if gone then Some u else None
gone_of other gone = None

-- The pod whose let-go took the finalizer by the step.
abbrev pub gone_told : Request × Answer → Option Uid
gone_told step = gone_of step.0 (is_gone step.1)

-- Those of all the steps.
abbrev pub gone_in : List (Request × Answer) → List Uid
gone_in steps = filter_map gone_told steps

-- The first request that was not made.
abbrev pub next_ask : Planned → List (Request × Answer) → Option Ask
next_ask plan steps = slice_get (requests plan (gone_in steps)) (length steps)
