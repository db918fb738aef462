-- The play of a script on one thread.
--     Playing                              a play so far: what has happened and the log, newest first, and whether
--                                          it is full
--     event_played script shape event p    one more event; a play that has all its events is full where one is to
--                                          come
--     brought_up, stepped_through          what is played before and after the own event of Sync
--     settled_down                         what is played before that of Settle
--     whole_play script shape              the play of the whole script
--     play_of script shape                 its events, the first one first
use Rattle.std.specs.Prelude.{ℕ, zero, suc, ◌+◌, ◌==◌, nat_lt, Bool, true, false, ◌||◌, List, [], ◌∷◌, length, map, reverse, if◌then◌else◌, Option, Some, None, is_some}
use Rattle.std.specs.List.{list_any}
use Rattle.jc_control.specs.Schedules.{log_end}
use Rattle.jc_types.specs.declared.actions.Action1.{Action1}
use Rattle.jc_types.specs.declared.actions.Action1.TheVariants as act
use Rattle.jc_types.specs.declared.actions.Command.{Command}
use Rattle.jc_types.specs.declared.actions.Script.{Script}
use Rattle.jc_types.specs.declared.numbers.Version.{Version}
use Rattle.jc_types.specs.declared.objects.Entry.{Entry}
use Rattle.jc_types.specs.declared.objects.Kind.{Kind}
use Rattle.jc_types.specs.declared.objects.Kind.TheVariants.{Jobs, Pods}
use Rattle.jc_types.specs.declared.replies.Reply.{Reply}
use Rattle.jc_types.specs.declared.replies.Reply.TheVariants as reply
use Rattle.jc_types.specs.declared.runs.Event.{Event}
use Rattle.jc_types.specs.declared.runs.Event.TheVariants as event
use Rattle.jc_types.specs.declared.runs.Past.{Past}
use Rattle.jc_types.specs.declared.runs.Shape.{Shape}
use Rattle.jc_types.specs.declared.runs.Sys.{Sys}
use Rattle.jc_types.specs.declared.runs.Sys.TheVariants as sys
use Rattle.jc_log.specs.Requests.{Answered, grown}
use Rattle.jc_log.specs.Deeds.{Deed, act_of_event, deed}
use Rattle.jc_history.specs.Available.{available}
use Rattle.jc_history.specs.Diaries.{notes}
use Rattle.jc_history.specs.Notes.{Note}
use Rattle.jc_history.specs.Numbers.{number}
use Rattle.jc_history.specs.Registers.{register}
use Rattle.jc_history.specs.Replies.{gives}

-- A play so far. It is full where an event was still to come when it had all its events.
pub record Playing : Type 0 where
  pub pasts : List Past
  pub log : List Entry
  pub full : Bool

-- Its deeds.
abbrev pub deeds_played : Script → Playing → List Deed
deeds_played script p = map (deed script) p.pasts

-- ---- one event

-- The event with its answer, after this log.
abbrev pub past_of : Event → Answered → List Entry → Past
past_of event answered log =
    record { event = event; reply = answered.reply; length = log_end (grown log answered.entry) }

-- The play with it.
abbrev pub with_answer : Event → Answered → Playing → Playing
with_answer event answered p =
    record p { pasts = past_of event answered p.log ∷ p.pasts; log = grown p.log answered.entry }

-- One more event, where there is room for it.
unfoldable pub event_played : Script → Shape → Event → Playing → Playing
event_played script shape event p =
    if nat_lt (length p.pasts) shape.events
    then with_answer event (gives shape (deeds_played script p) p.log (act_of_event script.commands event)) p
    else record p { full = true }

-- ---- as long as there is something to do

-- What the controller has noted in the play.
abbrev pub notes_in : Script → Shape → ℕ → Playing → List Note
notes_in script shape c p = notes shape c (deeds_played script p) p.log

-- What brings a cache on: a list where it has no number, else a delivery, until it has seen the whole log.
abbrev pub brings : ℕ → Kind → List Entry → Option Version → Option Event
brings c kind log None = Some (event.System (sys.List c kind))
brings c kind log (Some version) = if version.0 == length log then None else Some (event.System (sys.Deliver c kind))

-- A step, while the register is in use.
abbrev pub next_step : ℕ → ℕ → Bool → Option Event
next_step c w true = Some (event.System (sys.Step c w))
next_step c w false = None

-- The first that is available.
abbrev pub first_event : List Sys → Option Event
first_event [] = None
first_event (head ∷ events) = Some (event.System head)

module _ (script : Script) (shape : Shape) (next : Playing → Option Event) where
  -- The event is played, and more after it; a full play stays as it is.
  abbrev pub does_if : Option Event → (Playing → Playing) → Playing → Playing
  does_if None more p = p
  does_if (Some event) more p = if p.full then p else more (event_played script shape event p)

  -- What is next, again and again, until nothing is or the play is full; so many turns at most.
  abbrev pub on_and_on : ℕ → Playing → Playing
  on_and_on zero p = p
  on_and_on (suc n) p = does_if (next p) (on_and_on n) p

-- Each turn plays an event or finds the play full, so one more turn than there are events is enough.
abbrev pub until_done : Script → Shape → (Playing → Option Event) → Playing → Playing
until_done script shape next p = on_and_on script shape next (shape.events + 1) p

-- The cache is brought on until it has seen the whole log.
unfoldable pub brought_up : Script → Shape → ℕ → Kind → Playing → Playing
brought_up script shape c kind p =
    until_done script shape (λ q. brings c kind q.log (number kind (notes_in script shape c q))) p

-- The worker steps until its register is free.
unfoldable pub stepped_through : Script → Shape → ℕ → ℕ → Playing → Playing
stepped_through script shape c w p =
    until_done script shape (λ q. next_step c w (is_some (register w (notes_in script shape c q)))) p

-- What is available is played until nothing is.
unfoldable pub settled_down : Script → Shape → Playing → Playing
settled_down script shape p =
    until_done script shape (λ q. first_event (available shape (deeds_played script q) q.log)) p

-- ---- commands

-- A sync began by the last event.
abbrev pub has_just_begun : List Past → Bool
has_just_begun [] = false
has_just_begun (past ∷ pasts) = by past.reply
  where
    by : Reply → Bool
    by (reply.Begun key jobs_at pods_at) = true
    by other = false

-- The worker steps, if a sync began.
abbrev pub stepped_if : Script → Shape → ℕ → ℕ → Bool → Playing → Playing
stepped_if script shape c w true p = stepped_through script shape c w p
stepped_if script shape c w false p = p

-- What follows the begin of a sync.
abbrev pub after_begin : Script → Shape → ℕ → ℕ → Playing → Playing
after_begin script shape c w p = if p.full then p else stepped_if script shape c w (has_just_begun p.pasts) p

-- A command: Sync brings both caches up before and steps after, Settle settles before.
abbrev pub commanded : Script → Shape → Action1 → Event → Playing → Playing
commanded script shape (act.Sync c w) event p =
    after_begin script shape c w
    (event_played script shape event (brought_up script shape c Pods (brought_up script shape c Jobs p)))
commanded script shape act.Settle event p = event_played script shape event (settled_down script shape p)
commanded script shape action event p = event_played script shape event p

-- The command of this place was played.
abbrev pub is_command : ℕ → Past → Bool
is_command place past = by past.event
  where
    by : Event → Bool
    by (event.Command lane number) = number == place
    by (event.System system) = false

-- The commands from this place on, in the order of the script, but for those that were played.
abbrev pub rest_played : Script → Shape → ℕ → List Command → Playing → Playing
rest_played script shape place [] p = p
rest_played script shape place (command ∷ commands) p =
    rest_played script shape (place + 1) commands
    (if p.full || list_any (is_command place) p.pasts then p
    else commanded script shape command.action (event.Command command.lane place) p)

-- ---- the play

-- The play of nothing.
abbrev pub nothing : Playing
nothing = record { pasts = []; log = []; full = false }

-- The play of the whole script.
unfoldable pub whole_play : Script → Shape → Playing
whole_play script shape = rest_played script shape 0 script.commands nothing

-- Its events, the first one first.
abbrev pub play_of : Script → Shape → List Past
play_of script shape = reverse (whole_play script shape).pasts

-- It is full.
abbrev pub is_full : Script → Shape → Bool
is_full script shape = (whole_play script shape).full
