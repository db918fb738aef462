-- What comes round the own event of a command.
--     way_of action               the way of a command
--     by_way way script ..        what is played so
--     FitsWay way seen event      the event may be played so
--     place_played place ..       what is played of a place of the script
--     ArePlayed place pasts       the commands of all places below this one were played
--     IsAtPlace place own         the event is the command at this place
use Rattle.std.specs.Prelude.{◌≡◌, ℕ, ◌<◌, ◌||◌, true, if◌then◌else◌, List, Option, Some, None}
use Rattle.std.specs.List.{list_any}
use Rattle.jc_types.specs.declared.actions.Action1.{Action1}
use Rattle.jc_types.specs.declared.actions.Action1.TheVariants as action
use Rattle.jc_types.specs.declared.actions.Command.{Command}
use Rattle.jc_types.specs.declared.actions.Script.{Script}
use Rattle.jc_types.specs.declared.objects.Kind.TheVariants.{Jobs, Pods}
use Rattle.jc_types.specs.declared.runs.Event.{Event}
use Rattle.jc_types.specs.declared.runs.Event.TheVariants as event
use Rattle.jc_types.specs.declared.runs.Past.{Past}
use Rattle.jc_types.specs.declared.runs.Shape.{Shape}
use Rattle.jc_history.specs.Play.{Playing, after_begin, brought_up, commanded, event_played, is_command, settled_down}
use Rattle.jc_runs.specs.Seen.{Seen}
use Rattle.jc_play.specs.declared.ways.Way.{Way}
use Rattle.jc_play.specs.declared.ways.Way.TheVariants as way
use Rattle.jc_play.specs.Turns.{NeedsNoRest}

-- The way of a command.
abbrev pub way_of : Action1 → Way
way_of (action.Sync c w) = way.Round c w
way_of action.Settle = way.Rest
way_of other = way.Plain

-- What is played so.
abbrev pub by_way : Way → Script → Shape → Event → Playing → Playing
by_way (way.Round c w) script shape event p =
    after_begin script shape c w
    (event_played script shape event
    (brought_up script shape c Pods (brought_up script shape c Jobs p)))
by_way way.Rest script shape event p = event_played script shape event (settled_down script shape p)
by_way way.Plain script shape event p = event_played script shape event p

-- The event may be played so.
abbrev pub FitsWay : Way → Seen → Event → Type 0
FitsWay (way.Round c w) seen event =
    (c < seen.shape.controllers) × (w < seen.shape.workers) × NeedsNoRest seen event
FitsWay way.Rest seen event = Unit {0}
FitsWay way.Plain seen event = NeedsNoRest seen event

-- What is played of a place of the script, where a command stands there: it is, if it was not yet.
abbrev pub place_played : ℕ → Option Command → Script → Shape → Playing → Playing
place_played place None script shape p = p
place_played place (Some command) script shape p =
    if p.full || list_any (is_command place) p.pasts then p
    else commanded script shape command.action (event.Command command.lane place) p

-- The commands of all places below this one were played.
abbrev pub ArePlayed : ℕ → List Past → Type 0
ArePlayed place pasts = (n : ℕ) → n < place → list_any (is_command n) pasts ≡ true

-- The event is the command at this place.
pub record IsAtPlace (place : ℕ) (own : Event) : Type 0 where
  pub lane : ℕ
  pub is : own ≡ event.Command lane place
