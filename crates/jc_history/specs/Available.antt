-- What the system can do of itself after the deeds and their log, as one list in the order in which it is tried.
--     available shape past log    the events
--     is_quiescent ..             there is none
--     IsOrderly shape deeds       each event of the system was available when it came
use Rattle.std.specs.Prelude.{◌≡◌, ℕ, ◌-◌, Bool, true, false, nat_lt, List, [], ◌∷◌, ◌++◌, length, find, if◌then◌else◌, Option, Some, None, is_none, is_some}
use Rattle.std.specs.List.{Any, filter_map, flat_map, range_with_len}
use Rattle.std.specs.Option.{option_map, option_to_list}
use Rattle.jc_queue.specs.Delayed.{earlier}
use Rattle.jc_types.specs.declared.numbers.Version.{Version}
use Rattle.jc_types.specs.declared.objects.Entry.{Entry}
use Rattle.jc_types.specs.declared.objects.Kind.{Kind}
use Rattle.jc_types.specs.declared.objects.Kind.TheVariants.{Jobs, Pods}
use Rattle.jc_types.specs.declared.runs.Shape.{Shape}
use Rattle.jc_types.specs.declared.runs.Sys.{Sys}
use Rattle.jc_types.specs.declared.runs.Sys.TheVariants as sys
use Rattle.jc_log.specs.Acts.{Act}
use Rattle.jc_log.specs.Deeds.{Deed, act_of_system}
use Rattle.jc_history.specs.Delays.{least_delay}
use Rattle.jc_history.specs.Diaries.{moment, notes}
use Rattle.jc_history.specs.Fresh.{may_begin}
use Rattle.jc_history.specs.Nodes.{fate, node_step}
use Rattle.jc_history.specs.Notes.{Note}
use Rattle.jc_history.specs.Numbers.{number}
use Rattle.jc_history.specs.Registers.{register}
use Rattle.jc_history.specs.Replies.{log_given}

-- The numbers below n.
abbrev pub below : ℕ → List ℕ
below n = range_with_len 0 n

-- ---- of one controller

-- A list of each cache without a number.
abbrev pub list_event : ℕ → Kind → Option Version → List Sys
list_event c kind None = sys.List c kind ∷ []
list_event c kind (Some version) = []

-- Jobs before pods.
abbrev pub list_events : List Note → ℕ → List Sys
list_events notes c = list_event c Jobs (number Jobs notes) ++ list_event c Pods (number Pods notes)

-- A delivery for each cache whose number is below the log's length.
abbrev pub delivery_event : List Entry → ℕ → Kind → Option Version → List Sys
delivery_event log c kind None = []
delivery_event log c kind (Some version) =
    if nat_lt version.0 (length log) then sys.Deliver c kind ∷ [] else []

-- Jobs before pods.
abbrev pub delivery_events : List Note → List Entry → ℕ → List Sys
delivery_events notes log c =
    delivery_event log c Jobs (number Jobs notes) ++ delivery_event log c Pods (number Pods notes)

-- A step of each register in use.
abbrev pub step_event : List Note → ℕ → ℕ → List Sys
step_event notes c w = if is_some (register w notes) then sys.Step c w ∷ [] else []

-- By worker.
abbrev pub step_events : List Note → ℕ → ℕ → List Sys
step_events notes workers c = flat_map (step_event notes c) (below workers)

-- The least worker without a sync.
abbrev pub free_worker : List Note → ℕ → Option ℕ
free_worker notes workers = find (λ w. is_none (register w notes)) (below workers)

-- A begin of the least free worker, where the next begin starts a sync.
abbrev pub begin_events : List Note → List Entry → ℕ → ℕ → List Sys
begin_events notes log workers c =
    if may_begin notes log then option_to_list (option_map (λ w. sys.Begin c w) (free_worker notes workers)) else []

-- ---- of all

-- What the node does next, where it does something.
abbrev pub node_events : Bool → List Sys
node_events true = sys.Node ∷ []
node_events false = []

-- The earlier of two moments, where they are there.
abbrev pub earliest : Option ℕ → List ℕ → Option ℕ
earliest found [] = found
earliest found (moment ∷ more) = earliest (Some (earlier found moment)) more

-- What there is but for the clock: within a kind by controller, then Jobs before Pods, then by worker.
abbrev pub but_clock : Shape → List Deed → List Entry → List Sys
but_clock shape past log =
    flat_map (λ c. list_events (notes shape c past log) c) (below shape.controllers)
    ++ (flat_map (λ c. delivery_events (notes shape c past log) log c) (below shape.controllers)
    ++ (flat_map (λ c. step_events (notes shape c past log) shape.workers c) (below shape.controllers)
    ++ (flat_map (λ c. begin_events (notes shape c past log) log shape.workers c) (below shape.controllers)
    ++ node_events (is_some (node_step log (fate past))))))

-- The least delay of all controllers.
abbrev pub least_of_all : Shape → List Deed → List Entry → Option ℕ
least_of_all shape past log =
    earliest None (filter_map (λ c. least_delay (notes shape c past log)) (below shape.controllers))

-- The clock to the least delay, by 0 seconds where it has passed.
abbrev pub clock_events : ℕ → Option ℕ → List Sys
clock_events now None = []
clock_events now (Some due) = sys.Clock (due - now) ∷ []

-- The clock is tried where there is nothing else.
abbrev pub or_clock : List Sys → List Sys → List Sys
or_clock [] clock = clock
or_clock (event ∷ events) clock = event ∷ events

-- All that is available, in the order in which it is tried.
unfoldable pub available : Shape → List Deed → List Entry → List Sys
available shape past log =
    or_clock (but_clock shape past log) (clock_events (moment shape past) (least_of_all shape past log))

-- The list has nothing.
abbrev pub is_empty : {A : Type 0} → List A → Bool
is_empty [] = true
is_empty (x ∷ xs) = false

-- Nothing is available.
abbrev pub is_quiescent : Shape → List Deed → List Entry → Bool
is_quiescent shape past log = is_empty (available shape past log)

-- An event of the system was available; of commands nothing is asked.
abbrev pub WasAvailable : Act → Option ℕ → List Sys → Type 0
WasAvailable act (Some lane) events = Unit {0}
WasAvailable act None events = Any (λ event. act_of_system event ≡ act) events

-- Each event of the system was available when it came.
abbrev pub IsOrderly : Shape → List Deed → Type 0
IsOrderly shape [] = Unit {0}
IsOrderly shape (d ∷ past) =
    WasAvailable d.act d.lane (available shape past (log_given shape past)) × IsOrderly shape past
