-- What is known where an event is the first that is available.
--     AreUpToDate shape past log         both caches of each controller have seen the whole log
--     NoSyncIsUnderWay shape past log    no controller has a sync under way
--     HaveNoKeys shape past log          no key is in line
--     Comes shape past log event         what is known where the event is the first
--     SeesAll shape past c               the controller's next sync has no other beside it, and sees the whole log
use Rattle.std.specs.Prelude.{◌≡◌, ℕ, ◌-◌, ◌<◌, List, [], ◌∷◌, length, Some, None}
use Rattle.jc_types.specs.declared.numbers.Version.{Version}
use Rattle.jc_types.specs.declared.objects.Entry.{Entry}
use Rattle.jc_types.specs.declared.objects.KeyNames.{KeyNames as Key}
use Rattle.jc_types.specs.declared.objects.Kind.{Kind}
use Rattle.jc_types.specs.declared.objects.Pod.{Pod}
use Rattle.jc_types.specs.declared.runs.Shape.{Shape}
use Rattle.jc_types.specs.declared.runs.Sys.{Sys}
use Rattle.jc_types.specs.declared.runs.Sys.TheVariants as sys
use Rattle.jc_states.specs.declared.bases.Basis.{Basis}
use Rattle.jc_control.specs.Schedules.{log_end}
use Rattle.jc_control.specs.declared.begins.Begin.TheVariants.{Begun}
use Rattle.jc_log.specs.Deeds.{Deed}
use Rattle.jc_history.specs.Available.{least_of_all}
use Rattle.jc_history.specs.Diaries.{moment, notes}
use Rattle.jc_history.specs.Fresh.{basis}
use Rattle.jc_history.specs.Lines.{line}
use Rattle.jc_history.specs.Nodes.{NodeAct, fate, node_step}
use Rattle.jc_history.specs.Numbers.{number}
use Rattle.jc_history.specs.Registers.{register}
use Rattle.jc_history.specs.Replies.{begin_now, diary, log_given}
use Rattle.jc_order.specs.Ends.{IsUpToDate}

-- Both caches of each controller have seen the whole log.
abbrev pub AreUpToDate : Shape → List Deed → List Entry → Type 0
AreUpToDate shape past log =
    (c : ℕ) → c < shape.controllers → IsUpToDate (notes shape c past log) log

-- No controller has a sync under way.
abbrev pub NoSyncIsUnderWay : Shape → List Deed → List Entry → Type 0
NoSyncIsUnderWay shape past log =
    (c : ℕ) → c < shape.controllers → (w : ℕ) → w < shape.workers
    → register w (notes shape c past log) ≡ None

-- No key is in line.
abbrev pub HaveNoKeys : Shape → List Deed → List Entry → Type 0
HaveNoKeys shape past log = (c : ℕ) → c < shape.controllers → line (notes shape c past log) ≡ []

-- What is known where the event is the first that is available.
pub data Comes (shape : Shape) (past : List Deed) (log : List Entry) (event : Sys) : Type 0 where
  -- A cache without a number is listed.
  Lists : (c : ℕ) (kind : Kind) → c < shape.controllers → event ≡ sys.List c kind
      → number kind (notes shape c past log) ≡ None → Comes shape past log event
  -- One that has not seen the whole log is told.
  Delivers : (c : ℕ) (kind : Kind) (version : Version) → c < shape.controllers
      → event ≡ sys.Deliver c kind → number kind (notes shape c past log) ≡ Some version
      → version.0 < length log → Comes shape past log event
  -- A sync steps.
  Steps : AreUpToDate shape past log → (c w : ℕ) (begun : Basis)
      → c < shape.controllers → w < shape.workers
      → event ≡ sys.Step c w → register w (notes shape c past log) ≡ Some begun
      → Comes shape past log event
  -- One begins.
  Begins : AreUpToDate shape past log → NoSyncIsUnderWay shape past log
      → (c w : ℕ) (k : Key) (rest : List Key)
      → c < shape.controllers → event ≡ sys.Begin c w → line (notes shape c past log) ≡ k ∷ rest
      → Comes shape past log event
  -- The node acts.
  Acts : AreUpToDate shape past log → NoSyncIsUnderWay shape past log → HaveNoKeys shape past log
      → (step : Pod × NodeAct) → event ≡ sys.Node → node_step log (fate past) ≡ Some step
      → Comes shape past log event
  -- The clock moves.
  Ticks : AreUpToDate shape past log → NoSyncIsUnderWay shape past log → HaveNoKeys shape past log
      → node_step log (fate past) ≡ None → (due : ℕ) → event ≡ sys.Clock (due - moment shape past)
      → least_of_all shape past log ≡ Some due → Comes shape past log event

-- The next sync of the controller has no other beside it, and sees the whole log.
pub record SeesAll (shape : Shape) (past : List Deed) (c : ℕ) : Type 0 where
  pub alone : NoSyncIsUnderWay shape past (log_given shape past)
  pub key : Key
  pub begins : begin_now shape c past
      ≡ Begun (basis (diary shape c past) (log_given shape past) (moment shape past) key
      (log_end (log_given shape past)) (log_end (log_given shape past)))
