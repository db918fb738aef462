-- A settle as a function of the deeds before it: what is first available is done, event by event, until nothing is.
--     next_of_settle shape past      the deed that it does next, where something is available
--     with_next next past            the deeds with that one
--     settled_on shape events past   the deeds after so many events more, or fewer, where nothing is available before
--     ComesToRest shape past         after so many events nothing is available
--     is_telling act                 the act lists a cache or delivers to it
--     is_on_the_way act              the same, or it is a step
--     LeavesSync w older newer       the worker's sync, what it has asked and its fault are as they were
--     CatchesUp shape past           each cache is told of all, and nothing else comes before that
--     IsCalm shape past              the caches have seen the whole log, and no sync is under way
--     CalmsDown shape past           it comes to be calm, by lists, deliveries and steps alone
use Rattle.std.specs.Prelude.{◌≡◌, ℕ, zero, suc, Bool, true, false, List, ◌∷◌, ◌++◌, Option, Some, None, slice_get}
use Rattle.std.specs.List.{AllByRecursion as Each}
use Rattle.std.specs.Option.{option_map}
use Rattle.jc_types.specs.declared.runs.Shape.{Shape}
use Rattle.jc_log.specs.Acts as does
use Rattle.jc_log.specs.Acts.{Act}
use Rattle.jc_log.specs.Deeds.{Deed, act_of_system}
use Rattle.jc_history.specs.Available.{available, is_quiescent}
use Rattle.jc_history.specs.Notes.{Note}
use Rattle.jc_history.specs.Registers.{made, pending, register}
use Rattle.jc_history.specs.Replies.{diary, log_given, next_deed}
use Rattle.jc_settle.specs.Comes.{AreUpToDate, NoSyncIsUnderWay}

-- The deed that a settle does next, where something is available: the first event, by no lane.
abbrev pub next_of_settle : Shape → List Deed → Option Deed
next_of_settle shape past =
    option_map (λ event. next_deed shape past None (act_of_system event))
    (slice_get (available shape past (log_given shape past)) 0)

-- The deeds with that one.
abbrev pub with_next : Option Deed → List Deed → List Deed
with_next None past = past
with_next (Some d) past = d ∷ past

-- The deeds after so many events more of a settle, or fewer, where nothing is available before.
abbrev pub settled_on : Shape → ℕ → List Deed → List Deed
settled_on shape zero past = past
settled_on shape (suc n) past = settled_on shape n (with_next (next_of_settle shape past) past)

-- A settle comes to rest: after so many events nothing is available.
pub record ComesToRest (shape : Shape) (past : List Deed) : Type 0 where
  pub events : ℕ
  pub rests : is_quiescent shape (settled_on shape events past) (log_given shape (settled_on shape events past))
      ≡ true

-- The act lists a cache, or delivers an entry to it.
abbrev pub is_telling : Act → Bool
is_telling (does.List controller kind) = true
is_telling (does.Deliver controller kind) = true
is_telling other = false

-- It does so, or it is a step of a sync: so no command, no begin and no act of the node, and the moment stays.
abbrev pub is_on_the_way : Act → Bool
is_on_the_way (does.Step controller worker) = true
is_on_the_way other = is_telling other

-- The worker's sync, what it has asked so far and the fault that its next request meets are as they were.
pub record LeavesSync (w : ℕ) (older newer : List Note) : Type 0 where
  pub register_is : register w newer ≡ register w older
  pub made_is : made w newer ≡ made w older
  pub pending_is : pending w newer ≡ pending w older

-- After so many lists and deliveries, and nothing else, each cache has seen the whole log; that and all syncs are as
-- they were.
pub record CatchesUp (shape : Shape) (past : List Deed) : Type 0 where
  pub events : ℕ
  pub run : List Deed
  pub are : settled_on shape events past ≡ run ++ past
  pub telling : Each (λ (d : Deed). is_telling d.act ≡ true) run
  pub caches : AreUpToDate shape (run ++ past) (log_given shape (run ++ past))
  pub log_is : log_given shape (run ++ past) ≡ log_given shape past
  pub syncs : (c w : ℕ) → LeavesSync w (diary shape c past) (diary shape c (run ++ past))

-- Both caches of each controller have seen the whole log, and no sync is under way.
pub record IsCalm (shape : Shape) (past : List Deed) : Type 0 where
  pub caches : AreUpToDate shape past (log_given shape past)
  pub free : NoSyncIsUnderWay shape past (log_given shape past)

-- After so many lists, deliveries and steps, and nothing else, it is calm.
pub record CalmsDown (shape : Shape) (past : List Deed) : Type 0 where
  pub events : ℕ
  pub run : List Deed
  pub are : settled_on shape events past ≡ run ++ past
  pub way : Each (λ (d : Deed). is_on_the_way d.act ≡ true) run
  pub calm : IsCalm shape (run ++ past)
