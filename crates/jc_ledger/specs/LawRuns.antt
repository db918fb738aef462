-- Histories each of whose events is of one of the kinds that the law speaks of.
--     World                              the deeds so far, the log, and the syncs under way
--     IsTied w                           the three are tied
--     Replaces flights old new next      the syncs `next` are `flights` with `new` in the place of `old`
--     Adds flights new next              they are `flights` with one more
--     Drops flights next                 they are `flights` without some that stood together
--     Step w next                        one event, or syncs that come to their end
--     IsRun worlds                       each world comes from the one before it by a step, the newest first
use Rattle.std.specs.Prelude.{◌≡◌, List, [], ◌∷◌, ◌++◌}
use Rattle.jc_types.specs.declared.numbers.Uid.{Uid}
use Rattle.jc_types.specs.declared.objects.Entry.{Entry}
use Rattle.jc_types.specs.declared.objects.Entry.TheVariants.{JobPut, JobGone}
use Rattle.jc_types.specs.declared.objects.Job.{Job}
use Rattle.jc_types.specs.declared.objects.Pod.{Pod}
use Rattle.jc_log.specs.Deeds.{Deed}
use Rattle.jc_ledger.specs.declared.flights.Flight.{Flight}
use Rattle.jc_ledger.specs.EventKinds.{StatusWrite, FinalizerWrite, AppendsNoEntry, CreatesJob, UpdatesJob, DeletesJob, WritesPod, Begins as BeginsSync, FindsNothing, with_released, WritesFirst, with_written, WritesSecond, Releases, Orphans, LetsGo}
use Rattle.jc_ledger.specs.Tied.{Tied}

-- A history so far: its deeds, its log, both newest first, and the syncs under way.
pub record World : Type 0 where
  pub deeds : List Deed
  pub log : List Entry
  pub flights : List Flight

-- The three are tied.
abbrev pub IsTied : World → Type 0
IsTied w = Tied w.deeds w.log w.flights

-- The world after one more deed, with this log and these syncs under way.
abbrev pub world_after : Deed → World → List Entry → List Flight → World
world_after d w log flights = record { deeds = d ∷ w.deeds; log = log; flights = flights }

-- The world with other syncs under way.
abbrev pub flying : World → List Flight → World
flying w flights = record w { flights = flights }

-- ---- syncs under way

-- The syncs `next` are `flights` with `new` in the place of `old`. Where both are one sync, it is among them.
pub record Replaces (flights : List Flight) (old new : Flight) (next : List Flight) : Type 0 where
  pub front : List Flight
  pub back : List Flight
  pub were : flights ≡ front ++ old ∷ back
  pub are : next ≡ front ++ new ∷ back

-- The syncs `next` are `flights` with one more.
pub record Adds (flights : List Flight) (new : Flight) (next : List Flight) : Type 0 where
  pub front : List Flight
  pub back : List Flight
  pub were : flights ≡ front ++ back
  pub are : next ≡ front ++ new ∷ back

-- The syncs `next` are `flights` without some that stood together.
pub record Drops (flights next : List Flight) : Type 0 where
  pub front : List Flight
  pub dropped : List Flight
  pub back : List Flight
  pub were : flights ≡ front ++ (dropped ++ back)
  pub are : next ≡ front ++ back

-- ---- steps

-- One event, or syncs that come to their end. Each constructor names what the event is, by its facts, and what
-- it makes of the world.
pub data Step (w next : World) : Type 0 where
  Quiet : (d : Deed) → AppendsNoEntry d w.log → next ≡ world_after d w w.log w.flights → Step w next
  Dropped : Drops w.flights next.flights → next ≡ flying w next.flights → Step w next
  Created : (d : Deed) (job : Job) → CreatesJob d w.log job
      → next ≡ world_after d w (JobPut job ∷ w.log) w.flights → Step w next
  Updated : (d : Deed) (old job : Job) → UpdatesJob d w.log old job
      → next ≡ world_after d w (JobPut job ∷ w.log) w.flights → Step w next
  Deleted : (d : Deed) (job : Job) → DeletesJob d w.log job
      → next ≡ world_after d w (JobGone job ∷ w.log) w.flights → Step w next
  PodWritten : (d : Deed) (e : Entry) (pod : Pod) → WritesPod d w.log e pod
      → next ≡ world_after d w (e ∷ w.log) w.flights → Step w next
  Begun : (d : Deed) (flight : Flight) → BeginsSync d w.log flight
      → Adds w.flights flight next.flights
      → next ≡ world_after d w w.log next.flights → Step w next
  NotTracked : (d : Deed) (flight : Flight) (u : Uid) → FindsNothing d w.log u
      → Replaces w.flights flight (with_released flight u) next.flights
      → next ≡ world_after d w w.log next.flights → Step w next
  FirstWritten : (d : Deed) (s : StatusWrite) → WritesFirst d w.deeds w.log s
      → Replaces w.flights s.flight (with_written s.flight s.new) next.flights
      → next ≡ world_after d w (JobPut s.new ∷ w.log) next.flights → Step w next
  SecondWritten : (d : Deed) (s : StatusWrite) → WritesSecond d w.deeds w.log s
      → Replaces w.flights s.flight s.flight next.flights
      → next ≡ world_after d w (JobPut s.new ∷ w.log) next.flights → Step w next
  Released : (d : Deed) (job : Job) (f : FinalizerWrite) → Releases d w.log job f
      → Replaces w.flights f.flight (with_released f.flight f.seen.uid) next.flights
      → next ≡ world_after d w (f.entry ∷ w.log) next.flights → Step w next
  OrphanReleased : (d : Deed) (f : FinalizerWrite) → Orphans d w.log f
      → Replaces w.flights f.flight (with_released f.flight f.seen.uid) next.flights
      → next ≡ world_after d w (f.entry ∷ w.log) next.flights → Step w next
  LetGo : (d : Deed) (old : Pod) (f : FinalizerWrite) → LetsGo d w.log old f
      → Replaces w.flights f.flight f.flight next.flights
      → next ≡ world_after d w (f.entry ∷ w.log) next.flights → Step w next

-- The world at the start.
abbrev pub start : World
start = record { deeds = []; log = []; flights = [] }

-- The worlds of a run, the newest first, from the start.
abbrev pub IsRun : List World → Type 0
IsRun [] = Unit {0}
IsRun (w ∷ []) = w ≡ start
IsRun (next ∷ w ∷ before) = Step w next × IsRun (w ∷ before)
