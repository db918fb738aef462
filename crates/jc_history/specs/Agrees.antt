-- What a controller has is what its notes say.
--     IsScheduleOf notes schedule    its numbers, its line as a list, and all else key by key
use Rattle.std.specs.Prelude.{◌≡◌, List}
use Rattle.std.specs.Option.{unwrap_or}
use Rattle.jc_control.specs.Schedules.{Schedule, backoff_of, floor_of, number_of}
use Rattle.std.specs.List.{IsDistinct}
use Rattle.std.specs.Map.{keys_of}
use Rattle.jc_queue.specs.Queued.{IsQueue, has_key}
use Rattle.jc_types.specs.declared.objects.Kind.{Kind}
use Rattle.jc_types.specs.declared.objects.KeyNames.{KeyNames as Key}
use Rattle.jc_types.specs.Keys.{same_key}
use Rattle.jc_log.specs.Tables.{at}
use Rattle.jc_history.specs.Delays.{delay, failures}
use Rattle.jc_history.specs.Lines.{is_dirty, is_processing, line}
use Rattle.jc_history.specs.Notes.{Note}
use Rattle.jc_history.specs.Numbers.{number}
use Rattle.jc_history.specs.Registers.{backoff, floor}

-- The queue of a controller is what its notes say.
pub record IsQueued (notes : List Note) (schedule : Schedule) : Type 0 where
  pub line_is : schedule.queue.line ≡ line notes
  pub dirty_is : (k : Key) → has_key k schedule.queue.dirty ≡ is_dirty k notes
  pub processing_is : (k : Key) → has_key k schedule.queue.processing ≡ is_processing k notes

-- So are its delays.
pub record AreDelayed (notes : List Note) (schedule : Schedule) : Type 0 where
  pub moment_is : (k : Key) → at same_key schedule.delays.moments k ≡ delay k notes
  pub failures_are : (k : Key) → unwrap_or (at same_key schedule.delays.failures k) 0 ≡ failures k notes

-- All that a controller has is what its notes say. What the containers keep of themselves goes with it.
pub record IsScheduleOf (notes : List Note) (schedule : Schedule) : Type 0 where
  pub number_is : (kind : Kind) → number_of kind schedule ≡ number kind notes
  pub queued : IsQueued notes schedule
  pub delayed : AreDelayed notes schedule
  pub floor_is : (k : Key) → floor_of k schedule ≡ floor k notes
  pub backoff_is : (k : Key) → backoff_of k schedule ≡ backoff k notes
  pub queue : IsQueue schedule.queue
  pub moments_once : IsDistinct same_key (keys_of schedule.delays.moments)
  pub failures_once : IsDistinct same_key (keys_of schedule.delays.failures)
