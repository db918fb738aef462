-- With what the last syncs of the workers began, as a pass over a history keeps it.
--     is_of worker c w      the worker, if there is one, is this one
--     began_with start      with what a sync began
--     HasStarts past starts each worker has there with what its last sync began, if one did
use Rattle.std.specs.Prelude.{◌≡◌, ℕ, ◌==◌, Bool, false, ◌&&◌, List, Option, Some, None, option_map}
use Rattle.jc_log.specs.Deeds.{Deed}
use Rattle.jc_verdicts.specs.declared.workers.Start.{Start}
use Rattle.jc_verdicts.specs.declared.workers.Starts.{Starts}
use Rattle.jc_verdicts.specs.declared.workers.Worker.{Worker}
use Rattle.jc_verdicts.specs.Workers.{last_start}
use Rattle.jc_ledger.specs.Syncs.{Began, sync_of}

-- The worker, if there is one, is this one.
abbrev pub is_of : Option Worker → ℕ → ℕ → Bool
is_of None c w = false
is_of (Some worker) c w = (worker.controller == c) && (worker.worker == w)

-- With what a sync began.
abbrev pub began_with : Start → Began
began_with start = record {
  key = start.key.now;
  jobs_at = start.jobs_at.0;
  pods_at = start.pods_at.0;
}

-- Each worker has there with what its last sync began, if one did.
abbrev pub HasStarts : List Deed → Starts → Type 0
HasStarts past starts =
    (q : Worker) → option_map began_with (last_start starts q) ≡ sync_of q.controller q.worker past
