-- The version that a sync's next write of the status sends, and the sync as it begins.
--     sent_first job           that of a sync that has written no status
--     sends_of basis steps     that of a sync that has made these steps
--     new_sync basis           a sync that begins
use Rattle.std.specs.Prelude.{List, [], ◌∷◌, Option, Some, None, unwrap_or}
use Rattle.jc_types.specs.declared.numbers.Version.{Version}
use Rattle.jc_types.specs.declared.objects.Job.{Job}
use Rattle.jc_types.specs.declared.replies.Answer.{Answer}
use Rattle.jc_types.specs.declared.replies.Request.{Request}
use Rattle.jc_states.specs.declared.bases.Basis.{Basis}
use Rattle.jc_plan.specs.Plans.{planned}
use Rattle.jc_asks.specs.Asks.{asks_of, first_written}
use Rattle.jc_asks.specs.Readings.{next_ask}
use Rattle.jc_asks.specs.Steps.{Sync}

-- The version that a sync sends first: that of the Job that it sees.
abbrev pub sent_first : Option Job → Version
sent_first None = record { 0 = 0 }
sent_first (Some job) = job.version

-- The version that the next write of the status sends after these steps, the newest first: what the first write
-- gave, or else the version of the Job that the sync sees.
abbrev pub sends_of : Basis → List (Request × Answer) → Version
sends_of basis [] = sent_first basis.job
sends_of basis (step ∷ steps) =
    unwrap_or (first_written (next_ask (planned basis) steps) step.1) (sends_of basis steps)

-- A sync that begins: all that its plan asks is left, and nothing is written or released.
abbrev pub new_sync : Basis → Sync
new_sync basis = record {
  flight = record { basis = basis; written = None; sends = sent_first basis.job; released = [] };
  left = asks_of (planned basis);
}
