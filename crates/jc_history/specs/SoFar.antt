-- The requests of a sync, read from its answers.
--     is_write_first ask           the next request writes the first status
--     so_far basis made            the sync after these requests and answers, the newest first
--     HasMadeSteps sync made       so far the sync has come, in what it sends and asks next
use Rattle.std.specs.Prelude.{◌≡◌, Bool, true, false, List, [], length, drop, slice_get, Option, Some, None}
use Rattle.jc_plan.specs.Plans.{planned}
use Rattle.jc_asks.specs.declared.asks.Ask.{Ask}
use Rattle.jc_asks.specs.declared.asks.Ask.TheVariants.{WriteFirst}
use Rattle.jc_asks.specs.Readings.{gone_in, next_ask, requests}
use Rattle.jc_asks.specs.Sends.{sends_of}
use Rattle.jc_asks.specs.Steps.{Sync}
use Rattle.jc_types.specs.declared.replies.Answer.{Answer}
use Rattle.jc_types.specs.declared.replies.Request.{Request}
use Rattle.jc_states.specs.declared.bases.Basis.{Basis}

-- The next request writes the first status.
abbrev pub is_write_first : Option Ask → Bool
is_write_first (Some WriteFirst) = true
is_write_first other = false

-- The sync as far as its answers need it: the next request is the first that was not made.
abbrev pub so_far : Basis → List (Request × Answer) → Sync
so_far basis made = record {
  flight = record { basis = basis; written = None; sends = sends_of basis made; released = [] };
  left = drop (length made) (requests (planned basis) (gone_in made));
}

-- So far the sync has come: what it sends, and what it asks next.
pub record HasMadeSteps (sync : Sync) (made : List (Request × Answer)) : Type 0 where
  pub sends : sync.flight.sends ≡ sends_of sync.flight.basis made
  pub next : next_ask (planned sync.flight.basis) made ≡ slice_get sync.left 0
