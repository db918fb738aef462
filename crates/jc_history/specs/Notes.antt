-- What a controller has taken note of since its last restart, the newest note first. A note is an event of the
-- controller with what the log says of it filled in, so that the words on what a controller has need no log.
--     Note                 one event
--     newest tells notes   what the newest note tells of those that tell something
use Rattle.std.specs.Prelude.{ℕ, List, [], ◌∷◌, Option, None}
use Rattle.std.specs.Option.{option_or}
use Rattle.jc_control.specs.declared.ends.SyncEnd.{SyncEnd}
use Rattle.jc_types.specs.declared.actions.Fault.{Fault}
use Rattle.jc_types.specs.declared.numbers.Version.{Version}
use Rattle.jc_types.specs.declared.objects.KeyNames.{KeyNames as Key}
use Rattle.jc_types.specs.declared.objects.Kind.{Kind}
use Rattle.jc_types.specs.declared.replies.Answer.{Answer}
use Rattle.jc_types.specs.declared.replies.Request.{Request}
use Rattle.jc_states.specs.declared.bases.Basis.{Basis}

-- What a controller takes note of.
pub data Note : Type 0 where
  -- A cache was listed at a version: the keys of the Jobs, or of the owners of the pods, in ascending UID.
  Listed : Kind → Version → List Key → Note
  -- A cache was told of the entry of a version: the key of its Job, or of its pod's owner, where it is of the
  -- cache's kind.
  Told : Kind → Version → Option Key → Note
  -- The cache had fallen out of the window.
  Expired : Kind → Note
  -- The worker began a sync of this basis.
  Began : ℕ → Basis → Note
  -- A begin found the key first in line and a cache behind.
  SentBack : Key → Note
  -- The worker's sync made the request and was answered so.
  Asked : ℕ → Basis → Request → Answer → Note
  -- The worker's sync ended so at the moment.
  Ended : ℕ → Basis → SyncEnd → ℕ → Note
  -- A fault was put before the worker's next request.
  Faulted : ℕ → Fault → Note
  -- The clock went to the moment.
  Ticked : ℕ → Note

module _ {A B : Type 0} (tells : A → Option B) where
  -- What the newest tells of those that tell something.
  abbrev pub newest : List A → Option B
  newest [] = None
  newest (x ∷ older) = option_or (tells x) (newest older)
