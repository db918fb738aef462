-- What a legal history of one controller keeps, so that a sync never makes too many pods: over the
-- log and the controller's notes.
--     IsFlight log notes w b     what is known of a worker's sync
--     IsBounded log notes        what is known of the caches and of all syncs
use Rattle.std.specs.Prelude.{◌≡◌, ℕ, ◌+◌, ◌-◌, ◌≤◌, max, List, length, Some}
use Rattle.jc_types.specs.declared.numbers.Version.{Version}
use Rattle.jc_types.specs.declared.objects.Entry.{Entry}
use Rattle.jc_types.specs.declared.objects.KeyNames.{KeyNames as Key}
use Rattle.jc_types.specs.declared.objects.Kind.{Kind}
use Rattle.jc_states.specs.declared.bases.Basis.{Basis}
use Rattle.jc_log.specs.Log.{upto}
use Rattle.jc_plan.specs.Plans.{planned}
use Rattle.jc_ledger.specs.Flights.{IsBasisOf}
use Rattle.jc_history.specs.Notes.{Note}
use Rattle.jc_history.specs.Numbers.{number}
use Rattle.jc_history.specs.Registers.{floor, made, register}
use Rattle.jc_bounds.specs.Work.{last_work, pods_made}

-- The pods that were made for the key, with those that the sync is still to make, are no more than
-- those that it saw made with all that it makes.
pub record IsFlight (log : List Entry) (notes : List Note) (w : ℕ) (b : Basis) : Type 0 where
  pub basis : IsBasisOf log b
  pub made : pods_made b.key log + (length (planned b).creates - length (made w notes))
      ≤ pods_made b.key (upto b.pods_at.0 log) + length (planned b).creates

-- Each work of a sync is seen by each cache, or the key's floor tells of it.
pub record IsBounded (log : List Entry) (notes : List Note) : Type 0 where
  pub seen : (k : Key) (kind : Kind) (m : Version) → number kind notes ≡ Some m
      → last_work k log ≤ max m.0 (floor k notes).0
  pub flights : (w : ℕ) (b : Basis) → register w notes ≡ Some b → IsFlight log notes w b
