-- Where the caches of a controller have come to.
--     IsUpToDate notes log     each cache has seen the whole log
--     IsAtMost n number        the version, where there is one, is at most n
--     basis_at_end notes log now k     what a sync of the key begins with, where they have
--     Placed log               the version in each entry is at most its place
use Rattle.std.specs.Prelude.{◌≡◌, ℕ, ◌≤◌, List, [], ◌∷◌, length, Option, Some, None}
use Rattle.jc_types.specs.declared.numbers.Version.{Version}
use Rattle.jc_types.specs.declared.objects.Entry.{Entry}
use Rattle.jc_types.specs.declared.objects.KeyNames.{KeyNames as Key}
use Rattle.jc_types.specs.declared.objects.Kind.{Kind}
use Rattle.jc_states.specs.declared.bases.Basis.{Basis}
use Rattle.jc_log.specs.Writes.{version_of}
use Rattle.jc_history.specs.Fresh.{basis}
use Rattle.jc_history.specs.Notes.{Note}
use Rattle.jc_history.specs.Numbers.{number}
use Rattle.jc_control.specs.Schedules.{log_end}

-- Each cache has seen the whole log.
abbrev pub IsUpToDate : List Note → List Entry → Type 0
IsUpToDate notes log = (kind : Kind) → number kind notes ≡ Some (log_end log)

-- What a sync of the key begins with, where each cache has.
abbrev pub basis_at_end : List Note → List Entry → ℕ → Key → Basis
basis_at_end notes log now k = basis notes log now k (log_end log) (log_end log)

-- The version, where there is one, is at most n.
abbrev pub IsAtMost : ℕ → Option Version → Type 0
IsAtMost n None = Unit {0}
IsAtMost n (Some version) = version.0 ≤ n

-- The version in each entry is at most its place.
abbrev pub Placed : List Entry → Type 0
Placed [] = Unit {0}
Placed (e ∷ older) = (version_of e ≤ length (e ∷ older)) × Placed older
