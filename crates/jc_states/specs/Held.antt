-- The indexes that pods hold, in ascending order and each as often as a pod holds it.
--     times n indexes             how often the index is among them
--     repeats indexes             how many of them are there once more
--     ClimbsFrom low indexes     they ascend, and none is below the bound
--     IsAscending indexes         they ascend
--     place_for n indexes          the place of the first that is at least n
--     is_between first last n     n is one from the first up to the last
use Rattle.std.specs.Prelude.{ℕ, suc, ◌+◌, ◌≤◌, ◌==◌, ◌&&◌, nat_le, nat_lt, Bool, List, [], ◌∷◌, filter, length, if◌then◌else◌}

-- How often the index is among them.
abbrev pub times : ℕ → List ℕ → ℕ
times n indexes = length (filter (λ m. m == n) indexes)

-- How many of them are there once more behind their own place.
abbrev pub repeats : List ℕ → ℕ
repeats [] = 0
repeats (n ∷ indexes) = repeats indexes + (if nat_lt 0 (times n indexes) then 1 else 0)

-- They ascend, and none is below the bound. An index may be there more than once.
abbrev pub ClimbsFrom : ℕ → List ℕ → Type 0
ClimbsFrom low [] = Unit {0}
ClimbsFrom low (n ∷ indexes) = (low ≤ n) × ClimbsFrom n indexes

-- They ascend.
abbrev pub IsAscending : List ℕ → Type 0
IsAscending indexes = ClimbsFrom 0 indexes

-- The place of the first that is at least this one; past the last where there is none.
abbrev pub place_for : ℕ → List ℕ → ℕ
place_for n [] = 0
place_for n (m ∷ indexes) = if nat_lt m n then suc (place_for n indexes) else 0

-- It is one from the first up to the last.
abbrev pub is_between : ℕ → ℕ → ℕ → Bool
is_between first last n = nat_le first n && nat_le n last
