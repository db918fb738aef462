-- The texts of sets of numbers.
use Rattle.std.specs.Prelude.{◌≡◌, ◌≢◌, ℕ, suc, ◌+◌, ◌-◌, ◌≤◌, List, [], ◌∷◌, ◌++◌, map, length, ◌==◌, nat_lt, if◌then◌else◌, codes}
use Rattle.std.specs.Fmt.{decimal}
use Rattle.std.specs.List.{range_with_len, flat_map, join_with_byte, slice_split, sum_by}
use Rattle.jc_ranges.specs.declared.bounds.TheConstants.{GREATEST_INDEX}
use Rattle.jc_ranges.specs.declared.runs.Run.{Run}

-- One number, as a run.
abbrev pub single : ℕ → Run
single n = record { first = n; last = n }

-- The numbers of a run, from the first to the last.
abbrev pub numbers : Run → List ℕ
numbers r = range_with_len r.first (suc r.last - r.first)

-- The element that names the numbers of a run: `7` for one number, `7-9` for more.
abbrev pub element : Run → List ℕ
element r = if r.first == r.last then decimal r.first else decimal r.first ++ (codes "-" ++ decimal r.last)

-- The elements of the runs, joined by commas.
abbrev pub joined : List Run → List ℕ
joined rs = join_with_byte 44 (map element rs)

-- The runs with x before them: x goes into the first run where that begins with the next number.
abbrev pub with_front_run : ℕ → List Run → List Run
with_front_run x [] = single x ∷ []
with_front_run x (r ∷ rs) = if r.first == suc x then (record { first = x; last = r.last }) ∷ rs else single x ∷ r ∷ rs

-- The cut of increasing numbers into maximal runs of consecutive numbers.
abbrev pub runs : List ℕ → List Run
runs [] = []
runs (x ∷ xs) = with_front_run x (runs xs)

-- What is written for a maximal run: a run of three numbers or more as one element, a shorter one as
-- an element for each number.
abbrev pub written : Run → List Run
written r = if nat_lt (suc r.first) r.last then r ∷ [] else map single (numbers r)

-- The text of a set.
unfoldable pub ranges_text : List ℕ → List ℕ
ranges_text xs = joined (flat_map written (runs xs))

-- A run of numbers from `low` on and below 100,000.
pub record IsRunFrom (low : ℕ) (r : Run) : Type 0 where
  pub above : low ≤ r.first
  pub ordered : r.first ≤ r.last
  pub small : r.last ≤ GREATEST_INDEX

-- The runs stand apart: between two of them at least one number is missing, and the first begins at
-- `low` or above.
abbrev pub StandApart : ℕ → List Run → Type 0
StandApart low [] = Unit {0}
StandApart low (r ∷ rs) = IsRunFrom low r × StandApart (suc (suc r.last)) rs

-- The runs rise: each begins above the end of the one before, the first at `low` or above.
abbrev pub AreRising : ℕ → List Run → Type 0
AreRising low [] = Unit {0}
AreRising low (r ∷ rs) = IsRunFrom low r × AreRising (suc r.last) rs

-- The text names the set: its elements name runs that rise, and their numbers are the members.
pub record NamesSet (text xs : List ℕ) : Type 0 where
  pub named : List Run
  pub rising : AreRising 0 named
  pub spelled : text ≡ joined named
  pub members : xs ≡ flat_map numbers named

-- The elements of a text: what stands between its commas. The empty text has none.
abbrev pub elements : List ℕ → List (List ℕ)
elements [] = []
elements (c ∷ cs) = slice_split (λ b. b == 44) (c ∷ cs)

-- The first element that breaks the form begins at `at`: those before it name runs that rise, and it
-- names no run that may follow them. Each of those before it is followed by its comma.
pub record BreaksAt (text : List ℕ) (at : ℕ) : Type 0 where
  pub before : List Run
  pub broken : List ℕ
  pub after : List (List ℕ)
  pub cut : elements text ≡ map element before ++ broken ∷ after
  pub rising : AreRising 0 before
  pub breaks : (r : Run) → AreRising 0 (before ++ r ∷ []) → broken ≢ element r
  pub place : at ≡ sum_by (λ r. length (element r) + 1) before
