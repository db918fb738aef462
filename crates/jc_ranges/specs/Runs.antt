-- How runs of consecutive numbers stand and join, and what the steps of writing and reading a text do.
use Rattle.std.specs.Prelude.{◌≡◌, ◌≢◌, ◌⊎◌, ℕ, zero, suc, ◌<◌, ◌≤◌, ◌==◌, Bool, false, Option, None, Some, List, length, take, drop, slice_get, slice_index}
use Rattle.std.specs.Fmt.{decimal}
use Rattle.std.specs.List.{AllByRecursion, flat_map}
use Rattle.jc_ranges.specs.declared.parse.RangesFault.{RangesFault}
use Rattle.jc_ranges.specs.declared.parse.RangesFault.TheVariants.{BadRanges, Want}
use Rattle.jc_ranges.specs.Texts.{numbers, element, IsRunFrom, StandApart, BreaksAt}
use Rattle.jc_ranges.specs.declared.runs.Run.{Run}
use Rattle.jc_ranges.specs.declared.bounds.TheConstants.{GREATEST_INDEX}

-- The runs stand apart, and name so many numbers.
pub record AreCounted (rs : List Run) (count : ℕ) : Type 0 where
  pub apart : StandApart 0 rs
  pub counted : count ≡ length (flat_map numbers rs)

-- The runs before the place end below n, and the others at n or above.
pub record PartsAt (n : ℕ) (rs : List Run) (place : ℕ) : Type 0 where
  pub within : place ≤ length rs
  pub below : AllByRecursion (λ r. r.last < n) (take place rs)
  pub above : AllByRecursion (λ r. n ≤ r.last) (drop place rs)

-- Whether a run ends right before n.
abbrev pub ends_before : ℕ → Option Run → Bool
ends_before n None = false
ends_before n (Some r) = n == suc r.last

-- Whether the run before a place ends right before n.
abbrev pub joins_before : ℕ → List Run → ℕ → Bool
joins_before n rs zero = false
joins_before n rs (suc i) = ends_before n (slice_get rs i)

-- Whether a run begins right behind n.
abbrev pub joins_after : ℕ → Option Run → Bool
joins_after n None = false
joins_after n (Some r) = r.first == suc n

-- The element names the numbers of a run that begins at `low` or above.
pub record NamesRun (low : ℕ) (e : List ℕ) (r : Run) : Type 0 where
  pub run : IsRunFrom low r
  pub spelled : e ≡ element r

-- The element names no numbers of a run that begins at `low` or above.
abbrev pub NamesNone : ℕ → List ℕ → Type 0
NamesNone low e = (r : Run) → NamesRun low e r → ⊥

-- The words are the decimal digits of two numbers, the second above the first; and of no such two.
abbrev pub ArePair : List ℕ → List ℕ → ℕ × ℕ → Type 0
ArePair first last pair = (pair.0 < pair.1) × (pair.1 ≤ GREATEST_INDEX) × (first ≡ decimal pair.0) × (last ≡ decimal pair.1)

abbrev pub AreNoPair : List ℕ → List ℕ → Type 0
AreNoPair first last = (m n : ℕ) → m < n → n ≤ GREATEST_INDEX → first ≡ decimal m → last ≢ decimal n

-- The word is the decimal digits of n, without leading zeros; and of no number.
abbrev pub IsNumeral : List ℕ → ℕ → Type 0
IsNumeral word n = (n ≤ GREATEST_INDEX) × (word ≡ decimal n)

abbrev pub IsNoNumeral : List ℕ → Type 0
IsNoNumeral word = (n : ℕ) → n ≤ GREATEST_INDEX → word ≢ decimal n

-- The word is `0`, or begins with neither a zero nor a plus.
abbrev pub BeginsPlainly : List ℕ → Type 0
BeginsPlainly word =
    let first = slice_index word 0 in ((first ≡ 48) × (length word ≡ 1)) ⊎ ((first ≢ 48) × (first ≢ 43))

-- A fault is the text's where it says what breaks the form of the text, or memory was refused.
abbrev pub IsFaultOf : List ℕ → RangesFault → Type 0
IsFaultOf text (BadRanges at) = BreaksAt text at
IsFaultOf text Want = Unit {0}
