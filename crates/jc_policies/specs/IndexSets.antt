-- The set that a text names, as a function of the text: its elements are the runs of the set, in their order.
--     run_of text      the run whose element is that text
--     set_of text      the members of the set that the text names
use Rattle.std.specs.Prelude.{ℕ, suc, List, [], ◌∷◌, Bool, ◌&&◌, nat_le, bytes_eq, map, Option, Some, None, option_and_then, option_map, if◌then◌else◌}
use Rattle.std.specs.List.{find, flat_map, range_with_len}
use Rattle.jc_ranges.specs.declared.bounds.TheConstants.{GREATEST_INDEX}
use Rattle.jc_ranges.specs.declared.runs.Run.{Run}
use Rattle.jc_ranges.specs.Texts.{element, elements, numbers}

-- the numbers from 0 to the greatest
unfoldable pub numbers_to : ℕ → List ℕ
numbers_to greatest = range_with_len 0 (suc greatest)

unfoldable pub all_indexes : List ℕ
all_indexes = numbers_to GREATEST_INDEX

-- each two indexes as a first and a last one
unfoldable pub all_pairs : List Run
all_pairs = flat_map (λ first. map (λ last. record { first = first; last = last }) all_indexes) all_indexes

-- the run is one of indexes, and its element is that text
abbrev pub is_spelled : List ℕ → Run → Bool
is_spelled text r = (nat_le r.first r.last && nat_le r.last GREATEST_INDEX) && bytes_eq (element r) text

unfoldable pub run_of : List ℕ → Option Run
run_of text = find (is_spelled text) all_pairs

-- the runs of the elements, each from `low` or above the end of the one before
abbrev pub runs_of : ℕ → List (List ℕ) → Option (List Run)
runs_of low [] = Some []
runs_of low (e ∷ es) = option_and_then (λ r.
    if nat_le low r.first then option_map (λ rs. r ∷ rs) (runs_of (suc r.last) es) else None) (run_of e)

unfoldable pub set_of : List ℕ → Option (List ℕ)
set_of text = option_map (flat_map numbers) (runs_of 0 (elements text))
