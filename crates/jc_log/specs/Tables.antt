-- A table as the list of its rows, each a key with a value, in the order in which the keys came.
--     at same table k           the value at k
--     puts same table k v       with v at k: in the place of the old value, or in a new row at the end
--     takes same table k        without the row of k
--     Sets same old new k w     new has w at k, and is as old at every other key
-- `same` tells whether two keys are the same; the key that is written or looked up stands first.
use Rattle.std.specs.Prelude.{◌≡◌, Bool, List, [], ◌∷◌, if◌then◌else◌, Option}
use Rattle.std.specs.Map.{lookup, remove_entry}

module _ {K V : Type 0} (same : K → K → Bool) where
  -- The value at the key.
  abbrev pub at : List (K × V) → K → Option V
  at table k = lookup (same k) table

  -- With the value at the key: in the place of the old value, or in a new row at the end.
  abbrev pub puts : List (K × V) → K → V → List (K × V)
  puts [] k v = (k, v) ∷ []
  puts (row ∷ rows) k v = if same k row.0 then (row.0, v) ∷ rows else row ∷ puts rows k v

  -- Without the row of the key.
  abbrev pub takes : List (K × V) → K → List (K × V)
  takes table k = remove_entry (same k) table

  -- The new table has this at the key, and is as the old one at every other key.
  abbrev pub Sets : List (K × V) → List (K × V) → K → Option V → Type 0
  Sets old new k there = (q : K) → at new q ≡ (if same k q then there else at old q)
