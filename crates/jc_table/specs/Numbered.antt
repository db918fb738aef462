-- The rows of a table under numbers.
--     key_numbers rows      each key with the number of its row
--     Ascend low next rows  the numbers ascend, none is below the one bound, and all are below the other
--     AreNumbered same rows numbers next  the rows stand under ascending numbers, no key twice, and each key has its row's number
use Rattle.std.specs.Prelude.{◌≡◌, ℕ, ◌+◌, ◌<◌, ◌≤◌, Bool, List, [], ◌∷◌, map}
use Rattle.std.specs.List.{IsDistinct}
use Rattle.std.specs.Map.{keys_of, values_of}
use Rattle.jc_log.specs.Tables.{at}

module _ {K V : Type 0} where
  -- Each key with the number of its row.
  abbrev pub key_numbers : List (ℕ × (K × V)) → List (K × ℕ)
  key_numbers rows = map (λ row. (row.1.0, row.0)) rows

  -- The numbers ascend, none twice, none below the one bound, and none from the other on.
  abbrev pub Ascend : ℕ → ℕ → List (ℕ × (K × V)) → Type 0
  Ascend low next [] = Unit {0}
  Ascend low next (row ∷ rows) = (low ≤ row.0) × (row.0 < next) × Ascend (row.0 + 1) next rows

  -- The rows stand under ascending numbers, and the number of each key is that of its one row.
  pub record AreNumbered (same : K → K → Bool) (rows : List (ℕ × (K × V))) (numbers : List (K × ℕ)) (next : ℕ) : Type 0 where
    pub ascend : Ascend 0 next rows
    pub distinct : IsDistinct same (keys_of (values_of rows))
    pub known : (k : K) → at same numbers k ≡ at same (key_numbers rows) k
