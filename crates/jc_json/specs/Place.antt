-- Where a value stands in a JSON document. The path of the whole document is empty.
use Rattle.std.specs.Prelude.{ℕ, List, [], ◌∷◌, ◌++◌, codes, decimal}

-- the path of a member: names are joined by a point
unfoldable pub path_to : List ℕ → List ℕ → List ℕ
path_to [] name = name
path_to (first ∷ rest) name = (first ∷ rest) ++ (codes "." ++ name)

-- the path of an item of a list: its place from 0 in brackets
unfoldable pub path_at : List ℕ → ℕ → List ℕ
path_at path index = path ++ (codes "[" ++ (decimal index ++ codes "]"))
