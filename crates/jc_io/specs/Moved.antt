-- How many bytes left a source or came to a sink in one call, where the two tell what they have.
use Rattle.std.specs.Prelude.{ℕ, ◌≡◌, ◌≤◌, List, ◌++◌, length, take, Option}
use Rattle.std.specs.Io.KnownBytes.{Appends, Consumes}

-- some bytes, `count` of them, stood at the front of the source and left it
pub record TakesCount (old : Option (List ℕ)) (new : Option (List ℕ)) (count : ℕ) : Type 0 where
  pub taken : List ℕ
  pub consumes : Consumes old new taken
  pub counted : length taken ≡ count

-- some bytes, at most `limit` of them, stood at the front of the source and left it
pub record TakesAtMost (old : Option (List ℕ)) (new : Option (List ℕ)) (limit : ℕ) : Type 0 where
  pub taken : List ℕ
  pub consumes : Consumes old new taken
  pub within : length taken ≤ limit

-- the sink got the first `count` of these bytes, and nothing else
pub record AppendsFront (old : Option (List ℕ)) (new : Option (List ℕ)) (bytes : List ℕ) : Type 0 where
  pub count : ℕ
  pub within : count ≤ length bytes
  pub appends : Appends old new (take count bytes)

-- some bytes left the source, and stand now behind those that were there before
pub record Moves (old : Option (List ℕ)) (new : Option (List ℕ)) (before : List ℕ) (after : List ℕ) : Type 0 where
  pub moved : List ℕ
  pub consumes : Consumes old new moved
  pub appended : after ≡ before ++ moved
