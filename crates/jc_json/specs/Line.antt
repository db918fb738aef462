-- What a line of input is.
use Rattle.std.specs.Prelude.{ℕ, List, Option, None, if◌then◌else◌}
use Rattle.std.specs.Str.{is_utf8}
use Rattle.serde_json.specs.Data.{Data}
use Rattle.serde_json.specs.Read.{read}

-- the JSON value that a line spells, where it is text and spells one
unfoldable pub data_of : List ℕ → Option Data
data_of line = if is_utf8 line then read line else None
