-- Whether a value is written as a text.
use Rattle.std.specs.Prelude.{◌≡◌, ℕ, List, Bool, false, not, ◌&&◌, Some, bytes_eq}
use Rattle.serde_json.specs.Data.{Data}
use Rattle.serde_json.specs.Read.{read}
use Rattle.serde_json.specs.Written.{compact_text, has_float}

-- a value without floats whose compact text is that text
unfoldable pub is_written : List ℕ → Data → Bool
is_written text d = not (has_float d) && bytes_eq (compact_text d) text

-- the text is the data's compact text: without blanks, members in byte order, and whole numbers alone
pub record IsTextOf (text : List ℕ) (d : Data) : Type 0 where
  pub whole : has_float d ≡ false
  pub compact : compact_text d ≡ text
  pub reads : read text ≡ Some d
