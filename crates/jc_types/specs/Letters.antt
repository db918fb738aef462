-- A number that tells a text from most others, and a text of at most 7 bytes from all.
--     front bytes         how many bytes there are, and those up to the seventh, with zeros behind the last
--     hash_of bytes       a hash of all bytes
--     code_of bytes       the front of a short text as one number; of a longer one its hash, with 8 as the last byte
--     IsCoded code bytes  the text has this code, and the front of a short one stands in bytes
--     text_spelled s      the text, wherever it stands
use Rattle.std.specs.Prelude.{◌≡◌, ℕ, ◌+◌, ◌*◌, ◌/◌, ◌<◌, ◌≤◌, List, [], ◌∷◌, length, get_or, nat_le, string_bytes, if◌then◌else◌}
use Rattle.std.specs.Int.{w64, from_le_bytes}
use Rattle.std.specs.Hash.FoldHasher as folding
use Rattle.jc_types.specs.declared.letters.Spelled.{Spelled}
use Rattle.jc_types.specs.declared.letters.Spelled.TheVariants as spelled

-- How many bytes there are, and those up to the seventh, with zeros behind the last.
abbrev pub front : List ℕ → List ℕ
front bytes =
    length bytes ∷ get_or bytes 0 0 ∷ get_or bytes 1 0 ∷ get_or bytes 2 0 ∷ get_or bytes 3 0
    ∷ get_or bytes 4 0 ∷ get_or bytes 5 0 ∷ get_or bytes 6 0 ∷ []

-- A hash of all bytes.
abbrev pub hash_of : List ℕ → ℕ
hash_of bytes = folding.finish (folding.write folding.initial bytes)

-- The front of a text of at most 7 bytes as one number, the length in the last byte. Of a longer one its hash, with 8 there.
abbrev pub code_of : List ℕ → ℕ
code_of bytes =
    if nat_le (length bytes) 7 then from_le_bytes w64 (front bytes) else hash_of bytes / 256 * 256 + 8

-- The text has this code. What stands in the front of a short one are bytes.
pub record IsCoded (code : ℕ) (bytes : List ℕ) : Type 0 where
  pub is : code ≡ code_of bytes
  pub small : length bytes ≤ 7 → (i : ℕ) → get_or (front bytes) i 0 < 256

-- The text, in the value itself or in memory of its own.
abbrev pub text_spelled : Spelled → List ℕ
text_spelled (spelled.InPlace text) = text.bytes
text_spelled (spelled.Apart text) = string_bytes text
