-- What the text of a value says.
--     number_said low high text     the number from `low` to `high` that the text is the decimal of
--     moment_said text              the moment that the text is the text of
--     lock_said text                the lock that the text names
use Rattle.std.specs.Prelude.{ℕ, List, ◌&&◌, Option, Some, None, bytes_eq, codes, decimal, nat_le, find, if◌then◌else◌}
use Rattle.std.specs.List.{range_with_len}
use Rattle.std.specs.Str.Parse.{digits_value}
use Rattle.jc_moment.specs.Range.{end_of_moments}
use Rattle.jc_moment.specs.Text.{moment_text}
use Rattle.jc_words.specs.declared.words.LockKind.{LockKind}
use Rattle.jc_words.specs.declared.words.LockKind.TheVariants.{Mutex, Turn}

-- The number within the bounds, where the text is how it is written.
abbrev pub number_if : ℕ → ℕ → List ℕ → ℕ → Option ℕ
number_if low high text n = if bytes_eq (decimal n) text && (nat_le low n && nat_le n high) then Some n else None

-- So signs, spaces and zeros in front are refused: no number is written with them.
unfoldable pub number_said : ℕ → ℕ → List ℕ → Option ℕ
number_said low high text = number_if low high text (digits_value 10 text)

-- The moment among all that is written so.
unfoldable pub moment_said : List ℕ → Option ℕ
moment_said text = find (λ second. bytes_eq (moment_text second) text) (range_with_len 0 end_of_moments)

-- The lock that the text names.
abbrev pub lock_said : List ℕ → Option LockKind
lock_said text =
    if bytes_eq text (codes "mutex") then Some Mutex
    else (if bytes_eq text (codes "turn") then Some Turn else None)
