-- Digits in a text.
use Rattle.std.specs.Prelude.{ℕ, ◌≡◌, ◌+◌, ◌/◌, ◌%◌, ◌<◌, List, slice_index}

-- The number `n`, below 100, stands at `place` in two digits.
pub record IsPairAt (text : List ℕ) (place n : ℕ) : Type 0 where
  pub below : n < 100
  pub tens : slice_index text place ≡ 48 + n / 10
  pub ones : slice_index text (place + 1) ≡ 48 + n % 10
