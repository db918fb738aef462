-- The first line of a text.
use Rattle.std.proofs.Common.{◌≡◌, refl, sym, ◌∙◌, ap, ℕ, ◌+◌, ◌-◌, ◌<◌, ◌==◌, List, [], ◌∷◌, length, take, drop, nat_lt, Bool, true, false, cond, Some, None, arith}
use Rattle.std.specs.List.{position, position_or_len, slice_split}
use Rattle.std.proofs.lemmas.List.{take_rest}
use Rattle.std.proofs.lemmas.List.Splits.{slice_split_first, slice_split_none}
use Rattle.std.proofs.lemmas.List.Sums.{fails_before_first}

abbrev is_end : ℕ → Bool
is_end b = b == 10

-- A text with a line feed at a place begins with the line before it.
pub some_line : (text : List ℕ) (end : ℕ) → position (λ b. b == 10) text ≡ Some end
    → slice_split (λ b. b == 10) text
    ≡ take end text ∷ slice_split (λ b. b == 10) (take (length text - (end + 1)) (drop (end + 1) text))
some_line text end at = by (nat_lt first (length text)) refl at
  where
    first : ℕ
    first = position_or_len (λ b. b == 10) text

    by : (b : Bool) → nat_lt first (length text) ≡ b → cond b (Some first) None ≡ Some end
        → slice_split (λ b. b == 10) text
        ≡ take end text ∷ slice_split (λ b. b == 10) (take (length text - (end + 1)) (drop (end + 1) text))
    by true less is =
        let same : first ≡ end = cc in
        let within : first < length text = grind (arith, less)
        in slice_split_first (λ b. b == 10) text 0 within
        ∙ ap (λ n. take n text ∷ slice_split (λ b. b == 10) (drop (n + 1) text)) same
        ∙ ap (λ rest. take end text ∷ slice_split (λ b. b == 10) rest) (sym (take_rest text (end + 1)))
    by false less is = absurd (cc)

-- A text without one is one line.
pub one_line : (text : List ℕ) → position (λ b. b == 10) text ≡ None → slice_split (λ b. b == 10) text ≡ text ∷ []
one_line text at = by (nat_lt first (length text)) refl at
  where
    first : ℕ
    first = position_or_len (λ b. b == 10) text

    by : (b : Bool) → nat_lt first (length text) ≡ b → cond b (Some first) None ≡ None
        → slice_split (λ b. b == 10) text ≡ text ∷ []
    by true less is = absurd (cc)
    by false less is =
        slice_split_none (λ b. b == 10) text
        (λ k d within. fails_before_first (λ b. b == 10) text k d (grind (arith, less, within)))
