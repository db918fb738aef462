-- Where the digits of a number end, a text tells the number.
use Rattle.std.proofs.Common.{◌≡◌, ℕ, ◌^◌, ◌<◌, List, [], ◌∷◌, ◌++◌, get_or, drop, decimal, refl, ap, ◌∙◌, arith}
use Rattle.std.specs.Str.Parse.{AllDigits}
use Rattle.std.proofs.lemmas.Fmt.{decimal_is_IsNumeral, decimal_injective}
use Rattle.std.proofs.lemmas.Str.Parse.{tells_digits}

-- Both parts of two lists that are equal, each of digits up to the same byte below all digits.
pub record Parted (ds es xs ys : List ℕ) : Type 0 where
  pub front : ds ≡ es
  pub back : xs ≡ ys

pub digits_end : (stop : ℕ) (ds es xs ys : List ℕ) → stop < 48 → AllDigits 10 ds → AllDigits 10 es
    → ds ++ stop ∷ xs ≡ es ++ stop ∷ ys → Parted ds es xs ys
digits_end stop [] [] xs ys low all other e = record { front = refl; back = ap (drop 1) e }
digits_end stop [] (c ∷ es) xs ys low all other e =
    let digit = (tells_digits.parts c es other).0 in
    let first : stop ≡ c = ap (λ l. get_or l 0 0) e in
    absurd (omega (arith, digit, first))
digits_end stop (d ∷ ds) [] xs ys low all other e =
    let digit = (tells_digits.parts d ds all).0 in
    let first : d ≡ stop = ap (λ l. get_or l 0 0) e in
    absurd (omega (arith, digit, first))
digits_end stop (d ∷ ds) (c ∷ es) xs ys low all other e =
    let first : d ≡ c = ap (λ l. get_or l 0 0) e in
    let rest = digits_end stop ds es xs ys low (tells_digits.parts d ds all).1 (tells_digits.parts c es other).1 (ap (drop 1) e) in
    record { front = ap (λ b. b ∷ ds) first ∙ ap (λ l. c ∷ l) rest.front; back = rest.back }

-- A number and what stands behind it.
pub record Told (m n : ℕ) (xs ys : List ℕ) : Type 0 where
  pub number : m ≡ n
  pub rest : xs ≡ ys

pub number_ends : (stop m n : ℕ) (xs ys : List ℕ) → stop < 48 → m < 2 ^ 64 → n < 2 ^ 64
    → decimal m ++ stop ∷ xs ≡ decimal n ++ stop ∷ ys → Told m n xs ys
number_ends stop m n xs ys low few less e =
    let parts = digits_end stop (decimal m) (decimal n) xs ys low (decimal_is_IsNumeral m few).0.1 (decimal_is_IsNumeral n less).0.1 e in
    record { number = decimal_injective m n few less parts.front; rest = parts.back }
