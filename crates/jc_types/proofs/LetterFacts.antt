-- A text of at most 7 bytes has a code of its own.
use Rattle.std.proofs.Common.{◌≡◌, ℕ, zero, suc, ◌+◌, ◌*◌, ◌/◌, ◌%◌, ◌<◌, ◌≤◌, Bool, true, false, List, [], ◌∷◌, length, get_or, nat_le, refl, sym, ap, ◌∙◌, arith}
use Rattle.std.specs.Int.{w64, from_le_bytes}
use Rattle.std.proofs.lemmas.Bool.{cond-false, cond-true, leb-true}
use Rattle.std.proofs.lemmas.Nat.{le_bytes_8}
use Rattle.jc_types.specs.Letters.{IsCoded, code_of, front, hash_of}

-- Lists of one length that agree at each place are equal.
same-lists : (x y : List ℕ) → length x ≡ length y → ((i : ℕ) → i < length x → get_or x i 0 ≡ get_or y i 0) → x ≡ y
same-lists [] [] e h = refl
same-lists [] (b ∷ y) e h = absurd (omega (arith, e))
same-lists (a ∷ x) [] e h = absurd (omega (arith, e))
same-lists (a ∷ x) (b ∷ y) e h =
    let head = h 0 (omega arith) in
    let tail = same-lists x y (omega (arith, e)) (λ i less. h (suc i) (omega (arith, less))) in
    λ i. head i ∷ tail i

-- Texts of at most 7 bytes with the same front are equal.
module _ (x y : List ℕ) (few : length x ≤ 7) (e : front x ≡ front y) where
  at-place : (i : ℕ) → i < 7 → get_or x i 0 ≡ get_or y i 0
  at-place zero less = ap (λ bytes. get_or bytes 1 0) e
  at-place (suc zero) less = ap (λ bytes. get_or bytes 2 0) e
  at-place (suc (suc zero)) less = ap (λ bytes. get_or bytes 3 0) e
  at-place (suc (suc (suc zero))) less = ap (λ bytes. get_or bytes 4 0) e
  at-place (suc (suc (suc (suc zero)))) less = ap (λ bytes. get_or bytes 5 0) e
  at-place (suc (suc (suc (suc (suc zero))))) less = ap (λ bytes. get_or bytes 6 0) e
  at-place (suc (suc (suc (suc (suc (suc zero)))))) less = ap (λ bytes. get_or bytes 7 0) e
  at-place (suc (suc (suc (suc (suc (suc (suc i))))))) less = absurd (omega (arith, less))

  same-fronts : x ≡ y
  same-fronts = same-lists x y (ap (λ bytes. get_or bytes 0 0) e) (λ i less. at-place i (omega (arith, few, less)))

-- A code whose last byte is below 8 is the front of a short text.
record IsFront (code : ℕ) (bytes : List ℕ) : Type 0 where
  few : length bytes ≤ 7
  is : code ≡ from_le_bytes w64 (front bytes)

short-front : (code : ℕ) (bytes : List ℕ) → code ≡ code_of bytes → code % 256 < 8 → IsFront code bytes
short-front code bytes is low = by (nat_le (length bytes) 7) refl
  where
    by : (b : Bool) → nat_le (length bytes) 7 ≡ b → IsFront code bytes
    by true e = record { few = leb-true (length bytes) 7 e; is = is ∙ cond-true (nat_le (length bytes) 7) (from_le_bytes w64 (front bytes)) (hash_of bytes / 256 * 256 + 8) e }
    by false e = let long = is ∙ cond-false (nat_le (length bytes) 7) (from_le_bytes w64 (front bytes)) (hash_of bytes / 256 * 256 + 8) e in absurd (omega (arith, long, low))

-- Texts with the same code, whose last byte is below 8, are equal.
pub short_codes_differ : (code : ℕ) (x y : List ℕ) → IsCoded code x → IsCoded code y → code % 256 < 8 → x ≡ y
short_codes_differ code x y one two low =
    let f = short-front code x one.is low in
    let g = short-front code y two.is low in
    same-fronts x y f.few (sym (le_bytes_8 (front x) code refl (one.small f.few) f.is) ∙ le_bytes_8 (front y) code refl (two.small g.few) g.is)
