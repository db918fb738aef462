-- Texts of ASCII: decimals, the texts of sets, and names.
use Rattle.std.proofs.Common.{◌≡◌, ℕ, zero, suc, ◌+◌, ◌<◌, ◌/◌, ◌%◌, ◌==◌, Bool, true, false, cond, ◌&&◌, ◌||◌, nat_lt, nat_le, List, [], ◌∷◌, ◌++◌, IsUtf8, refl, sym, ap, ◌∙◌, arith, decimal, true≢false, leb-true, eqb-true, lt-ltb}
use Rattle.std.proofs.lemmas.Bool.{and_parts}
use Rattle.std.specs.Fmt.{digit_glyph, digits, digits_onto}
use Rattle.std.specs.List.{flat_map, list_all}
use Rattle.json.proofs.Printed.Utf8.{IsUtf8-are_ascii, are_ascii}
use Rattle.jc_ranges.specs.declared.runs.Run.{Run}
use Rattle.jc_ranges.specs.Texts.{element, joined, ranges_text, runs, written}
use Rattle.jc_rows.specs.NameForms.{has_length_of_name, is_label, is_part, is_plain}

-- Each byte is of ASCII.
abbrev pub AreAscii : List ℕ → Type 0
AreAscii [] = Unit {0}
AreAscii (x ∷ xs) = (x < 128) × AreAscii xs

ascii_test : (xs : List ℕ) → AreAscii xs → are_ascii xs ≡ true
ascii_test [] all = refl
ascii_test (x ∷ xs) all = ap (λ b. b && are_ascii xs) (lt-ltb x 128 all.0) ∙ ascii_test xs all.1

pub ascii_text : (xs : List ℕ) → AreAscii xs → IsUtf8 xs
ascii_text xs all = IsUtf8-are_ascii xs (ascii_test xs all)

pub ascii_both : (xs ys : List ℕ) → AreAscii xs → AreAscii ys → AreAscii (xs ++ ys)
ascii_both [] ys one other = other
ascii_both (x ∷ xs) ys one other = (one.0, ascii_both xs ys one.1 other)

-- ---- decimals

glyph_ascii : (n : ℕ) → digit_glyph false (n % 10) < 128
glyph_ascii n = by (nat_lt (n % 10) 10)
  where
    by : (b : Bool) → cond b (48 + n % 10) (87 + n % 10) < 128
    by true = omega arith
    by false = omega arith

onto_ascii : (k n : ℕ) (acc : List ℕ) → AreAscii acc → AreAscii (digits_onto k 10 false n acc)
onto_ascii zero n acc all = all
onto_ascii (suc k) n acc all =
    by (onto_ascii k (n / 10) (digit_glyph false (n % 10) ∷ acc) (glyph_ascii n, all)) (n / 10 == 0)
  where
    by : AreAscii (digits_onto k 10 false (n / 10) (digit_glyph false (n % 10) ∷ acc)) → (b : Bool)
        → AreAscii (cond b (digit_glyph false (n % 10) ∷ acc) (digits_onto k 10 false (n / 10) (digit_glyph false (n % 10) ∷ acc)))
    by rest true = (glyph_ascii n, all)
    by rest false = rest

pub decimal_ascii : (n : ℕ) → AreAscii (decimal n)
unfolding digits
decimal_ascii n = onto_ascii 64 n [] tt

-- ---- the texts of sets

element_ascii : (r : Run) → AreAscii (element r)
element_ascii r = by (r.first == r.last)
  where
    by : (b : Bool) → AreAscii (cond b (decimal r.first) (decimal r.first ++ 45 ∷ decimal r.last))
    by true = decimal_ascii r.first
    by false = ascii_both (decimal r.first) (45 ∷ decimal r.last) (decimal_ascii r.first) (omega arith, decimal_ascii r.last)

joined_ascii : (rs : List Run) → AreAscii (joined rs)
joined_ascii [] = tt
joined_ascii (r ∷ []) = element_ascii r
joined_ascii (r ∷ s ∷ rs) = ascii_both (element r) (44 ∷ joined (s ∷ rs)) (element_ascii r) (omega arith, joined_ascii (s ∷ rs))

pub ranges_ascii : (xs : List ℕ) → AreAscii (ranges_text xs)
unfolding ranges_text
ranges_ascii xs = joined_ascii (flat_map written (runs xs))

-- ---- names

name_byte : (b : ℕ) → (is_plain b || b == 45) ≡ true → b < 128
name_byte b is = by (nat_le 97 b) (nat_le b 122) (nat_le 48 b) (nat_le b 57) (b == 45) refl refl refl is
  where
    by : (p q r s t : Bool) → nat_le b 122 ≡ q → nat_le b 57 ≡ s → (b == 45) ≡ t → (((p && q) || (r && s)) || t) ≡ true → b < 128
    by true true r s t i j k e = let few = leb-true b 122 i in omega (arith, few)
    by true false true true t i j k e = let few = leb-true b 57 j in omega (arith, few)
    by true false true false true i j k e = let same = eqb-true b 45 k in omega (arith, same)
    by true false true false false i j k e = absurd (true≢false (sym e))
    by true false false s true i j k e = let same = eqb-true b 45 k in omega (arith, same)
    by true false false s false i j k e = absurd (true≢false (sym e))
    by false q true true t i j k e = let few = leb-true b 57 j in omega (arith, few)
    by false q true false true i j k e = let same = eqb-true b 45 k in omega (arith, same)
    by false q true false false i j k e = absurd (true≢false (sym e))
    by false q false s true i j k e = let same = eqb-true b 45 k in omega (arith, same)
    by false q false s false i j k e = absurd (true≢false (sym e))

bytes_ascii : (s : List ℕ) → list_all (λ b. is_plain b || b == 45) s ≡ true → AreAscii s
bytes_ascii [] all = tt
bytes_ascii (b ∷ s) all =
    let both = and_parts (is_plain b || b == 45) (list_all (λ b. is_plain b || b == 45) s) all in
    (name_byte b both.0, bytes_ascii s both.1)

pub label_ascii : (s : List ℕ) → is_label s ≡ true → AreAscii s
unfolding is_part
label_ascii s is =
    let part = and_parts (has_length_of_name s) (is_part s) is in
    bytes_ascii s ((and_parts (list_all (λ b. is_plain b || b == 45) s) _ part.1).0)
