-- What the content of a string in a text stands for is a text.
use Rattle.std.proofs.Common.{◌≡◌, ℕ, zero, suc, ◌+◌, ◌*◌, ◌<◌, ◌≤◌, Bool, true, false, cond, ◌&&◌, ◌==◌, nat_lt, nat_le, List, [], ◌∷◌, ◌++◌, length, get_or, Option, Some, None, IfSome, option_and_then, IsUtf8, inl, inr, refl, sym, ap}
use Rattle.std.proofs.Common.{◌∙◌, subst, arith, append_assoc, append-nil, true≢false, eqb-true, ltb-true, lt-ltb, le-ltb, le-leb, leb-true}
use Rattle.std.proofs.lemmas.Option.{none-some, same_Some}
use Rattle.std.proofs.lemmas.Bool.{and_from, and_parts, cases_lt, ne_eqb}
use Rattle.std.proofs.lemmas.Str.{IsUtf8-append, IsUtf8-nil, IsUtf8-encode, IsUtf8-past_char, encode_ascii, inside_one, length-encode, len_utf8_bounds}
use Rattle.std.specs.Char.{IsScalar, digit_value, encode_utf8, is_digit}
use lib.Utf8.{scalars, encode, encodes, low_scalar}
use lib.ListN.{length-append}
use Rattle.json.specs.Text.{after_backslash, after_high, after_u, code_unit, content, is_high_surrogate, is_low_surrogate, plain, prepend, short_escape, surrogate_pair}

-- ---- a text from its first character on

pub ascii_rest : (x : ℕ) (xs : List ℕ) → x < 128 → IsUtf8 (x ∷ xs) → IsUtf8 xs
ascii_rest x xs small u = IsUtf8-past_char (x ∷ xs) xs x u (sym (ap (λ l. l ++ xs) (encode_ascii x small)))

pub one_ascii : (x : ℕ) → x < 128 → IsUtf8 (x ∷ [])
one_ascii x small = subst IsUtf8 (encode_ascii x small) (IsUtf8-encode x (low_scalar x (omega (arith, small))))

abbrev AreHigh : List ℕ → Type 0
AreHigh [] = Unit {0}
AreHigh (x ∷ xs) = (128 ≤ x) × AreHigh xs

high_by : (xs : List ℕ) → ((k : ℕ) → k < length xs → 128 ≤ get_or xs k 0) → AreHigh xs
high_by [] h = tt
high_by (x ∷ xs) h = (h 0 (omega arith), high_by xs (λ k below. h (suc k) (omega (arith, below))))

high_char : (c : ℕ) → 128 ≤ c → AreHigh (encode c)
high_char c big =
    high_by (encode c) (λ k below. elim (cases_lt (get_or (encode c) k 0) 128) [
      | inl low ↦ absurd (omega (arith, inside_one c [] (encode c) k (sym (append-nil _)) below low, low, big))
      | inr h ↦ h
    ])

-- A text whose first byte is none of ASCII begins with a character of such bytes.
record Split (xs : List ℕ) : Type 0 where
  char : ℕ
  rest : List ℕ
  is : xs ≡ encode char ++ rest
  scalar : IsScalar char
  high : AreHigh (encode char)
  less : length rest < length xs
  text : IsUtf8 rest

split : (x : ℕ) (xs : List ℕ) → 128 ≤ x → IsUtf8 (x ∷ xs) → Split (x ∷ xs)
split x xs big u = by u.0 u.1.0 u.1.1
  where
    by : (cs : List ℕ) → scalars cs ≡ true → encodes cs ≡ x ∷ xs → Split (x ∷ xs)
    by [] ok e = absurd (omega (arith, ap length e))
    by (c ∷ cs) ok e = elim (cases_lt c 128) [
      | inl small ↦
          let first : c ≡ x = ap (λ l. get_or l 0 0) (sym (ap (λ l. l ++ encodes cs) (encode_ascii c small)) ∙ e) in
          absurd (omega (arith, first, small, big))
      | inr high ↦ record {
        char = c;
        rest = encodes cs;
        is = sym e;
        scalar = (and_parts _ _ ok).0;
        high = high_char c high;
        less = omega (arith, ap length e, length-append (encode c) (encodes cs), length-encode c, (len_utf8_bounds c).0);
        text = (cs, ((and_parts _ _ ok).1, refl));
      }
    ]

-- ---- bytes that stand for themselves

prepend-prepend : (a b : List ℕ) (r : Option (List ℕ)) → prepend a (prepend b r) ≡ prepend (a ++ b) r
prepend-prepend a b None = refl
prepend-prepend a b (Some s) = ap Some (sym (append_assoc a b s))

prepended : (bytes : List ℕ) (r : Option (List ℕ)) → IsUtf8 bytes → IfSome r IsUtf8 → IfSome (prepend bytes r) IsUtf8
prepended bytes None u h = tt
prepended bytes (Some s) u h = IsUtf8-append bytes s u h

high_run : (front rest : List ℕ) → AreHigh front → content plain (front ++ rest) ≡ prepend front (content plain rest)
unfolding content
high_run [] rest all = by (content plain rest)
  where
    by : (r : Option (List ℕ)) → r ≡ prepend [] r
    by None = refl
    by (Some s) = refl
high_run (x ∷ front) rest all =
    let big = all.0 in
    rw (ne_eqb x 34 (λ e. omega (arith, e, big)), ne_eqb x 92 (λ e. omega (arith, e, big)), le-ltb x 32 (omega (arith, big)))
    (ap (prepend (x ∷ [])) (high_run front rest all.1) ∙ prepend-prepend (x ∷ []) front (content plain rest))

-- ---- escapes

short_ascii : (x c : ℕ) → short_escape x ≡ Some c → (x < 128) × (c < 128)
unfolding short_escape
short_ascii x c e = grind arith

hex_ascii : (x : ℕ) → is_digit x 16 ≡ true → x < 128
hex_ascii x e = grind arith

hex_value : (x : ℕ) → is_digit x 16 ≡ true → digit_value x < 16
hex_value x e = ltb-true _ _ e

record IsUnit (a b c d u : ℕ) : Type 0 where
  first : a < 128
  second : b < 128
  third : c < 128
  fourth : d < 128
  few : u < 65536

value_few : (a b c d : ℕ) → digit_value a < 16 → digit_value b < 16 → digit_value c < 16 → digit_value d < 16
    → digit_value a * 4096 + digit_value b * 256 + digit_value c * 16 + digit_value d < 65536
value_few a b c d p q r s = omega (arith, p, q, r, s)

unit_is : (a b c d u : ℕ) → code_unit a b c d ≡ Some u → IsUnit a b c d u
unfolding code_unit
unit_is a b c d u e = by (is_digit a 16) (is_digit b 16) (is_digit c 16) (is_digit d 16) refl refl refl refl e
  where
    value : ℕ
    value = digit_value a * 4096 + digit_value b * 256 + digit_value c * 16 + digit_value d

    by : (p q r s : Bool) → is_digit a 16 ≡ p → is_digit b 16 ≡ q → is_digit c 16 ≡ r → is_digit d 16 ≡ s → cond (p && q && r && s) (Some value) None ≡ Some u → IsUnit a b c d u
    by true true true true i j k l e =
        let same : value ≡ u = same_Some value u e in
        record {
          first = hex_ascii a i;
          second = hex_ascii b j;
          third = hex_ascii c k;
          fourth = hex_ascii d l;
          few = subst (λ n. n < 65536) same (value_few a b c d (hex_value a i) (hex_value b j) (hex_value c k) (hex_value d l));
        }
    by true true true false i j k l e = absurd (none-some u e)
    by true true false s i j k l e = absurd (none-some u e)
    by true false r s i j k l e = absurd (none-some u e)
    by false q r s i j k l e = absurd (none-some u e)

-- ---- characters of escapes

scalar_above : (u : ℕ) → 57344 ≤ u → u < 1114112 → IsScalar u
scalar_above u low high = rw (le-ltb u 55296 (omega (arith, low)), le-leb 57344 u low, lt-ltb u 1114112 high) refl

scalar_unit : (u : ℕ) → u < 65536 → is_high_surrogate u ≡ false → is_low_surrogate u ≡ false → IsScalar u
scalar_unit u few high low = elim (cases_lt u 55296) [
  | inl small ↦ low_scalar u small
  | inr big ↦ elim (cases_lt u 56320) [
    | inl less ↦ absurd (true≢false (sym (and_from _ _ (le-leb 55296 u big) (lt-ltb u 56320 less)) ∙ high))
    | inr more ↦ elim (cases_lt u 57344) [
      | inl less ↦ absurd (true≢false (sym (and_from _ _ (le-leb 56320 u more) (lt-ltb u 57344 less)) ∙ low))
      | inr above ↦ scalar_above u above (omega (arith, few))
    ]
  ]
]

scalar_pair : (h l : ℕ) → is_high_surrogate h ≡ true → is_low_surrogate l ≡ true → IsScalar (surrogate_pair h l)
scalar_pair h l high low =
    let a = and_parts (nat_le 55296 h) (nat_lt h 56320) high in
    let b = and_parts (nat_le 56320 l) (nat_lt l 57344) low in
    let more : 55296 ≤ h = leb-true 55296 h a.0 in
    let less : h < 56320 = ltb-true h 56320 a.1 in
    let most : l < 57344 = ltb-true l 57344 b.1 in
    scalar_above (surrogate_pair h l) (omega arith) (omega (arith, more, less, most))

-- ---- the whole content

-- So it is of each shorter text.
abbrev Goes : ℕ → Type 0
Goes n = (xs : List ℕ) → length xs < n → IsUtf8 xs → IfSome (content plain xs) IsUtf8

module _ (n : ℕ) (goes : Goes n) where
  short : (x : ℕ) (xs : List ℕ) → length xs < n → IsUtf8 (x ∷ xs) → IfSome (option_and_then (λ c. prepend (c ∷ []) (content plain xs)) (short_escape x)) IsUtf8
  short x xs few u = by (short_escape x) refl
    where
      by : (o : Option ℕ) → short_escape x ≡ o → IfSome (option_and_then (λ c. prepend (c ∷ []) (content plain xs)) o) IsUtf8
      by None e = tt
      by (Some c) e =
          let both = short_ascii x c e in
          prepended (c ∷ []) (content plain xs) (one_ascii c both.1) (goes xs few (ascii_rest x xs both.0 u))

  four_rest : (a b c d u : ℕ) (xs : List ℕ) → code_unit a b c d ≡ Some u → IsUtf8 (a ∷ b ∷ c ∷ d ∷ xs) → IsUtf8 xs
  four_rest a b c d u xs e t =
      let is = unit_is a b c d u e in
      ascii_rest d xs is.fourth (ascii_rest c (d ∷ xs) is.third (ascii_rest b (c ∷ d ∷ xs) is.second (ascii_rest a (b ∷ c ∷ d ∷ xs) is.first t)))

  second_half : (h : ℕ) (a b c d : ℕ) (xs : List ℕ) → is_high_surrogate h ≡ true → length xs < n → IsUtf8 (a ∷ b ∷ c ∷ d ∷ xs)
      → IfSome (option_and_then (λ l. cond (is_low_surrogate l) (prepend (encode_utf8 (surrogate_pair h l)) (content plain xs)) None) (code_unit a b c d)) IsUtf8
  second_half h a b c d xs high few t = by (code_unit a b c d) refl
    where
      low : (l : ℕ) → code_unit a b c d ≡ Some l → (p : Bool) → is_low_surrogate l ≡ p → IfSome (cond p (prepend (encode_utf8 (surrogate_pair h l)) (content plain xs)) None) IsUtf8
      low l e true is = prepended (encode (surrogate_pair h l)) (content plain xs) (IsUtf8-encode (surrogate_pair h l) (scalar_pair h l high is)) (goes xs few (four_rest a b c d l xs e t))
      low l e false is = tt

      by : (o : Option ℕ) → code_unit a b c d ≡ o → IfSome (option_and_then (λ l. cond (is_low_surrogate l) (prepend (encode_utf8 (surrogate_pair h l)) (content plain xs)) None) o) IsUtf8
      by None e = tt
      by (Some l) e = low l e (is_low_surrogate l) refl

  paired : (h : ℕ) (xs : List ℕ) → is_high_surrogate h ≡ true → length xs < n → IsUtf8 xs → IfSome (content (after_high h) xs) IsUtf8
  unfolding content
  paired h [] high few u = tt
  paired h (s ∷ []) high few u = tt
  paired h (s ∷ v ∷ []) high few u = tt
  paired h (s ∷ v ∷ a ∷ []) high few u = tt
  paired h (s ∷ v ∷ a ∷ b ∷ []) high few u = tt
  paired h (s ∷ v ∷ a ∷ b ∷ c ∷ []) high few u = tt
  paired h (s ∷ v ∷ a ∷ b ∷ c ∷ d ∷ xs) high few u = by (s == 92) (v == 117) refl refl
    where
      by : (p q : Bool) → (s == 92) ≡ p → (v == 117) ≡ q
          → IfSome (cond (p && q) (option_and_then (λ l. cond (is_low_surrogate l) (prepend (encode_utf8 (surrogate_pair h l)) (content plain xs)) None) (code_unit a b c d)) None) IsUtf8
      by true true i j =
          let slash = eqb-true s 92 i in
          let letter = eqb-true v 117 j in
          second_half h a b c d xs high (omega (arith, few)) (ascii_rest v _ (omega (arith, letter)) (ascii_rest s _ (omega (arith, slash)) u))
      by true false i j = tt
      by false q i j = tt

  unit : (a b c d : ℕ) (xs : List ℕ) → length xs < n → IsUtf8 (a ∷ b ∷ c ∷ d ∷ xs)
      → IfSome (option_and_then (λ u. cond (is_high_surrogate u) (content (after_high u) xs) (cond (is_low_surrogate u) None (prepend (encode_utf8 u) (content plain xs)))) (code_unit a b c d)) IsUtf8
  unit a b c d xs few t = by (code_unit a b c d) refl
    where
      one : (u : ℕ) → code_unit a b c d ≡ Some u → (p q : Bool) → is_high_surrogate u ≡ p → is_low_surrogate u ≡ q
          → IfSome (cond p (content (after_high u) xs) (cond q None (prepend (encode_utf8 u) (content plain xs)))) IsUtf8
      one u e true q i j = paired u xs i few (four_rest a b c d u xs e t)
      one u e false true i j = tt
      one u e false false i j = prepended (encode u) (content plain xs) (IsUtf8-encode u (scalar_unit u (unit_is a b c d u e).few i j)) (goes xs few (four_rest a b c d u xs e t))

      by : (o : Option ℕ) → code_unit a b c d ≡ o
          → IfSome (option_and_then (λ u. cond (is_high_surrogate u) (content (after_high u) xs) (cond (is_low_surrogate u) None (prepend (encode_utf8 u) (content plain xs)))) o) IsUtf8
      by None e = tt
      by (Some u) e = one u e (is_high_surrogate u) (is_low_surrogate u) refl refl

  units : (xs : List ℕ) → length xs < n → IsUtf8 xs → IfSome (content after_u xs) IsUtf8
  unfolding content
  units [] few u = tt
  units (a ∷ []) few u = tt
  units (a ∷ b ∷ []) few u = tt
  units (a ∷ b ∷ c ∷ []) few u = tt
  units (a ∷ b ∷ c ∷ d ∷ xs) few u = unit a b c d xs (omega (arith, few)) u

  escaped : (xs : List ℕ) → length xs < n → IsUtf8 xs → IfSome (content after_backslash xs) IsUtf8
  unfolding content
  escaped [] few u = tt
  escaped (x ∷ xs) few u = by (x == 117) refl
    where
      by : (p : Bool) → (x == 117) ≡ p → IfSome (cond p (content after_u xs) (option_and_then (λ c. prepend (c ∷ []) (content plain xs)) (short_escape x))) IsUtf8
      by true i = let letter = eqb-true x 117 i in units xs (omega (arith, few)) (ascii_rest x xs (omega (arith, letter)) u)
      by false i = short x xs (omega (arith, few)) u

  plain_byte : (x : ℕ) (xs : List ℕ) → length xs < n → IsUtf8 (x ∷ xs) → x < 128 → IfSome (content plain (x ∷ xs)) IsUtf8
  unfolding content
  plain_byte x xs few u small = by (x == 34) (x == 92) (nat_lt x 32)
    where
      rest : IsUtf8 xs
      rest = ascii_rest x xs small u

      by : (p q r : Bool) → IfSome (cond p (Some []) (cond q (content after_backslash xs) (cond r None (prepend (x ∷ []) (content plain xs))))) IsUtf8
      by true q r = IsUtf8-nil
      by false true r = escaped xs few rest
      by false false true = tt
      by false false false = prepended (x ∷ []) (content plain xs) (one_ascii x small) (goes xs few rest)

  high_byte : (xs : List ℕ) → length xs < suc n → Split xs → IfSome (content plain xs) IsUtf8
  high_byte xs few cut =
      let less = cut.less in
      subst (λ o. IfSome o IsUtf8) (sym (ap (content plain) cut.is ∙ high_run (encode cut.char) cut.rest cut.high))
      (prepended (encode cut.char) (content plain cut.rest) (IsUtf8-encode cut.char cut.scalar) (goes cut.rest (omega (arith, less, few)) cut.text))

goes_on : (n : ℕ) → Goes n
unfolding content
goes_on zero xs few u = absurd (omega (arith, few))
goes_on (suc n) [] few u = tt
goes_on (suc n) (x ∷ xs) few u = elim (cases_lt x 128) [
  | inl small ↦ plain_byte n (goes_on n) x xs (omega (arith, few)) u small
  | inr big ↦ high_byte n (goes_on n) (x ∷ xs) few (split x xs big u)
]

pub content_text : (xs : List ℕ) → IsUtf8 xs → IfSome (content plain xs) IsUtf8
content_text xs u = goes_on (suc (length xs)) xs (omega arith) u
