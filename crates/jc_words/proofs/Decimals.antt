-- The number that a text says is the one whose decimal it is.
use Rattle.std.proofs.Common.{◌≡◌, ◌≢◌, ℕ, zero, suc, ◌^◌, ◌<◌, ◌≤◌, ◌⊎◌, inl, inr, true, List, [], ◌∷◌, length, get_or, subst, slice_index, Some, None, Result, Ok, Err, decimal, bytes_eq, nat_le, refl, sym, ap, ◌∙◌, arith, rules, tests}
use Rattle.std.specs.Result.{result_ok}
use Rattle.std.specs.Str.Parse.{AllDigits, IsNumeral, ParsesUnsigned, digits_value, without_leading_plus}
use Rattle.std.proofs.lemmas.Fmt.{decimal_is_IsNumeral, decimal-digits_value, decimal_injective, decimal_digit, first_decimal, parse-decimal}
use Rattle.std.proofs.lemmas.Slice.Eq.{bytes_eq-Decides}
use Rattle.std.proofs.lemmas.Option.{none-some}
use Rattle.std.proofs.lemmas.Str.Parse.{IsNumeralModel, without_leading_plus_none}
use Rattle.jc_words.specs.Values.{number_said, number_if}

own : IsNumeralModel (AllDigits 10) (digits_value 10)
own = record { to = λ ds h. h; from = λ ds h. h; same = λ ds h. refl }

passes : (low high n : ℕ) (text : List ℕ) → low ≤ n → n ≤ high → text ≡ decimal n → number_if low high text n ≡ Some n
passes low high n text more less e =
    let same : bytes_eq (decimal n) text ≡ true = (bytes_eq-Decides (decimal n) text).1 (sym e) in
    let above : nat_le low n ≡ true = search (rules, tests) in
    let below : nat_le n high ≡ true = search (rules, tests) in
    rw (same, above, below) refl

is_number : (low high n : ℕ) (text : List ℕ) → high < 2 ^ 32 → low ≤ n → n ≤ high → text ≡ decimal n → number_said low high text ≡ Some n
unfolding number_said
is_number low high n text few more less e =
    let value : digits_value 10 text ≡ n = ap (digits_value 10) e ∙ (decimal_is_IsNumeral n (omega arith)).1 in
    ap (number_if low high text) value ∙ passes low high n text more less e

none_if : (low high n : ℕ) (text : List ℕ) → (low ≤ n → n ≤ high → text ≢ decimal n) → number_if low high text n ≡ None
none_if low high n text differs = search (rules, tests, bytes_eq-Decides)

is_none : (low high : ℕ) (text : List ℕ) → ((n : ℕ) → low ≤ n → n ≤ high → text ≢ decimal n) → number_said low high text ≡ None
unfolding number_said
is_none low high text differs = none_if low high (digits_value 10 text) text (differs (digits_value 10 text))

-- The digits of a number, where no sign and no zero is in front.
written : (text : List ℕ) (n : ℕ) → (IsNumeral 10 (without_leading_plus text) × (digits_value 10 (without_leading_plus text) < 2 ^ 32)) × (n ≡ digits_value 10 (without_leading_plus text))
    → slice_index text 0 ≢ 43 → (slice_index text 0 ≡ 48 → length text ≡ 1) → text ≡ decimal n
written text n h sign zeros =
    let P : List ℕ → Type 0 = λ t. (IsNumeral 10 t × (digits_value 10 t < 2 ^ 32)) × (n ≡ digits_value 10 t) in
    let k = subst P (without_leading_plus_none text sign) h in
    let few : digits_value 10 text < 2 ^ 32 = k.0.1 in
    sym (ap decimal k.1 ∙ decimal-digits_value own text k.0.0.1 k.0.0.0 zeros (omega (arith, few)))

-- A number's digits begin with no sign, and with a zero only where that is all.
pub not_plain : (text : List ℕ) (n : ℕ) → n < 2 ^ 32 → text ≡ decimal n → (slice_index text 0 ≡ 43) ⊎ ((slice_index text 0 ≡ 48) × (1 < length text)) → ⊥
not_plain text zero few e other =
    let one : text ≡ 48 ∷ [] = e ∙ decimal_digit 0 (omega arith) in
    let first : slice_index text 0 ≡ 48 = ap (λ t. slice_index t 0) one in
    let long : length text ≡ 1 = ap length one in
    elim other [
      | inl sign ↦ omega (arith, first, sign)
      | inr zeros ↦ omega (arith, long, zeros.1)
    ]
not_plain text (suc n) few e other =
    let high : 48 < get_or (decimal (suc n)) 0 0 = first_decimal (suc n) (omega arith) (omega arith) in
    let first : slice_index text 0 ≡ get_or (decimal (suc n)) 0 0 = ap (λ t. get_or t 0 0) e in
    elim other [
      | inl sign ↦ omega (arith, high, first, sign)
      | inr zeros ↦ omega (arith, high, first, zeros.0)
    ]

-- `parse` reads each number that is written.
pub unread : {E : Type 0} (text : List ℕ) (r : Result ℕ E) → ParsesUnsigned 32 10 text r → result_ok r ≡ None → (n : ℕ) → n < 2 ^ 32 → text ≢ decimal n
unread text r parsed e n few is =
    let ok : r ≡ Ok n = parse-decimal 32 n text r few (omega arith) is parsed in
    none-some n (sym e ∙ ap result_ok ok)

pub plain : {E : Type 0} (text : List ℕ) (r : Result ℕ E) (n : ℕ) → ParsesUnsigned 32 10 text r → result_ok r ≡ Some n
    → (slice_index text 0 ≢ 43) × (slice_index text 0 ≡ 48 → length text ≡ 1) → text ≡ decimal n
plain text (Ok m) n parsed e front = written text m parsed front.0 front.1 ∙ search (rules, e)
plain text (Err f) n parsed e front = absurd (none-some n e)

module _ (low high : ℕ) (text : List ℕ) (few : high < 2 ^ 32) where
  pub in_bounds : (n : ℕ) → low ≤ n → n ≤ high → text ≡ decimal n → Some n ≡ number_said low high text
  in_bounds n more less e = sym (is_number low high n text few more less e)

  -- A number that is written is within no other bounds.
  pub out_of_bounds : (n : ℕ) → n < 2 ^ 32 → text ≡ decimal n → (low ≤ n → n ≤ high → ⊥) → None ≡ number_said low high text
  out_of_bounds n small e out =
      sym (is_none low high text (λ m more less is.
      let same : m ≡ n = decimal_injective m n (omega arith) (omega arith) (sym is ∙ e) in
      out (omega arith) (omega arith)))

  pub unwritten : ((n : ℕ) → n < 2 ^ 32 → text ≢ decimal n) → number_said low high text ≡ None
  unwritten differs = is_none low high text (λ n more less. differs n (omega arith))
