-- Facts on the decimal digits of numbers below 100,000.
use Rattle.std.proofs.Common.{◌≤◌, ◌≡◌, ◌≢◌, ℕ, zero, suc, ◌<◌, ◌^◌, false, eqb, List, [], ◌∷◌, length, get_or, refl, sym, ap, ◌∙◌, inl, inr, ◌⊎◌, arith, Result, Ok, Err, Some, None}
use Rattle.std.specs.Result.{result_ok}
use Rattle.std.proofs.lemmas.Option.{none-some, same_Some}
use Rattle.std.proofs.lemmas.Bool.{ne_eqb}
use Rattle.std.proofs.lemmas.Fmt.{decimal_digit, first_decimal, decimal_nonempty, digits_decimal, parse-decimal, decimal-digits_value, IsAscii-decimal}
use Rattle.std.proofs.lemmas.List.Elements.{All-from_get_or}
use Rattle.std.proofs.lemmas.Result.{OkIff-at_ok}
use Rattle.std.proofs.lemmas.Str.{IsUtf8-from_ascii}
use Rattle.std.proofs.lemmas.Str.Parse.{IsNumeralModel, numerals_by_value, tells_digits, not_in_digits, parse_plain}
use Rattle.std.specs.Fmt.{decimal}
use Rattle.std.specs.Int.{IsInRange}
use Rattle.std.specs.List.{All}
use Rattle.std.specs.Str.{IsUtf8}
use Rattle.std.specs.Str.Parse.{AllDigits, digits_value, ParsesUnsigned}
use Rattle.jc_ranges.specs.declared.bounds.TheConstants.{GREATEST_INDEX}

pub own : IsNumeralModel (AllDigits 10) (digits_value 10)
own = numerals_by_value (AllDigits 10) tells_digits

-- A number below 100,000 is one of 64 bits.
pub few_digits : (n : ℕ) → n ≤ GREATEST_INDEX → n < 2 ^ 64
few_digits n h = omega arith

-- Its digits are 0 alone, or begin with another digit.
pub decimal_begins : (n : ℕ) → n ≤ GREATEST_INDEX → (decimal n ≡ 48 ∷ []) ⊎ (48 < get_or (decimal n) 0 0)
decimal_begins zero h = inl (decimal_digit 0 (omega arith))
decimal_begins (suc n) h = inr (first_decimal (suc n) (omega arith) (few_digits (suc n) h))

pub word_begins : (n : ℕ) (word : List ℕ) → n ≤ GREATEST_INDEX → word ≡ decimal n → (0 < length word) × (((get_or word 0 0 ≡ 48) × (length word ≡ 1)) ⊎ (48 < get_or word 0 0))
word_begins n word h e = (
  rw e (decimal_nonempty n (few_digits n h)),
  elim (decimal_begins n h) [
    | inl zero_alone ↦ let alone = e ∙ zero_alone in inl (ap (λ l. get_or l 0 0) alone, ap length alone)
    | inr more ↦ inr (rw e more)
  ],
)

-- A byte that is no digit is not among them.
pub decimal_lacks : (c n : ℕ) → n ≤ GREATEST_INDEX → (IsInRange 48 57 c → ⊥) → All (λ b. eqb b c ≡ false) (decimal n)
decimal_lacks c n h other =
    All-from_get_or (λ b. eqb b c ≡ false) (decimal n) 0
    (λ i q. ne_eqb (get_or (decimal n) i 0) c (not_in_digits own (decimal n) c (digits_decimal own n (few_digits n h)) other i q))

pub decimal_utf8 : (n : ℕ) (word : List ℕ) → n ≤ GREATEST_INDEX → word ≡ decimal n → IsUtf8 word
decimal_utf8 n word h e = rw e (IsUtf8-from_ascii (decimal n) (IsAscii-decimal n (few_digits n h)))

-- What `str::parse` reads of a word.
pub parse_reads : {E : Type 0} (n : ℕ) (word : List ℕ) (r : Result ℕ E) → n ≤ GREATEST_INDEX → word ≡ decimal n → ParsesUnsigned 32 10 word r → r ≡ Ok n
parse_reads n word r h e p = parse-decimal 32 n word r (omega arith) (few_digits n h) e p

pub parse_spells : {E : Type 0} (n : ℕ) (word : List ℕ) (r : Result ℕ E) → ((get_or word 0 0 ≡ 48) × (length word ≡ 1)) ⊎ ((get_or word 0 0 ≢ 48) × (get_or word 0 0 ≢ 43)) → ParsesUnsigned 32 10 word r → r ≡ Ok n → word ≡ decimal n
parse_spells {E} n word r plain p e =
    let no_plus : get_or word 0 0 ≢ 43 = λ q. elim plain [ inl zero_alone ↦ let is = zero_alone.0 in omega (arith, is) | inr other ↦ other.1 q ] in
    let zero_only : get_or word 0 0 ≡ 48 → length word ≡ 1 = λ q. elim plain [ inl zero_alone ↦ zero_alone.1 | inr other ↦ absurd (other.0 q) ] in
    let read = OkIff-at_ok r _ _ n (parse_plain own 32 word r p no_plus) e in
    let digits = read.0.0 in
    let some = read.0.1 in
    let fits : digits_value 10 word < 2 ^ 64 = let low = read.0.2 in omega (arith, low) in
    sym (ap decimal read.1 ∙ decimal-digits_value own word digits some zero_only fits)

-- What `Result::ok` gives of either.
pub err_of : {T E : Type 0} (r : Result T E) → None ≡ result_ok r → (e : E) × (r ≡ Err e)
err_of (Ok x) h = absurd (none-some x h)
err_of (Err e) h = (e, refl)

pub ok_of : {T E : Type 0} (x : T) (r : Result T E) → Some x ≡ result_ok r → r ≡ Ok x
ok_of x (Ok y) h = ap Ok (same_Some y x (sym h))
ok_of x (Err e) h = absurd (none-some x (sym h))
