-- The last six digits of a number.
use Rattle.std.proofs.Common.{◌≡◌, ℕ, ◌+◌, ◌/◌, ◌%◌, ◌^◌, ◌<◌, ◌≤◌, List, [], ◌∷◌, ◌++◌, append_assoc, arith, decimal, drop, sym, ap, ◌∙◌}
use Rattle.std.proofs.lemmas.Fmt.{decimal_digit, decimal_step}

-- Four digits.
abbrev pub four : ℕ → List ℕ
four n = (48 + n / 1000) ∷ (48 + n / 100 % 10) ∷ (48 + n / 10 % 10) ∷ (48 + n % 10) ∷ []

pub ends_in_four : (n : ℕ) → 10000 ≤ n → n < 2 ^ 64 → decimal n ≡ decimal (n / 10000) ++ four (n % 10000)
ends_in_four n low high =
    let a : n / 10 / 10 / 10 / 10 ≡ n / 10000 = omega arith in
    let b : n / 10 / 10 / 10 % 10 ≡ n % 10000 / 1000 = omega arith in
    let c : n / 10 / 10 % 10 ≡ n % 10000 / 100 % 10 = omega arith in
    let d : n / 10 % 10 ≡ n % 10000 / 10 % 10 = omega arith in
    let e : n % 10 ≡ n % 10000 % 10 = omega arith in
    rw (
      decimal_step n (omega arith) high,
      decimal_step (n / 10) (omega arith) (omega arith),
      decimal_step (n / 10 / 10)
          (omega arith) (omega arith),
      decimal_step (n / 10 / 10 / 10) (omega arith) (omega arith),
      append_assoc,
      append_assoc,
      append_assoc,
      a,
      b,
      c,
      d,
      ← e,
    )

-- Six digits.
abbrev pub six : ℕ → List ℕ
six n = (48 + n / 100000) ∷ (48 + n / 10000 % 10) ∷ four (n % 10000)

behind_hundred : (n : ℕ) → n < 100 → decimal (100 + n) ≡ 49 ∷ (48 + n / 10) ∷ (48 + n % 10) ∷ []
behind_hundred n small =
    let a : (100 + n) / 10 / 10 ≡ 1 = omega arith in
    let b : (100 + n) / 10 % 10 ≡ n / 10 = omega arith in
    let c : (100 + n) % 10 ≡ n % 10 = omega arith in
    rw (
      decimal_step (100 + n) (omega arith) (omega arith),
      decimal_step ((100 + n) / 10) (omega arith) (omega arith),
      append_assoc,
      a,
      b,
      c,
      decimal_digit 1 (omega arith),
    )

pub behind_million : (n : ℕ) → n < 1000000 → decimal (1000000 + n) ≡ 49 ∷ six n
behind_million n small =
    let a : (1000000 + n) / 10000 ≡ 100 + n / 10000 = omega arith in
    let b : (1000000 + n) % 10000 ≡ n % 10000 = omega arith in
    let c : n / 10000 / 10 ≡ n / 100000 = omega arith in
    ends_in_four (1000000 + n) (omega arith) (omega arith)
    ∙ ap (λ m. decimal m ++ four ((1000000 + n) % 10000)) a
    ∙ ap (λ m. decimal (100 + n / 10000) ++ four m) b
    ∙ ap (λ ds. ds ++ four (n % 10000)) (behind_hundred (n / 10000) (omega arith))
    ∙ ap (λ m. 49 ∷ (48 + m) ∷ (48 + n / 10000 % 10) ∷ four (n % 10000)) c

-- From 100,000 on the six are the whole number.
pub six_alone : (n : ℕ) → 100000 ≤ n → n < 1000000 → drop 1 (decimal (1000000 + n)) ≡ decimal n
six_alone n low high =
    let a : n / 10000 / 10 ≡ n / 100000 = omega arith in
    ap (drop 1) (behind_million n high)
    ∙ sym (rw (
      ends_in_four n (omega arith) (omega arith),
      decimal_step (n / 10000) (omega arith) (omega arith),
      append_assoc,
      a,
      decimal_digit (n / 100000) (omega arith),
    ))

-- Below that the last five, from 10,000 on.
pub five_alone : (n : ℕ) → 10000 ≤ n → n < 100000 → drop 2 (decimal (1000000 + n)) ≡ decimal n
five_alone n low high =
    let a : n / 10000 % 10 ≡ n / 10000 = omega arith in
    ap (drop 2) (behind_million n (omega arith))
    ∙ ap (λ m. (48 + m) ∷ four (n % 10000)) a
    ∙ sym (rw (ends_in_four n (omega arith) (omega arith), decimal_digit (n / 10000) (omega arith)))

-- And the last four, from 1000 on.
pub four_alone : (n : ℕ) → 1000 ≤ n → n < 10000 → drop 3 (decimal (1000000 + n)) ≡ decimal n
four_alone n low high =
    let a : n / 10 / 10 / 10 ≡ n / 1000 = omega arith in
    let b : n / 10 / 10 % 10 ≡ n / 100 % 10 = omega arith in
    let whole : n % 10000 ≡ n = omega (arith, high) in
    ap (drop 3) (behind_million n (omega arith))
    ∙ ap four whole
    ∙ sym (rw (
      decimal_step n (omega arith) (omega arith),
      decimal_step (n / 10) (omega arith) (omega arith),
      decimal_step (n / 10 / 10) (omega arith) (omega arith),
      append_assoc,
      append_assoc,
      a,
      b,
      decimal_digit (n / 1000) (omega arith),
    ))
