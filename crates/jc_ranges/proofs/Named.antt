-- Facts on elements, and on the runs that they name.
use Rattle.std.proofs.Common.{◌≡◌, ◌≢◌, ℕ, ◌+◌, ◌<◌, ◌≤◌, false, eqb, List, ◌∷◌, ◌++◌, take, drop, refl, sym, ap, ◌∙◌, subst, inl, inr, ◌⊎◌, arith, Option, Some, None}
use Rattle.std.specs.Option.{MatchOption}
use Rattle.std.proofs.lemmas.Bool.{eq-eqb, ne_eqb, cases_eq}
use Rattle.std.proofs.lemmas.Fmt.{decimal_injective}
use Rattle.std.proofs.lemmas.List.Elements.{All-append, All-cons}
use Rattle.std.specs.Fmt.{decimal}
use Rattle.jc_ranges.specs.Texts.{element, IsRunFrom}
use Rattle.jc_ranges.specs.declared.runs.Run.{Run}
use Rattle.jc_ranges.specs.Runs.{NamesRun}
use Rattle.jc_ranges.proofs.Numerals.{decimal_lacks, few_digits}
use Rattle.jc_ranges.proofs.Cuts.{Lacks, CutAt, lacks_none, cut_once}
use Rattle.jc_ranges.specs.declared.bounds.TheConstants.{GREATEST_INDEX}

-- An element is one number, or two with a dash between them.
pub element_cases : (r : Run) → r.first ≤ r.last → ((r.first ≡ r.last) × (element r ≡ decimal r.first)) ⊎ ((r.first < r.last) × (element r ≡ decimal r.first ++ 45 ∷ decimal r.last))
element_cases r h =
    elim (cases_eq r.first r.last) [
      | inl same ↦ inl (same, rw (eq-eqb r.first r.last same))
      | inr other ↦ inr (omega arith, rw (ne_eqb r.first r.last other))
    ]

same_run : (r s : Run) → r.first ≡ s.first → r.last ≡ s.last → r ≡ s
same_run r s p q = λ i. record { first = p i; last = q i }

pub digits_no_dash : (n : ℕ) → n ≤ GREATEST_INDEX → Lacks 45 (decimal n)
digits_no_dash n h = decimal_lacks 45 n h (λ q. omega arith)

digits_no_comma : (n : ℕ) → n ≤ GREATEST_INDEX → Lacks 44 (decimal n)
digits_no_comma n h = decimal_lacks 44 n h (λ q. omega arith)

pub element_no_comma : (low : ℕ) (r : Run) → IsRunFrom low r → Lacks 44 (element r)
element_no_comma low r h =
    let ordered : r.first ≤ r.last = h.ordered in
    let small : r.last ≤ GREATEST_INDEX = h.small in
    let first = digits_no_comma r.first (omega arith) in
    let last = digits_no_comma r.last small in
    elim (element_cases r ordered) [
      | inl one ↦ rw one.1 first
      | inr two ↦ rw two.1 (All-append (λ b. eqb b 44 ≡ false) (decimal r.first) (45 ∷ decimal r.last) first (All-cons (λ b. eqb b 44 ≡ false) 45 (decimal r.last) refl last))
    ]

-- Two runs have the same element only if they are the same.
pub element_names_one : (low high : ℕ) (r s : Run) → IsRunFrom low r → IsRunFrom high s → element r ≡ element s → r ≡ s
element_names_one low high r s h k e =
    let rs : r.last ≤ GREATEST_INDEX = h.small in
    let ro : r.first ≤ r.last = h.ordered in
    let ss : s.last ≤ GREATEST_INDEX = k.small in
    let so : s.first ≤ s.last = k.ordered in
    elim (element_cases r ro) [
      | inl one ↦ elim (element_cases s so) [
        | inl other ↦
            let same = decimal_injective r.first s.first (few_digits r.first (omega arith)) (few_digits s.first (omega arith)) (sym one.1 ∙ e ∙ other.1) in
            same_run r s same (sym one.0 ∙ same ∙ other.0)
        | inr two ↦ absurd (lacks_none 45 (decimal s.first) (decimal s.last) (subst (Lacks 45) (sym one.1 ∙ e ∙ two.1) (digits_no_dash r.first (omega arith))))
      ]
      | inr two ↦ elim (element_cases s so) [
        | inl other ↦ absurd (lacks_none 45 (decimal r.first) (decimal r.last) (subst (Lacks 45) (sym other.1 ∙ sym e ∙ two.1) (digits_no_dash s.first (omega arith))))
        | inr more ↦
            let cuts = cut_once 45 (decimal r.first) (decimal r.last) (decimal s.first) (decimal s.last) (digits_no_dash r.first (omega arith)) (digits_no_dash s.first (omega arith)) (sym two.1 ∙ e ∙ more.1) in
            same_run r s (decimal_injective r.first s.first (few_digits r.first (omega arith)) (few_digits s.first (omega arith)) cuts.0) (decimal_injective r.last s.last (few_digits r.last rs) (few_digits s.last ss) cuts.1)
      ]
    ]

-- What an element without a dash names, and one that is cut at its first dash.
pub names_none : (word : List ℕ) → Lacks 45 word → ((n : ℕ) → n ≤ GREATEST_INDEX → word ≢ decimal n) → (r : Run) → NamesRun 0 word r → ⊥
names_none word h none r names =
    let small : r.last ≤ GREATEST_INDEX = names.run.small in
    let ordered : r.first ≤ r.last = names.run.ordered in
    elim (element_cases r ordered) [
      | inl one ↦ none r.first (omega arith) (names.spelled ∙ one.1)
      | inr two ↦ lacks_none 45 (decimal r.first) (decimal r.last) (subst (Lacks 45) (names.spelled ∙ two.1) h)
    ]

pub names_two : (word : List ℕ) (i m n : ℕ) → CutAt 45 word i → m < n → n ≤ GREATEST_INDEX → take i word ≡ decimal m → drop (i + 1) word ≡ decimal n → NamesRun 0 word (record { first = m; last = n })
names_two word i m n cut h k p q =
    let run : Run = record { first = m; last = n } in
    record {
      run = record { above = omega arith; ordered = omega arith; small = k };
      spelled = cut.parts ∙ ap (λ z. z ++ 45 ∷ drop (i + 1) word) p ∙ ap (λ z. decimal m ++ 45 ∷ z) q ∙ rw (ne_eqb m n (λ e. omega arith));
    }

pub names_no_two : (word : List ℕ) (i : ℕ) → CutAt 45 word i → ((m n : ℕ) → m < n → n ≤ GREATEST_INDEX → take i word ≡ decimal m → drop (i + 1) word ≢ decimal n) → (r : Run) → NamesRun 0 word r → ⊥
names_no_two word i cut none r names =
    let small : r.last ≤ GREATEST_INDEX = names.run.small in
    let ordered : r.first ≤ r.last = names.run.ordered in
    elim (element_cases r ordered) [
      | inl one ↦ lacks_none 45 (take i word) (drop (i + 1) word) (subst (Lacks 45) (sym one.1 ∙ sym names.spelled ∙ cut.parts) (digits_no_dash r.first (omega arith)))
      | inr two ↦
          let cuts = cut_once 45 (take i word) (drop (i + 1) word) (decimal r.first) (decimal r.last) cut.before (digits_no_dash r.first (omega arith)) (sym cut.parts ∙ names.spelled ∙ two.1) in
          let lt = two.0 in
          none r.first r.last lt small cuts.0 cuts.1
    ]

pub names_pair : (word front back : List ℕ) (i : ℕ) (r : Option (ℕ × ℕ)) → CutAt 45 word i → front ≡ take i word → back ≡ drop (i + 1) word → MatchOption r
    ((m n : ℕ) → m < n → n ≤ GREATEST_INDEX → front ≡ decimal m → back ≢ decimal n) (λ pair. (pair.0 < pair.1) × (pair.1 ≤ GREATEST_INDEX) × (front ≡ decimal pair.0) × (back ≡ decimal pair.1)) →
    MatchOption r ((s : Run) → NamesRun 0 word s → ⊥) (λ pair. NamesRun 0 word (record { first = pair.0; last = pair.1 }))
names_pair word front back i None cut f b h = names_no_two word i cut (λ m n p q e d. h m n p q (f ∙ e) (b ∙ d))
names_pair word front back i (Some pair) cut f b h = names_two word i pair.0 pair.1 cut h.0 h.1 (sym f ∙ h.2) (sym b ∙ h.3)

-- An element that begins below `low` names no run from there on.
pub names_low : (low : ℕ) (word : List ℕ) (r : Run) → NamesRun 0 word r → r.first < low → (s : Run) → NamesRun low word s → ⊥
names_low low word r h lt s k =
    let same : s ≡ r = element_names_one low 0 s r k.run h.run (sym k.spelled ∙ h.spelled) in
    let above : low ≤ s.first = k.run.above in
    let at : s.first ≡ r.first = ap (λ (t : Run). t.first) same in
    omega arith
