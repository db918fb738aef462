-- How many of a set's members are below a number.
use Rattle.std.proofs.Common.{◌≡◌, ◌∙◌, refl, ap, ℕ, suc, ◌+◌, ◌≤◌, List, [], ◌∷◌, length, Bool, true, false, cond, ◌&&◌, eqb, eqb-true, arith}
use Rattle.std.specs.Prelude.{nat_lt}
use Rattle.std.specs.List.{list_all}
use Rattle.std.proofs.Math.Dec.{eqb-suc-suc}
use Rattle.std.proofs.lemmas.List.Sums.{count_by-le-length, sum_by-cons}
use Rattle.jc_ranges.specs.Sets.{count_below}

too_few : (k l : ℕ) (b : Bool) → eqb (0 + k) (suc l) ≡ b → k ≤ l → b ≡ false
too_few k l true e within = let same : 0 + k ≡ suc l = eqb-true (0 + k) (suc l) e in absurd (omega arith)
too_few k l false e within = refl

counted : (b : Bool) (k l : ℕ) (rest : Bool) → eqb k l ≡ rest → k ≤ l → eqb (cond b 1 0 + k) (suc l) ≡ (b && rest)
counted true k l rest same within =
    let more : 1 + k ≡ suc k = omega arith in ap (λ n. eqb n (suc l)) more ∙ eqb-suc-suc k l ∙ same
counted false k l rest same within = too_few k l (eqb (0 + k) (suc l)) refl within

-- all members are below the number where as many as there are are below it
pub all_below : (n : ℕ) (xs : List ℕ) → eqb (count_below n xs) (length xs) ≡ list_all (λ x. nat_lt x n) xs
all_below n [] = refl
all_below n (x ∷ xs) =
    ap (λ k. eqb k (length (x ∷ xs))) (sum_by-cons (λ y. cond (nat_lt y n) 1 0) x xs)
    ∙ counted (nat_lt x n) (count_below n xs) (length xs) (list_all (λ x. nat_lt x n) xs) (all_below n xs)
    (count_by-le-length (λ x. nat_lt x n) xs)
