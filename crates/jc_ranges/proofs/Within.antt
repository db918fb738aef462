-- Facts on runs whose numbers all lie within a set.
use Rattle.std.proofs.Common.{◌≡◌, ℕ, zero, suc, ◌+◌, ◌-◌, ◌<◌, ◌≤◌, true, List, [], ◌∷◌, ◌++◌, length, get_or, sym, ◌∙◌, subst, arith, inl, inr}
use Rattle.std.proofs.lemmas.Bool.{cases_lt, false≢true}
use Rattle.std.specs.List.{AllByRecursion, range_with_len, flat_map}
use Rattle.jc_ranges.specs.Sets.{IsFirstMissing, has}
use Rattle.jc_ranges.specs.Texts.{numbers}
use Rattle.jc_ranges.specs.declared.runs.Run.{Run}

-- What holds of each number from a on, holds of each of a range of them, and the other way round.
each_range : (P : ℕ → Type 0) (a k : ℕ) → ((n : ℕ) → a ≤ n → n < a + k → P n) → AllByRecursion P (range_with_len a k)
each_range P a zero all = tt
each_range P a (suc k) all =
    (all a (omega arith) (omega arith), each_range P (a + 1) k (λ n l h. all n (omega (arith, l)) (omega (arith, h))))

range_each : (P : ℕ → Type 0) (a k n : ℕ) → AllByRecursion P (range_with_len a k) → a ≤ n → n < a + k → P n
range_each P a zero n all l h = absurd (omega (arith, l, h))
range_each P a (suc k) n all l h =
    elim (cases_lt a n) [
      | inl lt ↦ range_each P (a + 1) k n all.1 (omega arith) (omega (arith, h))
      | inr ge ↦ let e : a ≡ n = omega (arith, l, ge) in subst P e all.0
    ]

-- The numbers of a run lie within a set where the run ends before the first number that is missing from
-- its beginning on, and nowhere else.
pub run_within : (set : List ℕ) (run : Run) (m : ℕ) → IsFirstMissing set run.first m → run.last < m → AllByRecursion (λ n. has n set ≡ true) (numbers run)
run_within set run m is lt =
    each_range (λ n. has n set ≡ true) run.first (suc run.last - run.first) (λ n l h. is.least n l (omega (arith, l, h, lt)))

pub within_run : (set : List ℕ) (run : Run) (m : ℕ) → IsFirstMissing set run.first m → AllByRecursion (λ n. has n set ≡ true) (numbers run) → run.last < m
within_run set run m is all =
    elim (cases_lt run.last m) [
      | inl lt ↦ lt
      | inr ge ↦
          let above : run.first ≤ m = is.above in
          let there = range_each (λ n. has n set ≡ true) run.first (suc run.last - run.first) m all above (omega (arith, above, ge)) in
          absurd (false≢true (sym is.missing ∙ there))
    ]

-- What holds of each number of the runs holds of those of one run.
each_front : (P : ℕ → Type 0) (xs ys : List ℕ) → AllByRecursion P (xs ++ ys) → AllByRecursion P xs
each_front P [] ys all = tt
each_front P (x ∷ xs) ys all = (all.0, each_front P xs ys all.1)

each_back : (P : ℕ → Type 0) (xs ys : List ℕ) → AllByRecursion P (xs ++ ys) → AllByRecursion P ys
each_back P [] ys all = all
each_back P (x ∷ xs) ys all = each_back P xs ys all.1

pub runs_one : (P : ℕ → Type 0) (rs : List Run) (i : ℕ) (d : Run) → i < length rs → AllByRecursion P (flat_map numbers rs) → AllByRecursion P (numbers (get_or rs i d))
runs_one P [] i d lt all = absurd (omega arith)
runs_one P (r ∷ rs) zero d lt all = each_front P (numbers r) (flat_map numbers rs) all
runs_one P (r ∷ rs) (suc i) d lt all = runs_one P rs i d (omega arith) (each_back P (numbers r) (flat_map numbers rs) all)
