-- Numbers as a tree compares them.
use Rattle.std.proofs.Common.{◌≡◌, ℕ, ◌==◌, nat_lt, nat_le, nat_cmp, is_le, Less, Equal, Greater, Bool, true, false, cond, ◌&&◌, List, [], ◌∷◌}
use Rattle.std.proofs.Common.{filter, find, slice_get, option_copied, Option, Some, None, refl, sym, ap, ◌∙◌, arith, ltb-true, ltb-false, eqb-true, leb-true, leb-false}
use denote.Ref.{Bor}
use Rattle.std.specs.Map.Iter.{TakesFirst, deref}
use Rattle.std.specs.BTreeMap.{is_at}
use Rattle.std.specs.BTreeMap.Range.{range_contains}
use Rattle.std.specs.declared.ops.Bound.TheVariants.{Included, Unbounded}
use Rattle.std.proofs.lemmas.Bool.{eqb-false}
use Rattle.jc_states.proofs.OddFacts.{compared}

-- A query by a number asks whether another is the same.
pub asks : (u : ℕ) → is_at (nat_cmp u) ≡ (λ k. u == k)
asks u = λ i k. compared u k i

-- A number that does not come before another lies from it on.
lies_from : (a b : ℕ) → is_le (nat_cmp a b) ≡ nat_le a b
lies_from a b = by (nat_lt a b) refl (a == b) refl (nat_le a b) refl
  where
    by : (lt : Bool) → nat_lt a b ≡ lt → (eq : Bool) → (a == b) ≡ eq → (le : Bool) → nat_le a b ≡ le → is_le (cond lt Less (cond eq Equal Greater)) ≡ le
    by true l eq e true m = refl
    by true l eq e false m = let below = ltb-true a b l in let above = leb-false a b m in absurd (omega (arith, below, above))
    by false l true e true m = refl
    by false l true e false m = let is = eqb-true a b e in let above = leb-false a b m in absurd (omega (arith, is, above))
    by false l false e true m =
        let from = ltb-false a b l in
        let within = leb-true a b m in
        absurd (eqb-false a b e (omega (arith, from, within)))
    by false l false e false m = refl

-- A range from a number on has the numbers that lie from it on.
pub in_range : (u k : ℕ) → range_contains nat_cmp (Included u) Unbounded k ≡ nat_le u k
in_range u k = kept (is_le (nat_cmp u k)) ∙ lies_from u k
  where
    kept : (b : Bool) → (b && true) ≡ b
    kept true = refl
    kept false = refl

-- The first number that lies from one on is the first of all that do.
found-filtered : (u : ℕ) (keys : List ℕ) → slice_get (filter (nat_le u) keys) 0 ≡ find (nat_le u) keys
found-filtered u [] = refl
found-filtered u (k ∷ keys) = by (nat_le u k) (found-filtered u keys)
  where
    by : (b : Bool) → slice_get (filter (nat_le u) keys) 0 ≡ find (nat_le u) keys
        → slice_get (cond b (k ∷ filter (nat_le u) keys) (filter (nat_le u) keys)) 0 ≡ cond b (Some k) (find (nat_le u) keys)
    by true ih = refl
    by false ih = ih

-- It is the first of the range from it on.
pub found-in_range : (u : ℕ) (keys part : List ℕ) → part ≡ filter (range_contains nat_cmp (Included u) Unbounded) keys → slice_get part 0 ≡ find (nat_le u) keys
found-in_range u keys part at =
    ap (λ part. slice_get part 0) (at ∙ ap (λ (test : ℕ → Bool). filter test keys) (λ i k. in_range u k i))
    ∙ found-filtered u keys

-- What is taken of a list is its first.
pub taken-first : (part rest : List ℕ) (taken : Option (Bor ℕ)) → TakesFirst deref part taken rest → option_copied taken ≡ slice_get part 0
taken-first part rest None h = sym (ap (λ p. slice_get p 0) h.0)
taken-first part rest (Some k) h = sym (ap (λ p. slice_get p 0) h)
