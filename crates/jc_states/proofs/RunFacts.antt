-- Where a run of indexes ends of which none is there twice: the places of the indexes tell.
use Rattle.std.proofs.Common.{◌≡◌, ℕ, ◌+◌, ◌-◌, ◌<◌, ◌≤◌, zero, suc, nat_lt, nat_le, ◌==◌, Bool, true, false, cond, ◌&&◌, ◌||◌, List, [], ◌∷◌, refl, sym, ap, ◌∙◌, arith, true≢false, ltb-true, ltb-false, eqb-true}
use Rattle.std.specs.List.{list_any}
use Rattle.std.proofs.lemmas.Bool.{eqb-false, le-leb, lt-leb}
use Rattle.jc_states.specs.Held.{ClimbsFrom, is_between, place_for, repeats, times}
use Rattle.jc_states.proofs.HeldFacts.{any-below, place-below, times-cons}

-- ---- the place of the next index

-- Where none is there once more the first one is not behind itself.
first-once : (m : ℕ) (ms : List ℕ) → repeats (m ∷ ms) ≡ 0 → times m ms ≡ 0
first-once m ms z = by (nat_lt 0 (times m ms)) refl z
  where
    by : (b : Bool) → nat_lt 0 (times m ms) ≡ b → repeats ms + cond b 1 0 ≡ 0 → times m ms ≡ 0
    by true l g = absurd (omega (arith, g))
    by false l g = let none = ltb-false 0 (times m ms) l in omega (arith, none)

-- Those behind it are above it.
climbs-above : (m : ℕ) (ms : List ℕ) → ClimbsFrom m ms → times m ms ≡ 0 → ClimbsFrom (m + 1) ms
climbs-above m [] r z = tt
climbs-above m (k ∷ ks) r z = by (k == m) refl (times-cons m k ks)
  where
    by : (b : Bool) → (k == m) ≡ b → times m (k ∷ ks) ≡ times m ks + cond b 1 0 → ClimbsFrom (m + 1) (k ∷ ks)
    by true e first = absurd (omega (arith, z, first))
    by false e first =
        let other = eqb-false k m e in
        let least = r.0 in
        (omega (arith, other, least), r.1)

-- The place of the next index is one further just where the index is there.
pub place-next : (low n : ℕ) (ns : List ℕ) → ClimbsFrom low ns → repeats ns ≡ 0
    → place_for (n + 1) ns ≡ place_for n ns + cond (list_any (is_between n n) ns) 1 0
place-next low n [] r z = omega arith
place-next low n (m ∷ ms) r z =
    by (nat_lt m n) refl (nat_lt m (n + 1)) refl (place-next m n ms r.1 (omega (arith, z)))
  where
    before : (a b : Bool) → a ≡ false → place_for (n + 1) ms ≡ place_for n ms + cond (list_any (is_between n n) ms) 1 0
        → suc (place_for (n + 1) ms) ≡ suc (place_for n ms) + cond ((a && b) || list_any (is_between n n) ms) 1 0
    before true b e ih = absurd (true≢false e)
    before false b e ih = omega (arith, ih)

    here : (a b : Bool) → a ≡ true → b ≡ true → place_for (n + 1) ms ≡ 0
        → suc (place_for (n + 1) ms) ≡ 0 + cond ((a && b) || list_any (is_between n n) ms) 1 0
    here true true e f none = omega (arith, none)
    here true false e f none = absurd (true≢false (sym f))
    here false b e f none = absurd (true≢false (sym e))

    above : (b : Bool) → b ≡ false → 0 ≡ 0 + cond b 1 0
    above true e = absurd (true≢false e)
    above false e = omega arith

    by : (a : Bool) → nat_lt m n ≡ a → (b : Bool) → nat_lt m (n + 1) ≡ b
        → place_for (n + 1) ms ≡ place_for n ms + cond (list_any (is_between n n) ms) 1 0
        → cond b (suc (place_for (n + 1) ms)) 0 ≡ cond a (suc (place_for n ms)) 0 + cond (list_any (is_between n n) (m ∷ ms)) 1 0
    by true l true h ih = before (nat_le n m) (nat_le m n) (lt-leb n m (ltb-true m n l)) ih
    by true l false h ih =
        let below = ltb-true m n l in
        let past = ltb-false m (n + 1) h in
        absurd (omega (arith, below, past))
    by false l true h ih =
        let from = ltb-false m n l in
        let to = ltb-true m (n + 1) h in
        here (nat_le n m) (nat_le m n) (le-leb n m from) (le-leb m n (omega (arith, to)))
        (place-below (m + 1) (n + 1) ms (omega (arith, from)) (climbs-above m ms r.1 (first-once m ms z)))
    by false l false h ih =
        let past = ltb-false m (n + 1) h in
        above (list_any (is_between n n) (m ∷ ms)) (any-below m n n (m ∷ ms) (omega (arith, past)) (omega arith, r.1))

-- ---- a run of numbers

-- The places grow by one just at the numbers that pass.
module _ (place : ℕ → ℕ) (test : ℕ → Bool) (next : (n : ℕ) → place (n + 1) ≡ place n + cond (test n) 1 0) where
  -- They grow by at most one for each number.
  grows : (from k : ℕ) → place (from + k) ≤ place from + k
  grows from zero = let is : place (from + zero) ≡ place from = ap place (omega arith) in omega (arith, is)
  grows from (suc k) = by (test (from + k)) (next (from + k)) (grows from k) (ap place (omega arith))
    where
      by : (b : Bool) → place (from + k + 1) ≡ place (from + k) + cond b 1 0 → place (from + k) ≤ place from + k
          → place (from + suc k) ≡ place (from + k + 1) → place (from + suc k) ≤ place from + suc k
      by true one ih is = omega (arith, one, ih, is)
      by false one ih is = omega (arith, one, ih, is)

  -- Where they grow by as much each number passes.
  all-pass : (from k n : ℕ) → place (from + k) ≡ place from + k → from ≤ n → n < from + k → test n ≡ true
  all-pass from zero n full low high = absurd (omega (arith, low, high))
  all-pass from (suc k) n full low high =
      by (test (from + k)) refl (next (from + k)) (n == from + k) refl (ap place (omega arith)) (all-pass from k n)
    where
      by : (b : Bool) → test (from + k) ≡ b → place (from + k + 1) ≡ place (from + k) + cond b 1 0 → (s : Bool) → (n == from + k) ≡ s
          → place (from + suc k) ≡ place (from + k + 1) → (place (from + k) ≡ place from + k → from ≤ n → n < from + k → test n ≡ true)
          → test n ≡ true
      by true passes one true s is ih = ap test (eqb-true n (from + k) s) ∙ passes
      by true passes one false s is ih =
          let other = eqb-false n (from + k) s in
          ih (omega (arith, full, one, is)) low (omega (arith, high, other))
      by false fails one same s is ih =
          let most = grows from k in
          absurd (omega (arith, full, one, is, most))

  -- They do not fall.
  climbs : (from to : ℕ) → from ≤ to → place from ≤ place to
  climbs from to h = by (to - from) (omega (arith, h))
    where
      rest : (k : ℕ) → place from ≤ place (from + k)
      rest zero = let is : place (from + zero) ≡ place from = ap place (omega arith) in omega (arith, is)
      rest (suc k) =
          let is : place (from + suc k) ≡ place (from + k + 1) = ap place (omega arith) in
          let one = next (from + k) in
          let ih = rest k in
          omega (arith, is, one, ih)

      by : (k : ℕ) → from + k ≡ to → place from ≤ place to
      by k is = let same = ap place is in let ih = rest k in omega (arith, same, ih)

  -- Up to the end of a run each passes.
  run-passes : (from to n : ℕ) → from ≤ to → place to ≡ place from + (to - from) → from ≤ n → n < to → test n ≡ true
  run-passes from to n h full low high =
      let is : place (from + (to - from)) ≡ place to = ap place (omega (arith, h)) in
      all-pass from (to - from) n (is ∙ full) low (omega (arith, h, high))

  -- Behind it one does not.
  run-ends : (from to : ℕ) → from ≤ to → place to ≡ place from + (to - from) → (place (to + 1) ≡ place from + (to + 1 - from) → ⊥) → test to ≡ false
  run-ends from to h full past = by (test to) refl (next to)
    where
      by : (b : Bool) → test to ≡ b → place (to + 1) ≡ place to + cond b 1 0 → test to ≡ false
      by true passes one = absurd (past (omega (arith, full, one, h)))
      by false fails one = fails

-- ---- a run of indexes

-- Of indexes none of which is there twice.
module _ (ns : List ℕ) (r : ClimbsFrom 0 ns) (once : repeats ns ≡ 0) where
  -- The places do not fall.
  pub places-climb : (from to : ℕ) → from ≤ to → place_for from ns ≤ place_for to ns
  places-climb = climbs (λ n. place_for n ns) (λ n. list_any (is_between n n) ns) (λ n. place-next 0 n ns r once)

  -- Where they grow as the numbers do each is there.
  pub places-full : (from to n : ℕ) → from ≤ to → place_for to ns ≡ place_for from ns + (to - from) → from ≤ n → n < to → list_any (is_between n n) ns ≡ true
  places-full = run-passes (λ n. place_for n ns) (λ n. list_any (is_between n n) ns) (λ n. place-next 0 n ns r once)

  -- Where they do so no further the next is not there.
  pub places-end : (from to : ℕ) → from ≤ to → place_for to ns ≡ place_for from ns + (to - from) → (place_for (to + 1) ns ≡ place_for from ns + (to + 1 - from) → ⊥)
      → list_any (is_between to to) ns ≡ false
  places-end = run-ends (λ n. place_for n ns) (λ n. list_any (is_between n n) ns) (λ n. place-next 0 n ns r once)

-- ---- a walk

-- Where each passes up to one that passes, each passes up to the next.
pub passes-further : (test : ℕ → Bool) (from i : ℕ) → ((n : ℕ) → from ≤ n → n < i → test n ≡ true) → test i ≡ true → (n : ℕ) → from ≤ n → n < i + 1 → test n ≡ true
passes-further test from i before here n low high = by (n == i) refl
  where
    by : (s : Bool) → (n == i) ≡ s → test n ≡ true
    by true s = ap test (eqb-true n i s) ∙ here
    by false s = let other = eqb-false n i s in before n low (omega (arith, high, other))
