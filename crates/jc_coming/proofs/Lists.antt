-- How many members of a list pass one test and another.
use Rattle.std.proofs.Common.{◌≡◌, ℕ, suc, ◌+◌, ◌*◌, ◌≤◌, Bool, true, false, cond, List, [], ◌∷◌, ◌++◌, filter, length, map, Option, Some, None, is_some, refl, sym, ap, ◌∙◌, arith, true≢false}
use Rattle.std.specs.List.{AllByRecursion as Each}
use Rattle.jc_types.specs.declared.objects.Job.{Job}
use Rattle.jc_types.specs.declared.objects.KeyNames.{KeyNames as Key}
use Rattle.jc_types.specs.Keys.{same_key}
use Rattle.jc_types.proofs.KeyFacts.{same_key-eq}
use Rattle.jc_log.specs.Tables.{at, puts}

-- 1 where it holds.
abbrev pub one_if : Bool → ℕ
one_if b = cond b 1 0

pub one-most : (b : Bool) → one_if b ≤ 1
one-most true = omega arith
one-most false = omega arith

-- ---- lengths

pub length-last : {A : Type 0} (xs : List A) (x : A) → length (xs ++ x ∷ []) ≡ length xs + 1
length-last [] x = refl
length-last (y ∷ xs) x = let ih = length-last xs x in omega (arith, ih)

pub length-mapped : {A B : Type 0} (f : A → B) (xs : List A) → length (map f xs) ≡ length xs
length-mapped f [] = refl
length-mapped f (x ∷ xs) = ap suc (length-mapped f xs)

-- What is as long as before has not got one more.
pub not-longer : {A : Type 0} (xs : List A) (x : A) → xs ++ x ∷ [] ≡ xs → ⊥
not-longer xs x e = let more = length-last xs x in let same = ap length e in omega (arith, more, same)

-- ---- filters

module _ {A : Type 0} where
  pub length-first : (p : A → Bool) (x : A) (xs : List A) → length (filter p (x ∷ xs)) ≡ one_if (p x) + length (filter p xs)
  length-first p x xs = by (p x)
    where
      by : (b : Bool) → length (cond b (x ∷ filter p xs) (filter p xs)) ≡ one_if b + length (filter p xs)
      by true = omega arith
      by false = omega arith

  -- Where none passes, each fails.
  pub none-pass : (p : A → Bool) (xs : List A) → length (filter p xs) ≡ 0 → Each (λ x. p x ≡ false) xs
  none-pass p [] e = tt
  none-pass p (x ∷ xs) e = by (p x) refl e (none-pass p xs)
    where
      by : (b : Bool) → p x ≡ b → length (cond b (x ∷ filter p xs) (filter p xs)) ≡ 0 → (length (filter p xs) ≡ 0 → Each (λ y. p y ≡ false) xs) → (p x ≡ false) × Each (λ y. p y ≡ false) xs
      by true s e more = absurd (omega (arith, e))
      by false s e more = (s, more e)

  -- Of two of one kind and one of another no more pass, where it is so of each member.
  pub two-fall : (a b c d : A → Bool) → ((x : A) → 2 * one_if (a x) + one_if (b x) ≤ 2 * one_if (c x) + one_if (d x)) → (xs : List A)
      → 2 * length (filter a xs) + length (filter b xs) ≤ 2 * length (filter c xs) + length (filter d xs)
  two-fall a b c d h [] = omega arith
  two-fall a b c d h (x ∷ xs) =
      let one = h x in
      let ih = two-fall a b c d h xs in
      let fa = length-first a x xs in
      let fb = length-first b x xs in
      let fc = length-first c x xs in
      let fd = length-first d x xs in
      omega (arith, one, ih, fa, fb, fc, fd)

  -- No more pass a stronger test.
  pub stronger-fewer : (strong weak : A → Bool) → ((x : A) → strong x ≡ true → weak x ≡ true) → (xs : List A) → length (filter strong xs) ≤ length (filter weak xs)
  stronger-fewer strong weak h [] = omega arith
  stronger-fewer strong weak h (x ∷ xs) =
      let one = one-below (strong x) (weak x) (h x) in
      let ih = stronger-fewer strong weak h xs in
      let fs = length-first strong x xs in
      let fw = length-first weak x xs in
      omega (arith, one, ih, fs, fw)
    where
      one-below : (s w : Bool) → (s ≡ true → w ≡ true) → one_if s ≤ one_if w
      one-below false w h = omega arith
      one-below true w h = let is = ap one_if (h refl) in omega (arith, is)

  -- Where as many pass, the same pass.
  pub as-many-same : (strong weak : A → Bool) → ((x : A) → strong x ≡ true → weak x ≡ true) → (xs : List A) → length (filter weak xs) ≤ length (filter strong xs)
      → Each (λ x. weak x ≡ true → strong x ≡ true) xs
  as-many-same strong weak h [] le = tt
  as-many-same strong weak h (x ∷ xs) le =
      let few = stronger-fewer strong weak h xs in
      let fs = length-first strong x xs in
      let fw = length-first weak x xs in
      by (strong x) refl (weak x) refl (omega (arith, le, few, fs, fw)) (omega (arith, le, fs, fw)) (λ rest. as-many-same strong weak h xs rest)
    where
      by : (s : Bool) → strong x ≡ s → (w : Bool) → weak x ≡ w → one_if (weak x) ≤ one_if (strong x) → one_if (weak x) + length (filter weak xs) ≤ one_if (strong x) + length (filter strong xs)
          → (length (filter weak xs) ≤ length (filter strong xs) → Each (λ y. weak y ≡ true → strong y ≡ true) xs)
          → (weak x ≡ true → strong x ≡ true) × Each (λ y. weak y ≡ true → strong y ≡ true) xs
      by true s true i one both more = let a = ap one_if s in let b = ap one_if i in ((λ g. s), more (omega (arith, both, a, b)))
      by true s false i one both more = absurd (true≢false (sym (h x s) ∙ i))
      by false s true i one both more = let a = ap one_if s in let b = ap one_if i in absurd (omega (arith, one, a, b))
      by false s false i one both more = let a = ap one_if s in let b = ap one_if i in ((λ g. absurd (true≢false (sym g ∙ i))), more (omega (arith, both, a, b)))

-- ---- the rows of a table

-- One value in the place of another: of the rest as many pass.
pub puts-one : (p : Key × Job → Bool) (rows : List (Key × Job)) (k : Key) (old new : Job) → at same_key rows k ≡ Some old
    → length (filter p (puts same_key rows k new)) + one_if (p (k, old)) ≡ length (filter p rows) + one_if (p (k, new))
puts-one p [] k old new e = absurd (true≢false (sym (ap is_some e)))
puts-one p (row ∷ rows) k old new e = by (same_key k row.0) refl e (λ h. puts-one p rows k old new h)
  where
    by : (m : Bool) → same_key k row.0 ≡ m → cond m (Some row.1) (at same_key rows k) ≡ Some old
        → (at same_key rows k ≡ Some old → length (filter p (puts same_key rows k new)) + one_if (p (k, old)) ≡ length (filter p rows) + one_if (p (k, new)))
        → length (filter p (cond m ((row.0, new) ∷ rows) (row ∷ puts same_key rows k new))) + one_if (p (k, old)) ≡ length (filter p (row ∷ rows)) + one_if (p (k, new))
    by true s e more =
        let was = length-first p row rows in
        let is = length-first p (row.0, new) rows in
        let as-old = ap one_if (ap (λ z. p (z, row.1)) (same_key-eq k row.0 s)) in
        let as-new = ap one_if (ap (λ z. p (z, new)) (same_key-eq k row.0 s)) in
        let old-is = ap (λ o. one_if (p (k, value row.1 o))) e in
        omega (arith, was, is, as-old, as-new, old-is)
      where
        value : Job → Option Job → Job
        value d None = d
        value d (Some job) = job
    by false s e more =
        let ih = more e in
        let was = length-first p row rows in
        let is = length-first p row (puts same_key rows k new) in
        omega (arith, was, is, ih)
