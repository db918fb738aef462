-- Rows under numbers: what a look-up, a write and a removal under a number are among the rows by key.
use Rattle.std.proofs.Common.{◌≡◌, ℕ, ◌+◌, ◌≤◌, ◌==◌, ◌||◌, nat_lt, nat_cmp, Less, Equal, Greater, Bool, true, false, cond, List, [], ◌∷◌, ◌++◌, Option, Some, None, IsSome, is_some, refl, sym, ap, subst, ◌∙◌, arith, true≢false, ltb-true}
use Rattle.std.proofs.Common.{eqb-true, eq-eqb, ne_eqb, option_map}
use Rattle.std.proofs.lemmas.Bool.{cond-false}
use Rattle.std.proofs.lemmas.Map.Keys.{IsDistinct-head, IsDistinct-tail, IsDistinct-cons, IsDistinct-push}
use Rattle.std.proofs.lemmas.Option.{same_Some}
use Rattle.std.specs.BTreeMap.{insert_entry, is_at}
use Rattle.std.specs.Cmp.{IsEquivalence}
use Rattle.std.specs.List.{AllByRecursion, IsDistinct, list_any}
use Rattle.std.specs.Map.{keys_of, values_of, lookup, remove_entry, set_value}
use Rattle.std.specs.Option.{IfSome}
use Rattle.std.specs.Ordering.{match_ordering}
use Rattle.jc_log.specs.Tables.{at, puts, takes, Sets}
use Rattle.jc_table.specs.Numbered.{Ascend, AreNumbered, key_numbers}
use Rattle.jc_table.proofs.Numbers.{asks}

-- ---- tables by any equality

module _ {K X : Type 0} (same : K → K → Bool) (o : IsEquivalence same) where
  -- Nothing stands at a key that is the same as one apart from all.
  none_later : (k q : K) (rows : List (K × X)) → same k q ≡ true → AllByRecursion (λ j. same k j ≡ false) (keys_of rows) → at same rows q ≡ None
  none_later k q [] t h = refl
  none_later k q (row ∷ rows) t h =
      cond-false (same q row.0) (Some row.1) (at same rows q) (sym (o.congr k q row.0 t) ∙ h.0) ∙ none_later k q rows t h.1

  -- A value that is put stands at its key, and every other key is as before.
  pub puts-sets : (k : K) (v : X) (rows : List (K × X)) → Sets same rows (puts same rows k v) k (Some v)
  puts-sets k v [] q = ap (λ b. cond b (Some v) None) (o.symm q k)
  puts-sets k v (row ∷ rows) q = by (same k row.0) refl (puts-sets k v rows q)
    where
      by : (b : Bool) → same k row.0 ≡ b → at same (puts same rows k v) q ≡ cond (same k q) (Some v) (at same rows q)
          → at same (cond b ((row.0, v) ∷ rows) (row ∷ puts same rows k v)) q ≡ cond (same k q) (Some v) (cond (same q row.0) (Some row.1) (at same rows q))
      by true t rest = at_row (same q row.0) (same k q) (o.symm q row.0 ∙ sym (o.congr k row.0 q t))
        where
          at_row : (a c : Bool) → a ≡ c → cond a (Some v) (at same rows q) ≡ cond c (Some v) (cond a (Some row.1) (at same rows q))
          at_row true true e = refl
          at_row false false e = refl
          at_row true false e = absurd (true≢false e)
          at_row false true e = absurd (true≢false (sym e))
      by false t rest = below (same q row.0) refl
        where
          below : (a : Bool) → same q row.0 ≡ a → cond a (Some row.1) (at same (puts same rows k v) q) ≡ cond (same k q) (Some v) (cond a (Some row.1) (at same rows q))
          below true s =
              let other : same k q ≡ false = o.symm k q ∙ o.congr q row.0 k s ∙ o.symm row.0 k ∙ t in
              sym (cond-false (same k q) (Some v) (Some row.1) other)
          below false s = rest

  -- A row that is taken leaves nothing at its key, and every other key is as before.
  pub takes-sets : (k : K) (rows : List (K × X)) → IsDistinct same (keys_of rows) → Sets same rows (takes same rows k) k None
  takes-sets k [] d q = by (same k q)
    where
      by : (b : Bool) → at {V = X} same [] q ≡ cond b None (at {V = X} same [] q)
      by true = refl
      by false = refl
  takes-sets k (row ∷ rows) d q =
      by (same k row.0) refl (takes-sets k rows (IsDistinct-tail same row.0 (keys_of rows) d) q)
    where
      by : (b : Bool) → same k row.0 ≡ b → at same (takes same rows k) q ≡ cond (same k q) None (at same rows q)
          → at same (cond b rows (row ∷ takes same rows k)) q ≡ cond (same k q) None (cond (same q row.0) (Some row.1) (at same rows q))
      by true t rest = at_row (same q row.0) (same k q) (o.symm q row.0 ∙ sym (o.congr k row.0 q t)) refl
        where
          at_row : (a c : Bool) → a ≡ c → same q row.0 ≡ a → at same rows q ≡ cond c None (cond a (Some row.1) (at same rows q))
          at_row true true e s = none_later row.0 q rows (o.symm row.0 q ∙ s) (IsDistinct-head same row.0 (keys_of rows) d)
          at_row false false e s = refl
          at_row true false e s = absurd (true≢false e)
          at_row false true e s = absurd (true≢false (sym e))
      by false t rest = below (same q row.0) refl
        where
          below : (a : Bool) → same q row.0 ≡ a → cond a (Some row.1) (at same (takes same rows k) q) ≡ cond (same k q) None (cond a (Some row.1) (at same rows q))
          below true s =
              let other : same k q ≡ false = o.symm k q ∙ o.congr q row.0 k s ∙ o.symm row.0 k ∙ t in
              sym (cond-false (same k q) None (Some row.1) other)
          below false s = rest

module _ {K X : Type 0} (same : K → K → Bool) where
  -- A row is taken at a key that no row has: the table stays as it is.
  pub takes-none : (k : K) (rows : List (K × X)) → at same rows k ≡ None → takes same rows k ≡ rows
  takes-none k [] h = refl
  takes-none k (row ∷ rows) h = by (same k row.0) h (takes-none k rows)
    where
      by : (b : Bool) → cond b (Some row.1) (at same rows k) ≡ None → (at same rows k ≡ None → takes same rows k ≡ rows) → cond b rows (row ∷ takes same rows k) ≡ row ∷ rows
      by true h rest = absurd (true≢false (ap is_some h))
      by false h rest = ap (λ rows. row ∷ rows) (rest h)

  none_same : (k : K) (rows : List (K × X)) → at same rows k ≡ None → list_any (same k) (keys_of rows) ≡ false
  none_same k [] h = refl
  none_same k (row ∷ rows) h = by (same k row.0) h (none_same k rows)
    where
      by : (b : Bool) → cond b (Some row.1) (at same rows k) ≡ None → (at same rows k ≡ None → list_any (same k) (keys_of rows) ≡ false) → (b || list_any (same k) (keys_of rows)) ≡ false
      by true h rest = absurd (true≢false (ap is_some h))
      by false h rest = rest h

  -- A value that is put at a new key stands last.
  puts-new : (k : K) (v : X) (rows : List (K × X)) → at same rows k ≡ None → puts same rows k v ≡ rows ++ (k, v) ∷ []
  puts-new k v [] h = refl
  puts-new k v (row ∷ rows) h = by (same k row.0) h (puts-new k v rows)
    where
      by : (b : Bool) → cond b (Some row.1) (at same rows k) ≡ None → (at same rows k ≡ None → puts same rows k v ≡ rows ++ (k, v) ∷ [])
          → cond b ((row.0, v) ∷ rows) (row ∷ puts same rows k v) ≡ row ∷ rows ++ (k, v) ∷ []
      by true h rest = absurd (true≢false (ap is_some h))
      by false h rest = ap (λ rows. row ∷ rows) (rest h)

  all_left : (P : K → Type 0) (k : K) (rows : List (K × X)) → AllByRecursion P (keys_of rows) → AllByRecursion P (keys_of (takes same rows k))
  all_left P k [] h = tt
  all_left P k (row ∷ rows) h = by (same k row.0) (all_left P k rows h.1)
    where
      by : (b : Bool) → AllByRecursion P (keys_of (takes same rows k)) → AllByRecursion P (keys_of (cond b rows (row ∷ takes same rows k)))
      by true rest = h.1
      by false rest = (h.0, rest)

  takes-distinct : (k : K) (rows : List (K × X)) → IsDistinct same (keys_of rows) → IsDistinct same (keys_of (takes same rows k))
  takes-distinct k [] d = d
  takes-distinct k (row ∷ rows) d = by (same k row.0) (takes-distinct k rows (IsDistinct-tail same row.0 (keys_of rows) d))
    where
      by : (b : Bool) → IsDistinct same (keys_of (takes same rows k)) → IsDistinct same (keys_of (cond b rows (row ∷ takes same rows k)))
      by true rest = IsDistinct-tail same row.0 (keys_of rows) d
      by false rest =
          IsDistinct-cons same row.0 (keys_of (takes same rows k)) (all_left (λ j. same row.0 j ≡ false) k rows (IsDistinct-head same row.0 (keys_of rows) d)) rest

keys-push : {K X : Type 0} (k : K) (v : X) (rows : List (K × X)) → keys_of (rows ++ (k, v) ∷ []) ≡ keys_of rows ++ k ∷ []
keys-push k v [] = refl
keys-push k v (row ∷ rows) = ap (λ keys. row.0 ∷ keys) (keys-push k v rows)

-- ---- the numbers

module _ {K V : Type 0} where
  numbered-keys : (rows : List (ℕ × (K × V))) → keys_of (key_numbers rows) ≡ keys_of (values_of rows)
  numbered-keys [] = refl
  numbered-keys (row ∷ rows) = ap (λ keys. row.1.0 ∷ keys) (numbered-keys rows)

  weaker : (low above next : ℕ) (rows : List (ℕ × (K × V))) → low ≤ above → Ascend above next rows → Ascend low next rows
  weaker low above next [] h up = tt
  weaker low above next (row ∷ rows) h up = (omega (arith, h, up.0), up.1, up.2)

  ascend-less : (t : ℕ → Bool) (low next : ℕ) (rows : List (ℕ × (K × V))) → Ascend low next rows → Ascend low next (remove_entry t rows)
  ascend-less t low next [] up = tt
  ascend-less t low next (row ∷ rows) up = by (t row.0) (ascend-less t (row.0 + 1) next rows up.2)
    where
      by : (b : Bool) → Ascend (row.0 + 1) next (remove_entry t rows) → Ascend low next (cond b rows (row ∷ remove_entry t rows))
      by true rest = weaker low (row.0 + 1) next rows (omega (arith, up.0)) up.2
      by false rest = (up.0, up.1, rest)

  ascend-set : (t : ℕ → Bool) (w : K × V) (low next : ℕ) (rows : List (ℕ × (K × V))) → Ascend low next rows → Ascend low next (set_value t rows w)
  ascend-set t w low next [] up = tt
  ascend-set t w low next (row ∷ rows) up = by (t row.0) (ascend-set t w (row.0 + 1) next rows up.2)
    where
      by : (b : Bool) → Ascend (row.0 + 1) next (set_value t rows w) → Ascend low next (cond b ((row.0, w) ∷ rows) (row ∷ set_value t rows w))
      by true rest = (up.0, up.1, up.2)
      by false rest = (up.0, up.1, rest)

  ascend-push : (w : K × V) (low next : ℕ) (rows : List (ℕ × (K × V))) → low ≤ next → Ascend low next rows → Ascend low (next + 1) (rows ++ (next, w) ∷ [])
  ascend-push w low next [] h up = (h, omega arith, tt)
  ascend-push w low next (row ∷ rows) h up = (up.0, omega (arith, up.1), ascend-push w (row.0 + 1) next rows (omega (arith, up.1)) up.2)

  -- What is inserted under the next number stands last.
  inserted-last : (w : K × V) (low next : ℕ) (rows : List (ℕ × (K × V))) → Ascend low next rows → insert_entry nat_cmp rows next w ≡ rows ++ (next, w) ∷ []
  inserted-last w low next [] up = refl
  inserted-last w low next (row ∷ rows) up = by (nat_lt next row.0) refl (next == row.0) refl (inserted-last w (row.0 + 1) next rows up.2)
    where
      by : (lt : Bool) → nat_lt next row.0 ≡ lt → (eq : Bool) → (next == row.0) ≡ eq → insert_entry nat_cmp rows next w ≡ rows ++ (next, w) ∷ []
          → match_ordering (cond lt Less (cond eq Equal Greater)) ((next, w) ∷ row ∷ rows) ((row.0, w) ∷ rows) (row ∷ insert_entry nat_cmp rows next w) ≡ row ∷ rows ++ (next, w) ∷ []
      by true l eq e rest = let below = ltb-true next row.0 l in absurd (omega (arith, below, up.1))
      by false l true e rest = let is = eqb-true next row.0 e in absurd (omega (arith, is, up.1))
      by false l false e rest = ap (λ rows. row ∷ rows) rest

  -- What is inserted under the next number and taken out again leaves the rows as they were.
  removed-last : (w : K × V) (low next : ℕ) (rows : List (ℕ × (K × V))) → Ascend low next rows → remove_entry (λ j. next == j) (rows ++ (next, w) ∷ []) ≡ rows
  removed-last w low next [] up = ap (λ b. cond b [] ((next, w) ∷ [])) (eq-eqb next next refl)
  removed-last w low next (row ∷ rows) up =
      ap (λ b. cond b (rows ++ (next, w) ∷ []) (row ∷ remove_entry (λ j. next == j) (rows ++ (next, w) ∷ []))) (ne_eqb next row.0 (omega (arith, up.1)))
      ∙ ap (λ rows. row ∷ rows) (removed-last w (row.0 + 1) next rows up.2)

module _ {K V : Type 0} (same : K → K → Bool) where
  -- A key has a number exactly where it has a row.
  there-too : (k : K) (rows : List (ℕ × (K × V))) → is_some (at same (key_numbers rows) k) ≡ is_some (at same (values_of rows) k)
  there-too k [] = refl
  there-too k (row ∷ rows) = by (same k row.1.0) (there-too k rows)
    where
      by : (b : Bool) → is_some (at same (key_numbers rows) k) ≡ is_some (at same (values_of rows) k)
          → is_some (cond b (Some row.0) (at same (key_numbers rows) k)) ≡ is_some (cond b (Some row.1.1) (at same (values_of rows) k))
      by true rest = refl
      by false rest = rest

  number-from : (k : K) (low next s : ℕ) (rows : List (ℕ × (K × V))) → Ascend low next rows → at same (key_numbers rows) k ≡ Some s → low ≤ s
  number-from k low next s [] up is = absurd (true≢false (sym (ap is_some is)))
  number-from k low next s (row ∷ rows) up is = by (same k row.1.0) is (number-from k (row.0 + 1) next s rows up.2)
    where
      by : (b : Bool) → cond b (Some row.0) (at same (key_numbers rows) k) ≡ Some s → (at same (key_numbers rows) k ≡ Some s → row.0 + 1 ≤ s) → low ≤ s
      by true is rest = let e = same_Some row.0 s is in omega (arith, up.0, e)
      by false is rest = let far = rest is in omega (arith, up.0, far)

  -- The row under the number of a key is that of the key.
  numbered-found : (k : K) (low next s : ℕ) (rows : List (ℕ × (K × V))) → Ascend low next rows → at same (key_numbers rows) k ≡ Some s
      → option_map (λ row. row.1) (lookup (λ j. s == j) rows) ≡ at same (values_of rows) k
  numbered-found k low next s [] up is = refl
  numbered-found k low next s (row ∷ rows) up is =
      by (same k row.1.0) is (number-from k (row.0 + 1) next s rows up.2) (numbered-found k (row.0 + 1) next s rows up.2)
    where
      by : (b : Bool) → cond b (Some row.0) (at same (key_numbers rows) k) ≡ Some s → (at same (key_numbers rows) k ≡ Some s → row.0 + 1 ≤ s)
          → (at same (key_numbers rows) k ≡ Some s → option_map (λ row. row.1) (lookup (λ j. s == j) rows) ≡ at same (values_of rows) k)
          → option_map (λ row. row.1) (cond (s == row.0) (Some row.1) (lookup (λ j. s == j) rows)) ≡ cond b (Some row.1.1) (at same (values_of rows) k)
      by true is far rest =
          ap (λ b. option_map (λ (row : K × V). row.1) (cond b (Some row.1) (lookup (λ j. s == j) rows))) (eq-eqb s row.0 (sym (same_Some row.0 s is)))
      by false is far rest =
          let above = far is in
          ap (λ b. option_map (λ (row : K × V). row.1) (cond b (Some row.1) (lookup (λ j. s == j) rows))) (ne_eqb s row.0 (omega (arith, above))) ∙ rest is

  -- The row under the number of a key is taken out.
  numbered-taken : (k : K) (low next s : ℕ) (rows : List (ℕ × (K × V))) → Ascend low next rows → at same (key_numbers rows) k ≡ Some s
      → (values_of (remove_entry (λ j. s == j) rows) ≡ takes same (values_of rows) k) × (key_numbers (remove_entry (λ j. s == j) rows) ≡ takes same (key_numbers rows) k)
  numbered-taken k low next s [] up is = (refl, refl)
  numbered-taken k low next s (row ∷ rows) up is =
      by (same k row.1.0) is (number-from k (row.0 + 1) next s rows up.2) (numbered-taken k (row.0 + 1) next s rows up.2)
    where
      by : (b : Bool) → cond b (Some row.0) (at same (key_numbers rows) k) ≡ Some s → (at same (key_numbers rows) k ≡ Some s → row.0 + 1 ≤ s)
          → (at same (key_numbers rows) k ≡ Some s
          → (values_of (remove_entry (λ j. s == j) rows) ≡ takes same (values_of rows) k) × (key_numbers (remove_entry (λ j. s == j) rows) ≡ takes same (key_numbers rows) k))
          → (values_of (cond (s == row.0) rows (row ∷ remove_entry (λ j. s == j) rows)) ≡ cond b (values_of rows) (row.1 ∷ takes same (values_of rows) k))
          × (key_numbers (cond (s == row.0) rows (row ∷ remove_entry (λ j. s == j) rows)) ≡ cond b (key_numbers rows) ((row.1.0, row.0) ∷ takes same (key_numbers rows) k))
      by true is far rest =
          let e = eq-eqb s row.0 (sym (same_Some row.0 s is)) in
          (ap (λ b. values_of (cond b rows (row ∷ remove_entry (λ j. s == j) rows))) e, ap (λ b. key_numbers (cond b rows (row ∷ remove_entry (λ j. s == j) rows))) e)
      by false is far rest =
          let above = far is in
          let e = ne_eqb s row.0 (omega (arith, above)) in
          let left = rest is in (
            ap (λ b. values_of (cond b rows (row ∷ remove_entry (λ j. s == j) rows))) e ∙ ap (λ rows. row.1 ∷ rows) left.0,
            ap (λ b. key_numbers (cond b rows (row ∷ remove_entry (λ j. s == j) rows))) e ∙ ap (λ rows. (row.1.0, row.0) ∷ rows) left.1,
          )

  -- The value is set in the row under the number of a key.
  numbered-set : (k : K) (v : V) (r : K × V) (low next s : ℕ) (rows : List (ℕ × (K × V))) → Ascend low next rows → at same (key_numbers rows) k ≡ Some s → lookup (λ j. s == j) rows ≡ Some r
      → (values_of (set_value (λ j. s == j) rows (r.0, v)) ≡ puts same (values_of rows) k v) × (key_numbers (set_value (λ j. s == j) rows (r.0, v)) ≡ key_numbers rows)
  numbered-set k v r low next s [] up is there = absurd (true≢false (sym (ap is_some is)))
  numbered-set k v r low next s (row ∷ rows) up is there =
      by (same k row.1.0) is (number-from k (row.0 + 1) next s rows up.2) (numbered-set k v r (row.0 + 1) next s rows up.2)
    where
      by : (b : Bool) → cond b (Some row.0) (at same (key_numbers rows) k) ≡ Some s → (at same (key_numbers rows) k ≡ Some s → row.0 + 1 ≤ s)
          → (at same (key_numbers rows) k ≡ Some s → lookup (λ j. s == j) rows ≡ Some r
          → (values_of (set_value (λ j. s == j) rows (r.0, v)) ≡ puts same (values_of rows) k v) × (key_numbers (set_value (λ j. s == j) rows (r.0, v)) ≡ key_numbers rows))
          → (values_of (cond (s == row.0) ((row.0, (r.0, v)) ∷ rows) (row ∷ set_value (λ j. s == j) rows (r.0, v))) ≡ cond b ((row.1.0, v) ∷ values_of rows) (row.1 ∷ puts same (values_of rows) k v))
          × (key_numbers (cond (s == row.0) ((row.0, (r.0, v)) ∷ rows) (row ∷ set_value (λ j. s == j) rows (r.0, v))) ≡ (row.1.0, row.0) ∷ key_numbers rows)
      by true is far rest =
          let e = eq-eqb s row.0 (sym (same_Some row.0 s is)) in
          let is_row : row.1 ≡ r = same_Some row.1 r (ap (λ b. cond b (Some row.1) (lookup (λ j. s == j) rows)) (sym e) ∙ there) in (
            ap (λ b. values_of (cond b ((row.0, (r.0, v)) ∷ rows) (row ∷ set_value (λ j. s == j) rows (r.0, v)))) e ∙ ap (λ (r : K × V). (r.0, v) ∷ values_of rows) (sym is_row),
            ap (λ b. key_numbers (cond b ((row.0, (r.0, v)) ∷ rows) (row ∷ set_value (λ j. s == j) rows (r.0, v)))) e ∙ ap (λ (r : K × V). (r.0, row.0) ∷ key_numbers rows) (sym is_row),
          )
      by false is far rest =
          let above = far is in
          let e = ne_eqb s row.0 (omega (arith, above)) in
          let left = rest is (ap (λ b. cond b (Some row.1) (lookup (λ j. s == j) rows)) (sym e) ∙ there) in (
            ap (λ b. values_of (cond b ((row.0, (r.0, v)) ∷ rows) (row ∷ set_value (λ j. s == j) rows (r.0, v)))) e ∙ ap (λ rows. row.1 ∷ rows) left.0,
            ap (λ b. key_numbers (cond b ((row.0, (r.0, v)) ∷ rows) (row ∷ set_value (λ j. s == j) rows (r.0, v)))) e ∙ ap (λ rows. (row.1.0, row.0) ∷ rows) left.1,
          )

values-push : {K V : Type 0} (n : ℕ) (w : K × V) (rows : List (ℕ × (K × V))) → values_of (rows ++ (n, w) ∷ []) ≡ values_of rows ++ w ∷ []
values-push n w [] = refl
values-push n w (row ∷ rows) = ap (λ rows. row.1 ∷ rows) (values-push n w rows)

numbers-push : {K V : Type 0} (n : ℕ) (w : K × V) (rows : List (ℕ × (K × V))) → key_numbers (rows ++ (n, w) ∷ []) ≡ key_numbers rows ++ (w.0, n) ∷ []
numbers-push n w [] = refl
numbers-push n w (row ∷ rows) = ap (λ rows. (row.1.0, row.0) ∷ rows) (numbers-push n w rows)

pub none_from : {X : Type 0} (r : Option X) → is_some r ≡ false → r ≡ None
none_from None h = refl
none_from (Some x) h = absurd (true≢false h)

-- ---- the table

module _ {K V : Type 0} (same : K → K → Bool) (rows : List (ℕ × (K × V))) (numbers : List (K × ℕ)) (next : ℕ) (are : AreNumbered same rows numbers next) where
  -- A key has a number exactly where it has a row.
  pub is_there : (k : K) → is_some (at same numbers k) ≡ is_some (at same (values_of rows) k)
  is_there k = ap is_some (are.known k) ∙ there-too same k rows

  -- A key without a number has no row.
  pub no_row : (k : K) → at same numbers k ≡ None → at same (values_of rows) k ≡ None
  no_row k none = none_from (at same (values_of rows) k) (sym (is_there k) ∙ ap is_some none)

  pub no_number : (k : K) → at same (values_of rows) k ≡ None → at same numbers k ≡ None
  no_number k none = none_from (at same numbers k) (is_there k ∙ ap is_some none)

  -- The row under the number of a key is that of the key.
  pub found : (k : K) (s : ℕ) → at same numbers k ≡ Some s → option_map (λ row. row.1) (lookup (is_at (nat_cmp s)) rows) ≡ at same (values_of rows) k
  found k s is = ap (λ test. option_map (λ (row : K × V). row.1) (lookup test rows)) (asks s) ∙ numbered-found same k 0 next s rows are.ascend (sym (are.known k) ∙ is)

  -- The number of a key has a row.
  pub has_row : (k : K) (s : ℕ) → at same numbers k ≡ Some s → IsSome (lookup (is_at (nat_cmp s)) rows)
  has_row k s is = by (lookup (is_at (nat_cmp s)) rows) (ap is_some (found k s is) ∙ sym (is_there k) ∙ ap is_some is)
    where
      by : (row : Option (K × V)) → is_some (option_map (λ row. row.1) row) ≡ true → IsSome row
      by None h = absurd (true≢false (sym h))
      by (Some row) h = refl

  -- The row under the number of a key is taken out.
  pub taken-rows : (k : K) (s : ℕ) (new : List (ℕ × (K × V))) → at same numbers k ≡ Some s → new ≡ remove_entry (is_at (nat_cmp s)) rows → values_of new ≡ takes same (values_of rows) k
  taken-rows k s new is out = ap values_of (out ∙ ap (λ test. remove_entry test rows) (asks s)) ∙ (numbered-taken same k 0 next s rows are.ascend (sym (are.known k) ∙ is)).0

  -- The value is set in the row under the number of a key.
  set-both : (k : K) (v : V) (r : K × V) (s : ℕ) → at same numbers k ≡ Some s → lookup (is_at (nat_cmp s)) rows ≡ Some r
      → (values_of (set_value (λ j. s == j) rows (r.0, v)) ≡ puts same (values_of rows) k v) × (key_numbers (set_value (λ j. s == j) rows (r.0, v)) ≡ key_numbers rows)
  set-both k v r s is there =
      numbered-set same k v r 0 next s rows are.ascend (sym (are.known k) ∙ is) (ap (λ test. lookup test rows) (sym (asks s)) ∙ there)

  set-rows : (k : K) (v : V) (r : K × V) (s : ℕ) (new : List (ℕ × (K × V))) → at same numbers k ≡ Some s → lookup (is_at (nat_cmp s)) rows ≡ Some r
      → new ≡ set_value (is_at (nat_cmp s)) rows (r.0, v) → values_of new ≡ puts same (values_of rows) k v
  set-rows k v r s new is there out = ap values_of (out ∙ ap (λ test. set_value test rows (r.0, v)) (asks s)) ∙ (set-both k v r s is there).0

  set-numbered : (k : K) (v : V) (r : K × V) (s : ℕ) (new : List (ℕ × (K × V))) → at same numbers k ≡ Some s → lookup (is_at (nat_cmp s)) rows ≡ Some r
      → new ≡ set_value (is_at (nat_cmp s)) rows (r.0, v) → AreNumbered same new numbers next
  set-numbered k v r s new is there out =
      let plain : new ≡ set_value (λ j. s == j) rows (r.0, v) = out ∙ ap (λ test. set_value test rows (r.0, v)) (asks s) in
      let alike : key_numbers new ≡ key_numbers rows = ap key_numbers plain ∙ (set-both k v r s is there).1 in
      record {
        ascend = subst (Ascend 0 next) (sym plain) (ascend-set (λ j. s == j) (r.0, v) 0 next rows are.ascend);
        distinct = subst (IsDistinct same) (sym (numbered-keys rows) ∙ ap keys_of (sym alike) ∙ numbered-keys new) are.distinct;
        known = λ q. are.known q ∙ ap (λ table. at same table q) (sym alike);
      }

  -- The same, where the row is not at hand.
  pub second-rows : (k : K) (v : V) (s : ℕ) (new : List (ℕ × (K × V))) → at same numbers k ≡ Some s
      → IfSome (lookup (is_at (nat_cmp s)) rows) (λ row. new ≡ set_value (is_at (nat_cmp s)) rows (row.0, v)) → values_of new ≡ puts same (values_of rows) k v
  second-rows k v s new is out = by (lookup (is_at (nat_cmp s)) rows) refl out
    where
      by : (row : Option (K × V)) → lookup (is_at (nat_cmp s)) rows ≡ row → IfSome row (λ row. new ≡ set_value (is_at (nat_cmp s)) rows (row.0, v)) → values_of new ≡ puts same (values_of rows) k v
      by None there out = absurd (true≢false (sym (has_row k s is) ∙ ap is_some there))
      by (Some row) there out = set-rows k v row s new is there out

  pub second-numbered : (k : K) (v : V) (s : ℕ) (new : List (ℕ × (K × V))) → at same numbers k ≡ Some s
      → IfSome (lookup (is_at (nat_cmp s)) rows) (λ row. new ≡ set_value (is_at (nat_cmp s)) rows (row.0, v)) → AreNumbered same new numbers next
  second-numbered k v s new is out = by (lookup (is_at (nat_cmp s)) rows) refl out
    where
      by : (row : Option (K × V)) → lookup (is_at (nat_cmp s)) rows ≡ row → IfSome row (λ row. new ≡ set_value (is_at (nat_cmp s)) rows (row.0, v)) → AreNumbered same new numbers next
      by None there out = absurd (true≢false (sym (has_row k s is) ∙ ap is_some there))
      by (Some row) there out = set-numbered k v row s new is there out

  -- A row that is inserted under the next number is put at its key.
  pub pushed-rows : (k : K) (v : V) (new : List (ℕ × (K × V))) → at same (values_of rows) k ≡ None → new ≡ insert_entry nat_cmp rows next (k, v) → values_of new ≡ puts same (values_of rows) k v
  pushed-rows k v new none out =
      ap values_of (out ∙ inserted-last (k, v) 0 next rows are.ascend) ∙ values-push next (k, v) rows ∙ sym (puts-new same k v (values_of rows) none)

  -- A row that is inserted under the next number and taken out again leaves the rows as they were.
  pub back : (w : K × V) (pushed new : List (ℕ × (K × V))) → pushed ≡ insert_entry nat_cmp rows next w → new ≡ remove_entry (is_at (nat_cmp next)) pushed → new ≡ rows
  back w pushed new out gone =
      gone ∙ ap (λ test. remove_entry test pushed) (asks next) ∙ ap (remove_entry (λ j. next == j)) (out ∙ inserted-last w 0 next rows are.ascend)
      ∙ removed-last w 0 next rows are.ascend

  module _ (o : IsEquivalence same) where
    pub taken-sets : (k : K) → Sets same (values_of rows) (takes same (values_of rows) k) k None
    taken-sets k = takes-sets same o k (values_of rows) are.distinct

    -- Once the row of a key and its number are taken out.
    pub taken-numbered : (k : K) (s : ℕ) (new : List (ℕ × (K × V))) (left : List (K × ℕ)) → at same numbers k ≡ Some s → new ≡ remove_entry (is_at (nat_cmp s)) rows → Sets same numbers left k None
        → AreNumbered same new left next
    taken-numbered k s new left is out sets =
        let plain : new ≡ remove_entry (λ j. s == j) rows = out ∙ ap (λ test. remove_entry test rows) (asks s) in
        let both = numbered-taken same k 0 next s rows are.ascend (sym (are.known k) ∙ is) in
        let distinct : IsDistinct same (keys_of (key_numbers rows)) = subst (IsDistinct same) (sym (numbered-keys rows)) are.distinct in
        record {
          ascend = subst (Ascend 0 next) (sym plain) (ascend-less (λ j. s == j) 0 next rows are.ascend);
          distinct = subst (λ table. IsDistinct same (keys_of table)) (sym (ap values_of plain ∙ both.0)) (takes-distinct same k (values_of rows) are.distinct);
          known = λ q. sets q ∙ ap (cond (same k q) None) (are.known q) ∙ sym (takes-sets same o k (key_numbers rows) distinct q)
              ∙ ap (λ table. at same table q) (sym (ap key_numbers plain ∙ both.1));
        }

    -- Once a new key has a row and a number.
    pub pushed-numbered : (k : K) (v : V) (after : ℕ) (new : List (ℕ × (K × V))) (more : List (K × ℕ)) → at same (values_of rows) k ≡ None → after ≡ next + 1 → new ≡ insert_entry nat_cmp rows next (k, v)
        → Sets same numbers more k (Some next) → AreNumbered same new more after
    pushed-numbered k v after new more none is out sets =
        let plain : new ≡ rows ++ (next, (k, v)) ∷ [] = out ∙ inserted-last (k, v) 0 next rows are.ascend in
        let unnumbered : at same (key_numbers rows) k ≡ None = sym (are.known k) ∙ no_number k none in
        let put : key_numbers new ≡ puts same (key_numbers rows) k next =
        ap key_numbers plain ∙ numbers-push next (k, v) rows ∙ sym (puts-new same k next (key_numbers rows) unnumbered) in
        let keys : keys_of (values_of new) ≡ keys_of (values_of rows) ++ k ∷ [] =
        ap (λ rows. keys_of (values_of rows)) plain ∙ ap keys_of (values-push next (k, v) rows) ∙ keys-push k v (values_of rows) in
        record {
          ascend = subst (λ n. Ascend 0 n new) (sym is) (subst (Ascend 0 (next + 1)) (sym plain) (ascend-push (k, v) 0 next rows (omega arith) are.ascend));
          distinct = subst (IsDistinct same) (sym keys) (IsDistinct-push o (keys_of (values_of rows)) k are.distinct (none_same same k (values_of rows) none));
          known = λ q. sets q ∙ ap (cond (same k q) (Some next)) (are.known q) ∙ sym (puts-sets same o k next (key_numbers rows) q) ∙ ap (λ table. at same table q) (sym put);
        }
