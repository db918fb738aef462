-- Facts on tables: what a row that is put or taken leaves at each key.
use Rattle.std.proofs.Common.{◌≡◌, Bool, true, false, cond, List, [], ◌∷◌, ◌++◌, Some, None, IsSome, is_some, refl, sym, ap, ◌∙◌, true≢false}
use Rattle.std.specs.Map.{keys_of, lookup, remove_entry, set_value}
use Rattle.std.specs.List.{AllByRecursion as Each, IsDistinct}
use Rattle.std.proofs.lemmas.Bool.{cond-false}
use Rattle.jc_log.specs.Tables.{at, puts, takes, Sets}
use Rattle.jc_types.proofs.KeyFacts.{same_either_way}
use Rattle.jc_types.proofs.ListFacts.{Each-weaker}

module _ {K V : Type 0} (same : K → K → Bool) where
  -- A value that is set at a key that is there is put.
  pub set_value-puts : (k : K) (v : V) (rows : List (K × V)) → IsSome (at same rows k) → set_value (same k) rows v ≡ puts same rows k v
  set_value-puts k v [] h = absurd (true≢false (sym h))
  set_value-puts k v (row ∷ rows) h = by (same k row.0) h (set_value-puts k v rows)
    where
      by : (b : Bool) → IsSome (cond b (Some row.1) (lookup (same k) rows)) → (IsSome (lookup (same k) rows) → set_value (same k) rows v ≡ puts same rows k v) → cond b ((row.0, v) ∷ rows)
          (row ∷ set_value (same k) rows v) ≡ cond b ((row.0, v) ∷ rows) (row ∷ puts same rows k v)
      by true h rest = refl
      by false h rest = ap (λ rows. row ∷ rows) (rest h)

  -- A row that is put at a new key and taken again leaves the table as it was.
  pub takes-puts : (k : K) (v : V) → same k k ≡ true → (rows : List (K × V)) → at same rows k ≡ None → takes same (puts same rows k v) k ≡ rows
  takes-puts k v itself [] h = ap (λ b. cond b [] ((k, v) ∷ [])) itself
  takes-puts k v itself (row ∷ rows) h = by (same k row.0) refl (takes-puts k v itself rows)
    where
      by : (b : Bool) → same k row.0 ≡ b → (lookup (same k) rows ≡ None → takes same (puts same rows k v) k ≡ rows) → remove_entry (same k) (cond b ((row.0, v) ∷ rows) (row ∷ puts same rows k v)) ≡ row ∷ rows
      by true t rest = let bad : Some row.1 ≡ None = ap (λ b. cond b (Some row.1) (lookup (same k) rows)) (sym t) ∙ h in absurd (true≢false (ap is_some bad))
      by false t rest =
          ap (λ b. cond b (puts same rows k v) (row ∷ remove_entry (same k) (puts same rows k v))) t
          ∙ ap (λ rest. row ∷ rest) (rest (ap (λ b. cond b (Some row.1) (lookup (same k) rows)) (sym t) ∙ h))

  -- The keys of the rows are not the same as one another.
  abbrev pub Apart : List (K × V) → Type 0
  Apart [] = Unit {0}
  Apart (row ∷ rows) = Each (λ other. same row.0 other.0 ≡ false) rows × Apart rows

  module _ (eq : (a b : K) → same a b ≡ true → a ≡ b) (itself : (a : K) → same a a ≡ true) where
    -- A value that is put stands at its key, and every other key is as before.
    pub Sets-puts : (k : K) (v : V) (rows : List (K × V)) → Sets same rows (puts same rows k v) k (Some v)
    Sets-puts k v [] q = ap (λ b. cond b (Some v) None) (same_either_way same eq itself q k)
    Sets-puts k v (row ∷ rows) q = by (same k row.0) refl (Sets-puts k v rows q)
      where
        by : (b : Bool) → same k row.0 ≡ b → at same (puts same rows k v) q ≡ cond (same k q) (Some v) (at same rows q) → at same (cond b ((row.0, v) ∷ rows) (row ∷ puts same rows k v)) q ≡ cond
            (same k q) (Some v) (cond (same q row.0) (Some row.1) (at same rows q))
        by true t rest =
            let alike : same q row.0 ≡ same k q = same_either_way same eq itself q row.0 ∙ ap (λ a. same a q) (sym (eq k row.0 t)) in
            at_row (same q row.0) (same k q) alike
          where
            at_row : (a c : Bool) → a ≡ c → cond a (Some v) (at same rows q) ≡ cond c (Some v) (cond a (Some row.1) (at same rows q))
            at_row true true e = refl
            at_row false false e = refl
            at_row true false e = absurd (true≢false e)
            at_row false true e = absurd (true≢false (sym e))
        by false t rest = below (same q row.0) refl
          where
            below : (a : Bool) → same q row.0 ≡ a → cond a (Some row.1) (at same (puts same rows k v) q) ≡ cond (same k q) (Some v) (cond a (Some row.1) (at same rows q))
            below true s =
                let other : same k q ≡ false = ap (λ a. same k a) (eq q row.0 s) ∙ t in
                sym (cond-false (same k q) (Some v) (Some row.1) other)
            below false s = rest

    -- Nothing stands at a key that none of the rows has.
    pub at_none : (k : K) (rows : List (K × V)) → Each (λ other. same k other.0 ≡ false) rows → at same rows k ≡ None
    at_none k [] h = refl
    at_none k (row ∷ rows) h = cond-false (same k row.0) (Some row.1) (at same rows k) h.0 ∙ at_none k rows h.1

    -- A row that is taken leaves nothing at its key, and every other key is as before.
    pub Sets-takes : (k : K) (rows : List (K × V)) → Apart rows → Sets same rows (takes same rows k) k None
    Sets-takes k [] h q = by (same k q)
      where
        by : (b : Bool) → at {V = V} same [] q ≡ cond b None (at {V = V} same [] q)
        by true = refl
        by false = refl
    Sets-takes k (row ∷ rows) h q = by (same k row.0) refl (Sets-takes k rows h.1 q)
      where
        by : (b : Bool) → same k row.0 ≡ b → at same (takes same rows k) q ≡ cond (same k q) None (at same rows q) → at same (cond b rows (row ∷ takes same rows k)) q ≡ cond (same k q) None (cond (same q row.0) (Some row.1) (at same rows q))
        by true t rest =
            let alike : same q row.0 ≡ same k q = same_either_way same eq itself q row.0 ∙ ap (λ a. same a q) (sym (eq k row.0 t)) in
            at_row (same q row.0) (same k q) alike refl
          where
            at_row : (a c : Bool) → a ≡ c → same q row.0 ≡ a → at same rows q ≡ cond c None (cond a (Some row.1) (at same rows q))
            at_row true true e s = at_none q rows (Each-weaker (λ other. same row.0 other.0 ≡ false) (λ other. same q other.0 ≡ false) (λ other f. ap (λ a. same a other.0) (eq q row.0 s) ∙ f) rows h.0)
            at_row false false e s = refl
            at_row true false e s = absurd (true≢false e)
            at_row false true e s = absurd (true≢false (sym e))
        by false t rest = below (same q row.0) refl
          where
            below : (a : Bool) → same q row.0 ≡ a → cond a (Some row.1) (at same (takes same rows k) q) ≡ cond (same k q) None (cond a (Some row.1) (at same rows q))
            below true s =
                let other : same k q ≡ false = ap (λ a. same k a) (eq q row.0 s) ∙ t in
                sym (cond-false (same k q) None (Some row.1) other)
            below false s = rest

    -- A key that no row has is none of those after a put at another key.
    pub Each-puts : (a k : K) (v : V) (rows : List (K × V)) → same a k ≡ false → Each (λ other. same a other.0 ≡ false) rows → Each (λ other. same a other.0 ≡ false) (puts same rows k v)
    Each-puts a k v [] f h = (f, tt)
    Each-puts a k v (row ∷ rows) f h = by (same k row.0) (Each-puts a k v rows f h.1)
      where
        by : (b : Bool) → Each (λ other. same a other.0 ≡ false) (puts same rows k v) → Each (λ other. same a other.0 ≡ false) (cond b ((row.0, v) ∷ rows) (row ∷ puts same rows k v))
        by true rest = (h.0, h.1)
        by false rest = (h.0, rest)

    -- A put keeps the keys apart.
    pub Apart-puts : (k : K) (v : V) (rows : List (K × V)) → Apart rows → Apart (puts same rows k v)
    Apart-puts k v [] h = (tt, tt)
    Apart-puts k v (row ∷ rows) h = by (same k row.0) refl (Apart-puts k v rows h.1)
      where
        by : (b : Bool) → same k row.0 ≡ b → Apart (puts same rows k v) → Apart (cond b ((row.0, v) ∷ rows) (row ∷ puts same rows k v))
        by true t rest = (h.0, h.1)
        by false t rest = (Each-puts row.0 k v rows (same_either_way same eq itself row.0 k ∙ t) h.0, rest)

    -- What holds of each row holds of each that is left.
    pub Each-takes : (P : K × V → Type 0) (k : K) (rows : List (K × V)) → Each P rows → Each P (takes same rows k)
    Each-takes P k [] h = tt
    Each-takes P k (row ∷ rows) h = by (same k row.0) (Each-takes P k rows h.1)
      where
        by : (b : Bool) → Each P (takes same rows k) → Each P (cond b rows (row ∷ takes same rows k))
        by true rest = h.1
        by false rest = (h.0, rest)

    -- A take keeps the keys apart.
    pub Apart-takes : (k : K) (rows : List (K × V)) → Apart rows → Apart (takes same rows k)
    Apart-takes k [] h = tt
    Apart-takes k (row ∷ rows) h = by (same k row.0) (Apart-takes k rows h.1)
      where
        by : (b : Bool) → Apart (takes same rows k) → Apart (cond b rows (row ∷ takes same rows k))
        by true rest = h.1
        by false rest = (Each-takes (λ other. same row.0 other.0 ≡ false) k rows h.0, rest)

    -- The row of a new key is put behind the others.
    pub puts-last : (k : K) (v : V) (rows after : List (K × V)) → IsDistinct same (keys_of (rows ++ (k, v) ∷ after)) → puts same rows k v ≡ rows ++ (k, v) ∷ []
    unfolding IsDistinct
    puts-last k v [] after once = refl
    puts-last k v (row ∷ rows) after once =
        cond-false (same k row.0) ((row.0, v) ∷ rows) (row ∷ puts same rows k v) (same_either_way same eq itself k row.0 ∙ far rows once.0)
        ∙ ap (λ rest. row ∷ rest) (puts-last k v rows after once.1)
      where
        far : (some : List (K × V)) → Each (λ q. same row.0 q ≡ false) (keys_of (some ++ (k, v) ∷ after)) → same row.0 k ≡ false
        far [] all = all.0
        far (other ∷ some) all = far some all.1
