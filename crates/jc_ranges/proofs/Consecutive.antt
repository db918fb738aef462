-- Facts on runs of consecutive numbers, and on elements joined by commas.
use Rattle.std.proofs.Common.{◌≡◌, ◌≢◌, ℕ, zero, suc, ◌+◌, ◌-◌, ◌<◌, ◌≤◌, Bool, true, false, cond, eqb, ltb, List, [], ◌∷◌, ◌++◌, map, refl, sym, ap, ◌∙◌, subst, arith, append_assoc}
use Rattle.std.proofs.lemmas.Bool.{eq-eqb, ne_eqb}
use Rattle.std.proofs.lemmas.List.{append-nil}
use Rattle.std.specs.List.{range_with_len, flat_map, join_with_byte}
use Rattle.jc_ranges.specs.Texts.{single, runs, with_front_run, written}
use Rattle.jc_ranges.specs.declared.runs.Run.{Run}

-- The elements, each behind a comma.
abbrev pub behind : List (List ℕ) → List ℕ
behind es = flat_map (λ e. 44 ∷ e) es

pub behind-append : (es fs : List (List ℕ)) → behind (es ++ fs) ≡ behind es ++ behind fs
behind-append [] fs = refl
behind-append (e ∷ es) fs = ap (λ z. 44 ∷ (e ++ z)) (behind-append es fs) ∙ ap (λ z. 44 ∷ z) (sym (append_assoc e (behind es) (behind fs)))

pub join-cons : (e : List ℕ) (es : List (List ℕ)) → join_with_byte 44 (e ∷ es) ≡ e ++ behind es
join-cons e [] = sym (append-nil e)
join-cons e (f ∷ fs) = ap (λ z. e ++ (44 ∷ z)) (join-cons f fs)

pub join-append : (e : List ℕ) (es fs : List (List ℕ)) → join_with_byte 44 (e ∷ es ++ fs) ≡ join_with_byte 44 (e ∷ es) ++ behind fs
join-append e es fs =
    join-cons e (es ++ fs) ∙ ap (λ z. e ++ z) (behind-append es fs) ∙ sym (append_assoc e (behind es) (behind fs)) ∙ ap (λ z. z ++ behind fs) (sym (join-cons e es))

-- A run has a first element.
pub written_some : (r : Run) → r.first ≤ r.last → (s : Run) × (ss : List Run) × (written r ≡ s ∷ ss)
written_some r h = by (ltb (suc r.first) r.last) (suc r.last - r.first) (omega arith)
  where
    by : (b : Bool) (n : ℕ) → 0 < n → (s : Run) × (ss : List Run) × (cond b (r ∷ []) (map single (range_with_len r.first n)) ≡ s ∷ ss)
    by true n p = (r, [], refl)
    by false zero p = absurd (omega arith)
    by false (suc n) p = (single r.first, map single (range_with_len (r.first + 1) n), refl)

-- The first run of a list that begins with consecutive numbers, where the next number does not go on.
runs_first : (y : ℕ) (ys : List ℕ) → (r : Run) × (rs : List Run) × (runs (y ∷ ys) ≡ r ∷ rs) × (r.first ≡ y)
runs_first y ys = by (runs ys)
  where
    by : (rs : List Run) → (r : Run) × (ss : List Run) × (with_front_run y rs ≡ r ∷ ss) × (r.first ≡ y)
    by [] = (single y, [], refl, refl)
    by (r ∷ rs) = choose (eqb r.first (suc y)) r rs
      where
        choose : (b : Bool) (r : Run) (rs : List Run) → (s : Run) × (ss : List Run) × (cond b ((record { first = y; last = r.last }) ∷ rs) (single y ∷ r ∷ rs) ≡ s ∷ ss) × (s.first ≡ y)
        choose true r rs = (record { first = y; last = r.last }, rs, refl, refl)
        choose false r rs = (single y, r ∷ rs, refl, refl)

alone : (x : ℕ) (ys : List ℕ) → ((y : ℕ) (zs : List ℕ) → ys ≡ y ∷ zs → y ≢ suc x) → with_front_run x (runs ys) ≡ single x ∷ runs ys
alone x [] h = refl
alone x (y ∷ zs) h =
    let first = runs_first y zs in
    rw (first.2, ne_eqb first.0.first (suc x) (λ e. h y zs refl (sym first.3 ∙ e)))

pub runs-front : (first n last : ℕ) (ys : List ℕ) → last ≡ first + n → ((y : ℕ) (zs : List ℕ) → ys ≡ y ∷ zs → y ≢ suc last) → runs (range_with_len first (suc n) ++ ys) ≡ (record { first = first; last = last }) ∷ runs ys
runs-front first zero last ys e h =
    let same : last ≡ first = omega arith in
    subst (λ (m : ℕ). ((y : ℕ) (zs : List ℕ) → ys ≡ y ∷ zs → y ≢ suc m) → with_front_run first (runs ys) ≡ (record { first = first; last = m }) ∷ runs ys) (sym same) (λ q. alone first ys q) h
runs-front first (suc n) last ys e h =
    rw (runs-front (first + 1) n last ys (omega arith) h, eq-eqb (first + 1) (suc first) (omega arith))
