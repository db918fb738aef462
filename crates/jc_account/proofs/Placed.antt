-- A UID that is put at its place in a list is what `with_uid` says.
use Rattle.std.proofs.Common.{◌≡◌, ◌<◌, ◌≤◌, ◌+◌, ◌++◌, ℕ, suc, Bool, true, false, not, cond, eqb, ltb, leb, List, [], ◌∷◌, length, get_or, take, drop, Option, Some, None, refl, ap, sym, ◌∙◌, subst, arith}
use Rattle.std.specs.List.{position, position_or_len}
use Rattle.std.proofs.lemmas.Bool.{ltb-true, ltb-false, leb-true, leb-false, eqb-true, eqb-false}
use Rattle.std.proofs.lemmas.List.{take_all, drop_all}
use Rattle.jc_types.specs.declared.numbers.Uid.{Uid}
use Rattle.jc_states.specs.UidLists.{with_uid}

-- The place in the list: the first UID that is not below.
abbrev place : Uid → List Uid → ℕ
place u uids = position_or_len (λ (v : Uid). leb u.0 v.0) uids

-- One step down the list.
there_step : (u d v : Uid) (rest : List Uid) (k n : ℕ) → n ≡ suc k → (k < length rest → (get_or rest k d).0 ≡ u.0 → with_uid u rest ≡ rest)
    → n < length (v ∷ rest) → (get_or (v ∷ rest) n d).0 ≡ u.0 → v ∷ with_uid u rest ≡ v ∷ rest
there_step u d v rest k n at ih within same =
    ap (λ us. v ∷ us) (ih (omega (arith, at, within)) (ap (λ i. (get_or (v ∷ rest) i d).0) (sym at) ∙ same))

between_step : (u d v : Uid) (rest : List Uid) (k n : ℕ) → n ≡ suc k
    → ((k < length rest → (get_or rest k d).0 ≡ u.0 → ⊥) → with_uid u rest ≡ take k rest ++ u ∷ drop k rest)
    → (n < length (v ∷ rest) → (get_or (v ∷ rest) n d).0 ≡ u.0 → ⊥)
    → v ∷ with_uid u rest ≡ take n (v ∷ rest) ++ u ∷ drop n (v ∷ rest)
between_step u d v rest k n at ih other =
    ap (λ us. v ∷ us) (ih (λ within same. other (omega (arith, at, within)) (ap (λ i. (get_or (v ∷ rest) i d).0) at ∙ same)))
    ∙ ap (λ i. take i (v ∷ rest) ++ u ∷ drop i (v ∷ rest)) (sym at)

with_at : (u d : Uid) (uids : List Uid) → place u uids < length uids → (get_or uids (place u uids) d).0 ≡ u.0 → with_uid u uids ≡ uids
with_at u d [] within same = absurd (omega (arith, within))
with_at u d (v ∷ rest) within same = by (ltb u.0 v.0) (eqb u.0 v.0) (leb u.0 v.0) refl refl refl (with_at u d rest) within same
  where
    by : (lt eq le : Bool) → ltb u.0 v.0 ≡ lt → eqb u.0 v.0 ≡ eq → leb u.0 v.0 ≡ le
        → (place u rest < length rest → (get_or rest (place u rest) d).0 ≡ u.0 → with_uid u rest ≡ rest)
        → cond (not le) (1 + place u rest) 0 < length (v ∷ rest)
        → (get_or (v ∷ rest) (cond (not le) (1 + place u rest) 0) d).0 ≡ u.0
        → cond lt (u ∷ v ∷ rest) (cond eq (v ∷ rest) (v ∷ with_uid u rest)) ≡ v ∷ rest
    by true eq true l e m ih within same = absurd (omega (arith, ltb-true u.0 v.0 l, same))
    by true eq false l e m ih within same = absurd (omega (arith, ltb-true u.0 v.0 l, leb-false u.0 v.0 m))
    by false true le l e m ih within same = refl
    by false false true l e m ih within same = absurd (eqb-false u.0 v.0 e (sym same))
    by false false false l e m ih within same = there_step u d v rest (place u rest) (1 + place u rest) (omega arith) ih within same

with_between : (u d : Uid) (uids : List Uid) → (place u uids < length uids → (get_or uids (place u uids) d).0 ≡ u.0 → ⊥) → with_uid u uids ≡ take (place u uids) uids ++ u ∷ drop (place u uids) uids
with_between u d [] other = refl
with_between u d (v ∷ rest) other = by (ltb u.0 v.0) (eqb u.0 v.0) (leb u.0 v.0) refl refl refl (with_between u d rest) other
  where
    by : (lt eq le : Bool) → ltb u.0 v.0 ≡ lt → eqb u.0 v.0 ≡ eq → leb u.0 v.0 ≡ le
        → ((place u rest < length rest → (get_or rest (place u rest) d).0 ≡ u.0 → ⊥) → with_uid u rest ≡ take (place u rest) rest ++ u ∷ drop (place u rest) rest)
        → (cond (not le) (1 + place u rest) 0 < length (v ∷ rest) → (get_or (v ∷ rest) (cond (not le) (1 + place u rest) 0) d).0 ≡ u.0 → ⊥)
        → cond lt (u ∷ v ∷ rest) (cond eq (v ∷ rest) (v ∷ with_uid u rest))
        ≡ take (cond (not le) (1 + place u rest) 0) (v ∷ rest) ++ u ∷ drop (cond (not le) (1 + place u rest) 0) (v ∷ rest)
    by true eq true l e m ih other = refl
    by true eq false l e m ih other = absurd (omega (arith, ltb-true u.0 v.0 l, leb-false u.0 v.0 m))
    by false true true l e m ih other = absurd (other (omega arith) (sym (eqb-true u.0 v.0 e)))
    by false true false l e m ih other = absurd (omega (arith, eqb-true u.0 v.0 e, leb-false u.0 v.0 m))
    by false false true l e m ih other = absurd (eqb-false u.0 v.0 e (omega (arith, ltb-false u.0 v.0 l, leb-true u.0 v.0 m)))
    by false false false l e m ih other = between_step u d v rest (place u rest) (1 + place u rest) (omega arith) ih other

-- What the search for a place gives.
unfoldable pub Found : ℕ → ℕ → Option ℕ → Type 0
Found i n None = n ≤ i
Found i n (Some k) = (i ≡ k) × (i < n)

pub found : (i n : ℕ) → Found i n (cond (ltb i n) (Some i) None)
unfolding Found
found i n = by (ltb i n) refl
  where
    by : (b : Bool) → ltb i n ≡ b → Found i n (cond b (Some i) None)
    by true e = (refl, ltb-true i n e)
    by false e = ltb-false i n e

-- The UID is there.
pub with_there : (u there : Uid) (uids : List Uid) (k : ℕ) → Some k ≡ position (λ (v : Uid). leb u.0 v.0) uids → there ≡ get_or uids k there → there.0 ≡ u.0 → with_uid u uids ≡ uids
unfolding Found
with_there u there uids k at is same =
    let f : Found (place u uids) (length uids) (Some k) =
    subst (Found (place u uids) (length uids)) (sym at) (found (place u uids) (length uids))
    in with_at u there uids f.1
    (ap (λ i. (get_or uids i there).0) f.0 ∙ ap (λ (v : Uid). v.0) (sym is) ∙ same)

-- The UID has its place before a greater one.
pub with_before : (u there : Uid) (uids : List Uid) (k : ℕ) → Some k ≡ position (λ (v : Uid). leb u.0 v.0) uids → there ≡ get_or uids k there → (there.0 ≡ u.0 → ⊥) → with_uid u uids ≡ take k uids ++ u ∷ drop k uids
unfolding Found
with_before u there uids k at is other =
    let f : Found (place u uids) (length uids) (Some k) =
    subst (Found (place u uids) (length uids)) (sym at) (found (place u uids) (length uids))
    in with_between u there uids
    (λ within same. other (ap (λ (v : Uid). v.0) is ∙ ap (λ i. (get_or uids i there).0) (sym f.0) ∙ same))
    ∙ ap (λ i. take i uids ++ u ∷ drop i uids) f.0

-- The UID has its place at the end.
pub with_last : (u : Uid) (uids : List Uid) → None ≡ position (λ (v : Uid). leb u.0 v.0) uids → with_uid u uids ≡ uids ++ u ∷ []
unfolding Found
with_last u uids at =
    let f : length uids ≤ place u uids =
    subst (Found (place u uids) (length uids)) (sym at) (found (place u uids) (length uids))
    in with_between u u uids (λ within same. absurd (omega (arith, within, f)))
    ∙ ap (λ us. us ++ u ∷ drop (place u uids) uids) (take_all (place u uids) uids f)
    ∙ ap (λ us. uids ++ u ∷ us) (drop_all (place u uids) uids f)
