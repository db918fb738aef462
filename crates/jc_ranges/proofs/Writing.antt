-- Facts on a text that is written run by run.
use Rattle.std.proofs.Common.{◌≡◌, ℕ, suc, ◌+◌, ◌-◌, ◌<◌, ◌≤◌, List, [], ◌∷◌, ◌++◌, length, get_or, take, drop, map, sym, ap, ◌∙◌, subst, arith, append_assoc, length-drop}
use Rattle.std.proofs.lemmas.List.{append-nil, map-append, drop_more, nil_from_length, take_rest}
use Rattle.std.specs.List.{flat_map}
use Rattle.jc_ranges.specs.Texts.{numbers, element, joined, runs, written, ranges_text, StandApart}
use Rattle.jc_ranges.specs.declared.runs.Run.{Run}
use Rattle.jc_ranges.proofs.Consecutive.{behind, behind-append, join-cons, join-append, written_some}
use Rattle.jc_ranges.proofs.Apart.{apart_lower, runs_back}

-- The text so far, before the elements of the rest.
text_start : (xs none out : List ℕ) (r : Run) (rs : List Run) → runs xs ≡ r ∷ rs → r.first ≤ r.last → none ≡ [] → out ≡ none ++ joined (written r) → out ++ behind (map element (flat_map written rs)) ≡ ranges_text xs
unfolding ranges_text
text_start xs none out r rs cut ordered e w =
    let more = flat_map written rs in
    let some = written_some r ordered in
    rw (cut, w, e, some.2, map-append element (some.0 ∷ some.1) more) (sym (join-append (element some.0) (map element some.1) (map element more)))

text_more : (text out mid new : List ℕ) (r : Run) (rs : List Run) → r.first ≤ r.last → mid ≡ out ++ 44 ∷ [] → new ≡ mid ++ joined (written r) → out ++ behind (map element (flat_map written (r ∷ rs)))
    ≡ text → new ++ behind (map element (flat_map written rs)) ≡ text
text_more text out mid new r rs ordered comma w h =
    let more = behind (map element (flat_map written rs)) in
    let some = written_some r ordered in
    let led : behind (map element (written r)) ≡ 44 ∷ joined (written r) = rw some.2 (ap (λ z. 44 ∷ z) (sym (join-cons (element some.0) (map element some.1)))) in
    let grouped : behind (map element (written r ++ flat_map written rs)) ≡ 44 ∷ (joined (written r) ++ more) =
    ap behind (map-append element (written r) (flat_map written rs)) ∙ behind-append (map element (written r)) (map element (flat_map written rs)) ∙ ap (λ z. z ++ more) led in
    ap (λ z. z ++ more) w ∙ ap (λ z. (z ++ joined (written r)) ++ more) comma ∙ regroup out (joined (written r)) more ∙ ap (λ z. out ++ z) (sym grouped) ∙ h
  where
    regroup : (a b c : List ℕ) → ((a ++ 44 ∷ []) ++ b) ++ c ≡ a ++ (44 ∷ (b ++ c))
    regroup a b c = simp append_assoc

-- The runs behind the first one.
pub apart_rest : (rs : List Run) → StandApart 0 rs → StandApart 0 (take (length rs - 1) (drop 1 rs))
apart_rest rs a = subst (StandApart 0) (sym (take_rest rs 1)) (by rs a)
  where
    by : (rs : List Run) → StandApart 0 rs → StandApart 0 (drop 1 rs)
    by [] a = tt
    by (r ∷ rs) a = apart_lower 0 (suc (suc r.last)) rs (omega arith) a.1

-- The first run is written, then each of the others behind a comma, and then none is left.
pub text_begin : (xs none out : List ℕ) (rs : List Run) (d : Run) → flat_map numbers rs ≡ xs → StandApart 0 rs → 0 < length rs → none ≡ [] → out ≡ none ++ joined (written (get_or rs 0 d)) →
    out ++ behind (map element (flat_map written (take (length rs - 1) (drop 1 rs)))) ≡ ranges_text xs
text_begin xs none out [] d same a h n w = absurd (omega arith)
text_begin xs none out (r ∷ rs) d same a h n w =
    ap (λ z. out ++ behind (map element (flat_map written z))) (take_rest (r ∷ rs) 1) ∙ text_start xs none out r rs (ap runs (sym same) ∙ runs_back 0 (r ∷ rs) a) a.0.ordered n w

pub text_next : (text out mid new : List ℕ) (rs : List Run) (i : ℕ) (d : Run) → i < length rs → (get_or rs i d).first ≤ (get_or rs i d).last → mid ≡ out ++ 44 ∷ [] → new ≡ mid ++ joined
    (written (get_or rs i d)) → out ++ behind (map element (flat_map written (drop i rs))) ≡ text → new ++ behind (map element (flat_map written (drop (i + 1) rs))) ≡ text
text_next text out mid new rs i d h ordered comma w e =
    text_more text out mid new (get_or rs i d) (drop (i + 1) rs) ordered comma w (ap (λ z. out ++ behind (map element (flat_map written z))) (sym (drop_more rs i d h)) ∙ e)

pub text_end : (text out : List ℕ) (rs : List Run) (i : ℕ) → length rs ≤ i → out ++ behind (map element (flat_map written (drop i rs))) ≡ text → out ≡ text
text_end text out rs i h e =
    let none : drop i rs ≡ [] = nil_from_length (drop i rs) (omega (arith, length-drop i rs)) in
    sym (append-nil out) ∙ ap (λ z. out ++ behind (map element (flat_map written z))) (sym none) ∙ e

pub text_none : (xs out : List ℕ) (rs : List Run) → flat_map numbers rs ≡ xs → length rs ≡ 0 → out ≡ [] → out ≡ ranges_text xs
unfolding ranges_text
text_none xs out rs same none o = o ∙ ap ranges_text (ap (flat_map numbers) (sym (nil_from_length rs none)) ∙ same)
