-- The newest event of a history: where it stands, its place in the script, and its line.
use Rattle.std.proofs.Common.{◌≡◌, ℕ, ◌+◌, ◌-◌, ◌<◌, List, [], ◌∷◌, ◌++◌, length, map, reverse, get_or, refl, sym, ap, ◌∙◌, subst, arith}
use Rattle.std.proofs.lemmas.List.{reverse-append, length-reverse, reverse-reverse as turned}
use Rattle.jc_types.specs.declared.actions.Script.{Script}
use Rattle.jc_types.specs.declared.runs.Past.{Past}
use Rattle.jc_log.specs.Deeds.{deed}
use Rattle.jc_history.specs.Legal.{InLanes}
use Rattle.jc_verdicts.specs.Verdicts.{IsPlace}
use Rattle.jc_lines.specs.Events.{event_line}
use Rattle.jc_lines.proofs.PlaceFacts.{has_place}
use Rattle.jc_runs.specs.Seen.{Seen}
use Rattle.jc_audit.specs.Walks.{last_line, line_of_last}

-- The last of a list is the first of the list turned round.
last_get : {A : Type 0} (xs : List A) (y d : A) → get_or (xs ++ y ∷ []) (length (xs ++ y ∷ []) - 1) d ≡ y
last_get {A} xs y d = ap (λ n. get_or (xs ++ y ∷ []) n d) (one_less xs) ∙ at xs
  where
    more : (xs : List A) → length (xs ++ y ∷ []) ≡ length xs + 1
    more [] = refl
    more (x ∷ xs) = let rest = more xs in omega (arith, rest)

    one_less : (xs : List A) → length (xs ++ y ∷ []) - 1 ≡ length xs
    one_less xs = let all = more xs in omega (arith, all)

    at : (xs : List A) → get_or (xs ++ y ∷ []) (length xs) d ≡ y
    at [] = refl
    at (x ∷ xs) = at xs

module _ (script : Script) (items pasts : List Past) (p : Past) (is : reverse items ≡ pasts) (found : p ≡ get_or items (length items - 1) p) where
  back : items ≡ reverse pasts
  back = sym (turned items) ∙ ap reverse is

  pub newest_is : (first : Past) (before : List Past) → pasts ≡ first ∷ before → p ≡ first
  newest_is first before e =
      let same : items ≡ reverse before ++ first ∷ [] = back ∙ ap reverse e ∙ reverse-append (first ∷ []) before in
      found ∙ ap (λ (l : List Past). get_or l (length l - 1) p) same ∙ last_get (reverse before) first p

pub newest_has_place : (script : Script) (items pasts : List Past) (p : Past) → reverse items ≡ pasts → p ≡ get_or items (length items - 1) p → 0 < length pasts → InLanes script.commands pasts → IsPlace script.commands p.event
newest_has_place script items [] p is found some lanes = absurd (omega (arith, some))
newest_has_place script items (first ∷ before) p is found some lanes =
    subst (λ (q : Past). IsPlace script.commands q.event) (sym (newest_is script items (first ∷ before) p is found first before refl)) (has_place script before first.event lanes.0)

pub lengths : (s : Script) (xs : List Past) → length (map (deed s) xs) ≡ length xs
lengths s [] = refl
lengths s (x ∷ xs) = let more = lengths s xs in omega (arith, more)

pub newest_line : (seen : Seen) (items : List Past) (p : Past) (count : ℕ) → reverse items ≡ seen.pasts → p ≡ get_or items (length items - 1) p → 0 < length seen.pasts → count ≡ length items
    → event_line count (deed seen.script p) ≡ last_line seen
newest_line seen items p count is found some many = by seen.pasts refl some
  where
    by : (pasts : List Past) → seen.pasts ≡ pasts → 0 < length pasts → event_line count (deed seen.script p) ≡ last_line seen
    by [] e some = absurd (omega (arith, some))
    by (first ∷ before) e some =
        let same : p ≡ first = newest_is seen.script items seen.pasts p is found first before e in
        let long : length seen.pasts ≡ length items = sym (ap length is) ∙ length-reverse items in
        let all : length seen.pasts ≡ length (first ∷ before) = ap length e in
        let deeds = lengths seen.script before in
        let number : count ≡ 1 + length (map (deed seen.script) before) = omega (arith, long, all, deeds, many) in
        ap (λ (q : Past). event_line count (deed seen.script q)) same
        ∙ ap (λ n. event_line n (deed seen.script first)) number
        ∙ ap (λ (pasts : List Past). line_of_last (map (deed seen.script) pasts)) (sym e)
