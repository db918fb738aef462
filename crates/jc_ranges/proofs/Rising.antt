-- Facts on runs that rise, and on the texts that name them.
use Rattle.std.proofs.Common.{◌≡◌, ◌≢◌, ℕ, suc, ◌+◌, ◌<◌, ◌≤◌, eqb, List, [], ◌∷◌, ◌++◌, length, take, drop, map, refl, sym, ap, ◌∙◌, subst, inl, inr, arith, Option, Some, None, append_assoc, length-append, length-drop}
use Rattle.std.proofs.lemmas.Fmt.{decimal_nonempty}
use Rattle.std.proofs.lemmas.List.{map-append, append-nil, take_all, length-take-le}
use Rattle.std.proofs.lemmas.Grind.{flat_map-append}
use Rattle.std.proofs.lemmas.List.Splits.{slice_split_at, slice_split_none, join_with_byte-slice_split}
use Rattle.std.proofs.lemmas.List.Sums.{sum_by_push, sum_by-cons}
use Rattle.std.specs.List.{flat_map, join_with_byte, slice_split, sum_by, position}
use Rattle.std.specs.Option.{unwrap_or}
use Rattle.jc_ranges.specs.Texts.{numbers, element, joined, elements, IsRunFrom, AreRising, NamesSet, BreaksAt}
use Rattle.jc_ranges.specs.declared.runs.Run.{Run}
use Rattle.jc_ranges.specs.Runs.{NamesRun}
use Rattle.jc_ranges.proofs.Numerals.{few_digits}
use Rattle.jc_ranges.proofs.Cuts.{Lacks, CutAt, cut_some, cut_none}
use Rattle.jc_ranges.proofs.Named.{element_cases, element_no_comma, element_names_one}
use Rattle.jc_ranges.specs.declared.bounds.TheConstants.{GREATEST_INDEX}

-- The number that the runs behind `low` may go on with.
abbrev pub low_after : ℕ → List Run → ℕ
low_after low [] = low
low_after low (r ∷ rs) = low_after (suc r.last) rs

-- One run more.
pub rising_push : (low : ℕ) (rs : List Run) (r : Run) → AreRising low rs → IsRunFrom (low_after low rs) r → AreRising low (rs ++ r ∷ [])
rising_push low [] r a h = (h, tt)
rising_push low (s ∷ rs) r a h = (a.0, rising_push (suc s.last) rs r a.1 h)

pub rising_last : (low : ℕ) (rs : List Run) (r : Run) → AreRising low (rs ++ r ∷ []) → IsRunFrom (low_after low rs) r
rising_last low [] r a = a.0
rising_last low (s ∷ rs) r a = rising_last (suc s.last) rs r a.1

low_after_push : (low : ℕ) (rs : List Run) (r : Run) → low_after low (rs ++ r ∷ []) ≡ suc r.last
low_after_push low [] r = refl
low_after_push low (s ∷ rs) r = low_after_push (suc s.last) rs r

-- The parts between commas.
abbrev pub parts : List ℕ → List (List ℕ)
parts text = slice_split (λ b. eqb b 44) text

parts_cut : (rest : List ℕ) (i : ℕ) → CutAt 44 rest i → parts rest ≡ take i rest ∷ parts (drop (i + 1) rest)
parts_cut rest i cut = ap parts cut.parts ∙ slice_split_at (λ b. eqb b 44) (take i rest) 44 (drop (i + 1) rest) cut.before refl

parts_whole : (rest : List ℕ) → Lacks 44 rest → parts rest ≡ rest ∷ []
parts_whole rest h = slice_split_none (λ b. eqb b 44) rest h

elements_some : (text : List ℕ) → 0 < length text → elements text ≡ parts text
elements_some [] h = absurd (omega arith)
elements_some (c ∷ cs) h = refl

element_some : (low : ℕ) (r : Run) → IsRunFrom low r → 0 < length (element r)
element_some low r h =
    let ordered : r.first ≤ r.last = h.ordered in
    let small : r.last ≤ GREATEST_INDEX = h.small in
    let some = decimal_nonempty r.first (few_digits r.first (omega arith)) in
    elim (element_cases r ordered) [
      | inl one ↦ rw one.1 some
      | inr two ↦ rw two.1 (omega (arith, some, length-append {A = ℕ}))
    ]

-- The elements of a text that runs spell are those of the runs.
joined_parts : (low : ℕ) (r : Run) (rs : List Run) → AreRising low (r ∷ rs) → (0 < length (joined (r ∷ rs))) × (parts (joined (r ∷ rs)) ≡ map element (r ∷ rs))
joined_parts low r [] a = (element_some low r a.0, parts_whole (element r) (element_no_comma low r a.0))
joined_parts low r (s ∷ rs) a = (
  omega (arith, element_some low r a.0, length-append (element r) (44 ∷ joined (s ∷ rs))),
  slice_split_at (λ b. eqb b 44) (element r) 44 (joined (s ∷ rs)) (element_no_comma low r a.0) refl ∙ ap (λ z. element r ∷ z) (joined_parts (suc r.last) s rs a.1).1,
)

pub elements_joined : (low : ℕ) (rs : List Run) → AreRising low rs → elements (joined rs) ≡ map element rs
elements_joined low [] a = refl
elements_joined low (r ∷ rs) a =
    let facts = joined_parts low r rs a in
    elements_some (joined (r ∷ rs)) facts.0 ∙ facts.1

-- A text is named by one list of runs only, and then none of its elements breaks the form.
runs_once : (low : ℕ) (rs ss : List Run) → AreRising low rs → AreRising low ss → map element rs ≡ map element ss → rs ≡ ss
runs_once low [] [] a b e = refl
runs_once low [] (s ∷ ss) a b e = absurd (cc (e))
runs_once low (r ∷ rs) [] a b e = absurd (cc (e))
runs_once low (r ∷ rs) (s ∷ ss) a b e =
    let first : element r ≡ element s = cc in
    let more : map element rs ≡ map element ss = cc in
    let same = element_names_one low low r s a.0 b.0 first in
    let rest = runs_once (suc r.last) rs ss a.1 (subst (λ (t : Run). AreRising (suc t.last) ss) (sym same) b.1) more in
    cc

pub names_once : (text xs ys : List ℕ) → NamesSet text xs → NamesSet text ys → xs ≡ ys
names_once text xs ys h k =
    let hs = elements_joined 0 h.named h.rising in
    let ks = elements_joined 0 k.named k.rising in
    let same = runs_once 0 h.named k.named h.rising k.rising (sym hs ∙ ap elements (sym h.spelled ∙ k.spelled) ∙ ks) in
    h.members ∙ ap (flat_map numbers) same ∙ sym k.members

none_broken : (low : ℕ) (rs before : List Run) (broken : List ℕ) (after : List (List ℕ)) → AreRising low rs → AreRising low before → map element rs ≡ map element before ++ broken ∷ after →
    ((r : Run) → AreRising low (before ++ r ∷ []) → broken ≢ element r) → ⊥
none_broken low [] [] broken after a b e none = cc
none_broken low [] (s ∷ ss) broken after a b e none = cc
none_broken low (r ∷ rs) [] broken after a b e none = let first : element r ≡ broken = cc in none r (a.0, tt) (sym first)
none_broken low (r ∷ rs) (s ∷ ss) broken after a b e none =
    let first : element r ≡ element s = cc in
    let more : map element rs ≡ map element ss ++ broken ∷ after = cc in
    let same = element_names_one low low r s a.0 b.0 first in
    none_broken (suc s.last) rs ss broken after (subst (λ (t : Run). AreRising (suc t.last) rs) same a.1) b.1 more (λ t h. none t (b.0, h))

pub names_unbroken : (text xs : List ℕ) (at : ℕ) → NamesSet text xs → BreaksAt text at → ⊥
names_unbroken text xs at h k =
    none_broken 0 h.named k.before k.broken k.after h.rising k.rising (sym (elements_joined 0 h.named h.rising) ∙ ap elements (sym h.spelled) ∙ k.cut) k.breaks

-- What is read of a text before its rest.
pub record ReadSoFar (text rest members : List ℕ) (low at : ℕ) : Type 0 where
  pub done : List Run
  pub some : 0 < length text
  pub rising : AreRising 0 done
  pub next : low ≡ low_after 0 done
  pub cut : parts text ≡ map element done ++ parts rest
  pub read : members ≡ flat_map numbers done
  pub place : at ≡ sum_by (λ r. length (element r) + 1) done
  pub within : at + length rest ≤ length text

-- The first element of the rest.
pub first_part : (rest : List ℕ) (comma : Option ℕ) → comma ≡ position (λ b. eqb b 44) rest → (more : List (List ℕ)) × (parts rest ≡ take (unwrap_or comma (length rest)) rest ∷ more)
first_part rest None e = ([], parts_whole rest (cut_none 44 rest (sym e)) ∙ ap (λ z. z ∷ []) (sym (take_all (length rest) rest (omega arith))))
first_part rest (Some i) e = (parts (drop (i + 1) rest), parts_cut rest i (cut_some 44 rest i (sym e)))

regroup : (es : List (List ℕ)) (e : List ℕ) (fs : List (List ℕ)) → es ++ e ∷ fs ≡ (es ++ e ∷ []) ++ fs
regroup es e fs = sym (append_assoc es (e ∷ []) fs)

pub read_more : (text rest members new : List ℕ) (low at i : ℕ) (r : Run) → ReadSoFar text rest members low at → CutAt 44 rest i → NamesRun low (take i rest) r → new ≡ members ++ numbers r →
    ReadSoFar text (drop (i + 1) rest) new (r.last + 1) (at + (i + 1))
read_more text rest members new low at i r so cut names e =
    let done = so.done in
    let inside : i < length rest = cut.within in
    let long : length (element r) ≡ i = ap length (sym names.spelled) ∙ length-take-le i rest (omega arith) in
    record {
      done = done ++ r ∷ [];
      some = so.some;
      rising = rising_push 0 done r so.rising (subst (λ m. IsRunFrom m r) so.next names.run);
      next = let after = low_after_push 0 done r in omega (arith, after);
      cut = so.cut ∙ ap (λ z. map element done ++ z) (parts_cut rest i cut) ∙ ap (λ z. map element done ++ z ∷ parts (drop (i + 1) rest)) names.spelled
          ∙ regroup (map element done) (element r) (parts (drop (i + 1) rest)) ∙ ap (λ z. z ++ parts (drop (i + 1) rest)) (sym (map-append element done (r ∷ [])));
      read = e ∙ ap (λ z. z ++ numbers r) so.read ∙ ap (λ z. flat_map numbers done ++ z) (sym (append-nil (numbers r))) ∙ sym (flat_map-append numbers done (r ∷ []));
      place =
          let before = so.place in
          let sum = sum_by_push (λ r. length (element r) + 1) done r in
          omega (arith, before, sum, long);
      within = let before = so.within in omega (arith, before, length-drop (i + 1) rest);
    }

pub read_last : (text rest members new : List ℕ) (low at : ℕ) (r : Run) → ReadSoFar text rest members low at → Lacks 44 rest → NamesRun low rest r → new ≡ members ++ numbers r → NamesSet text new
read_last text rest members new low at r so lacks names e =
    let done = so.done in
    let whole : parts text ≡ map element (done ++ r ∷ []) =
    so.cut ∙ ap (λ z. map element done ++ z) (parts_whole rest lacks) ∙ ap (λ z. map element done ++ z ∷ []) names.spelled ∙ sym (map-append element done (r ∷ [])) in
    record {
      named = done ++ r ∷ [];
      rising = rising_push 0 done r so.rising (subst (λ m. IsRunFrom m r) so.next names.run);
      spelled = sym (join_with_byte-slice_split 44 text) ∙ ap (join_with_byte 44) whole;
      members = e ∙ ap (λ z. z ++ numbers r) so.read ∙ ap (λ z. flat_map numbers done ++ z) (sym (append-nil (numbers r))) ∙ sym (flat_map-append numbers done (r ∷ []));
    }

pub read_broken : (text rest members : List ℕ) (low at : ℕ) (e : List ℕ) (more : List (List ℕ)) → ReadSoFar text rest members low at → parts rest ≡ e ∷ more → ((r : Run) → NamesRun low e r → ⊥) → BreaksAt text at
read_broken text rest members low at e more so first none = record {
  before = so.done;
  broken = e;
  after = more;
  cut = elements_some text so.some ∙ so.cut ∙ ap (λ z. map element so.done ++ z) first;
  rising = so.rising;
  breaks = λ r a q. none r (record { run = subst (λ m. IsRunFrom m r) (sym so.next) (rising_last 0 so.done r a); spelled = q });
  place = so.place;
}

-- The part that the code reads as the first element of the rest.
pub read_first_broken : (text rest members : List ℕ) (low at n : ℕ) (comma : Option ℕ) → ReadSoFar text rest members low at → comma ≡ position (λ b. eqb b 44) rest → n ≡ unwrap_or comma (length rest)
    → ((r : Run) → NamesRun low (take n rest) r → ⊥) → BreaksAt text at
read_first_broken text rest members low at n comma so is long none =
    let first = first_part rest comma is in
    read_broken text rest members low at (take n rest) first.0 so (first.1 ∙ ap (λ m. take m rest ∷ first.0) (sym long)) none

pub read_to_end : (text rest members new : List ℕ) (low at n : ℕ) (comma : Option ℕ) (r : Run) → ReadSoFar text rest members low at → comma ≡ None → comma ≡ position (λ b. eqb b 44) rest → n
    ≡ unwrap_or comma (length rest) → NamesRun low (take n rest) r → new ≡ members ++ numbers r → NamesSet text new
read_to_end text rest members new low at n comma r so end is long names e =
    let all : n ≡ length rest = long ∙ ap (λ o. unwrap_or o (length rest)) end in
    let whole : take n rest ≡ rest = take_all n rest (omega arith) in
    read_last text rest members new low at r so (cut_none 44 rest (sym is ∙ end)) (subst (λ w. NamesRun low w r) whole names) e

pub read_to_comma : (text rest next members new : List ℕ) (low at n i : ℕ) (comma : Option ℕ) (r : Run) → ReadSoFar text rest members low at → comma ≡ Some i → comma ≡ position (λ b. eqb b 44) rest →
    n ≡ unwrap_or comma (length rest) → next ≡ drop (i + 1) rest → NamesRun low (take n rest) r → new ≡ members ++ numbers r → ReadSoFar text next new (r.last + 1) (at + (i + 1))
read_to_comma text rest next members new low at n i comma r so here is long e names d =
    let front : n ≡ i = long ∙ ap (λ o. unwrap_or o (length rest)) here in
    subst (λ (z : List ℕ). ReadSoFar text z new (r.last + 1) (at + (i + 1))) (sym e)
    (read_more text rest members new low at i r so (cut_some 44 rest i (sym is ∙ here)) (subst (λ m. NamesRun low (take m rest) r) front names) d)

-- A text breaks the form at one place only.
place_once : (low : ℕ) (before others : List Run) (broken other : List ℕ) (after more : List (List ℕ)) → AreRising low before → AreRising low others → map element before ++ broken ∷ after
    ≡ map element others ++ other ∷ more → ((r : Run) → AreRising low (before ++ r ∷ []) → broken ≢ element r) → ((r : Run) → AreRising low (others ++ r ∷ []) → other ≢ element r) → sum_by
    (λ r. length (element r) + 1) before ≡ sum_by (λ r. length (element r) + 1) others
place_once low [] [] broken other after more a b e none few = refl
place_once low [] (s ∷ ss) broken other after more a b e none few = let first : broken ≡ element s = cc in absurd (none s (b.0, tt) first)
place_once low (r ∷ rs) [] broken other after more a b e none few = let first : other ≡ element r = cc in absurd (few r (a.0, tt) first)
place_once low (r ∷ rs) (s ∷ ss) broken other after more a b e none few =
    let first : element r ≡ element s = cc in
    let rest : map element rs ++ broken ∷ after ≡ map element ss ++ other ∷ more = cc in
    let same = element_names_one low low r s a.0 b.0 first in
    let raised = subst (λ (t : Run). AreRising (suc t.last) rs) same a.1 in
    let last : suc s.last ≡ suc r.last = ap (λ (t : Run). suc t.last) (sym same) in
    let sums = place_once (suc s.last) rs ss broken other after more raised b.1 rest (λ t h. none t (a.0, subst (λ m. AreRising m (rs ++ t ∷ [])) last h)) (λ t h. few t (b.0, h)) in
    sum_by-cons (λ r. length (element r) + 1) r rs ∙ ap (λ m. length (element r) + 1 + m) sums ∙ ap (λ z. length z + 1 + sum_by (λ r. length (element r) + 1) ss) first ∙ sym (sum_by-cons (λ r. length (element r) + 1) s ss)

pub breaks_once : (text : List ℕ) (at place : ℕ) → BreaksAt text at → BreaksAt text place → at ≡ place
breaks_once text at place h k = h.place ∙ place_once 0 h.before k.before h.broken k.broken h.after k.after h.rising k.rising (sym h.cut ∙ k.cut) h.breaks k.breaks ∙ sym k.place
