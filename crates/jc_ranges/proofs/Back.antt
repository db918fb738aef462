-- Facts on sets and the runs that name them: the text of a set names that set.
use Rattle.std.proofs.Common.{◌≡◌, ℕ, zero, suc, ◌+◌, ◌-◌, ◌<◌, ◌≤◌, Bool, true, false, cond, eqb, ltb, List, [], ◌∷◌, ◌++◌, map, refl, sym, ap, ◌∙◌, subst, arith, ◌⊎◌, inl, inr}
use Rattle.std.proofs.lemmas.Bool.{eqb-true}
use Rattle.std.proofs.lemmas.List.{append-nil}
use Rattle.std.specs.List.{AllByRecursion, range_with_len, flat_map}
use Rattle.jc_ranges.specs.Sets.{IsIncreasing, IsSet}
use Rattle.jc_ranges.specs.Texts.{single, numbers, with_front_run, runs, written, ranges_text, AreRising, NamesSet, BreaksAt}
use Rattle.jc_ranges.specs.declared.runs.Run.{Run}
use Rattle.jc_ranges.specs.Runs.{IsFaultOf}
use Rattle.jc_ranges.specs.declared.parse.RangesFault.{RangesFault}
use Rattle.jc_ranges.specs.declared.parse.RangesFault.TheVariants.{BadRanges, Want}
use Rattle.jc_ranges.proofs.Rising.{names_unbroken, breaks_once}
use Rattle.jc_ranges.proofs.Order.{each_from_zero, each_weaker, each_append, increasing_append}
use Rattle.jc_ranges.specs.declared.bounds.TheConstants.{GREATEST_INDEX}

-- The numbers of a run, and of runs that rise.
pub range_set : (a n : ℕ) → IsIncreasing (range_with_len a n) × AllByRecursion (λ x. a ≤ x) (range_with_len a n) × AllByRecursion (λ x. x < a + n) (range_with_len a n)
range_set a zero = (tt, tt, tt)
range_set a (suc n) =
    let more = range_set (a + 1) n in (
      (each_weaker (λ x. a + 1 ≤ x) (λ x. a < x) (λ x h. omega arith) (range_with_len (a + 1) n) more.1, more.0),
      (omega arith, each_weaker (λ x. a + 1 ≤ x) (λ x. a ≤ x) (λ x h. omega arith) (range_with_len (a + 1) n) more.1),
      (omega arith, each_weaker (λ x. x < a + 1 + n) (λ x. x < a + suc n) (λ x h. omega arith) (range_with_len (a + 1) n) more.2),
    )

pub rising_set : (low : ℕ) (rs : List Run) → AreRising low rs → IsIncreasing (flat_map numbers rs) × AllByRecursion (λ x. low ≤ x) (flat_map numbers rs) × AllByRecursion (λ x. x ≤ GREATEST_INDEX) (flat_map numbers rs)
rising_set low [] a = (tt, tt, tt)
rising_set low (r ∷ rs) a =
    let above : low ≤ r.first = a.0.above in
    let ordered : r.first ≤ r.last = a.0.ordered in
    let small : r.last ≤ GREATEST_INDEX = a.0.small in
    let front = range_set r.first (suc r.last - r.first) in
    let more = rising_set (suc r.last) rs a.1 in (
      increasing_append (numbers r) (flat_map numbers rs) (suc r.last) front.0 more.0 (each_weaker (λ x. x < r.first + (suc r.last - r.first)) (λ x. x < suc r.last) (λ x h. omega arith) (numbers r) front.2) more.1,
      each_append (λ x. low ≤ x) (numbers r) (flat_map numbers rs) (each_weaker (λ x. r.first ≤ x) (λ x. low ≤ x) (λ x h. omega arith) (numbers r) front.1)
          (each_weaker (λ x. suc r.last ≤ x) (λ x. low ≤ x) (λ x h. omega arith) (flat_map numbers rs) more.1),
      each_append (λ x. x ≤ GREATEST_INDEX) (numbers r) (flat_map numbers rs) (each_weaker (λ x. x < r.first + (suc r.last - r.first)) (λ x. x ≤ GREATEST_INDEX) (λ x h. omega arith) (numbers r) front.2) more.2,
    )

pub named_set : (text xs : List ℕ) → NamesSet text xs → IsSet xs
named_set text xs h =
    let facts = rising_set 0 h.named h.rising in
    subst IsSet (sym h.members) (record { increasing = facts.0; small = facts.2 })

-- The cut of a set into runs.
pub run_from : (x last : ℕ) → x ≤ last → range_with_len x (suc last - x) ≡ x ∷ range_with_len (suc x) (suc last - suc x)
run_from x last h =
    let long : suc last - x ≡ suc (suc last - suc x) = omega arith in
    let next : x + 1 ≡ suc x = omega arith in
    ap (range_with_len x) long ∙ ap (λ m. x ∷ range_with_len m (suc last - suc x)) next

pub numbers_single : (x : ℕ) → numbers (single x) ≡ x ∷ []
numbers_single x = let one : suc x - x ≡ suc zero = omega arith in ap (range_with_len x) one

with_front_run_names : (low x : ℕ) (xs : List ℕ) (rs : List Run) → low ≤ x → x ≤ GREATEST_INDEX → AreRising (suc x) rs → flat_map numbers rs ≡ xs → AreRising low (with_front_run x rs) × (flat_map numbers (with_front_run x rs) ≡ x ∷ xs)
with_front_run_names low x xs [] h k a e = (
  (record { above = h; ordered = omega arith; small = k }, tt),
  append-nil (numbers (single x)) ∙ numbers_single x ∙ ap (λ z. x ∷ z) e,
)
with_front_run_names low x xs (r ∷ rs) h k a e = by (eqb r.first (suc x)) refl
  where
    by : (b : Bool) → eqb r.first (suc x) ≡ b → AreRising low (cond b ((record { first = x; last = r.last }) ∷ rs) (single x ∷ r ∷ rs)) × (flat_map numbers (cond b ((record { first = x; last = r.last }) ∷ rs) (single x ∷ r ∷ rs)) ≡ x ∷ xs)
    by true q =
        let at : r.first ≡ suc x = eqb-true _ _ q in
        let ordered : r.first ≤ r.last = a.0.ordered in
        let below : x ≤ r.last = omega arith in (
          (record { above = h; ordered = below; small = a.0.small }, a.1),
          ap (λ z. z ++ flat_map numbers rs) (run_from x r.last below) ∙ ap (λ m. x ∷ (range_with_len m (suc r.last - m) ++ flat_map numbers rs)) (sym at) ∙ ap (λ z. x ∷ z) e,
        )
    by false q = (
      (record { above = h; ordered = omega arith; small = k }, a),
      ap (λ z. z ++ flat_map numbers (r ∷ rs)) (numbers_single x) ∙ ap (λ z. x ∷ z) e,
    )

runs_name : (low : ℕ) (xs : List ℕ) → IsIncreasing xs → AllByRecursion (λ x. low ≤ x) xs → AllByRecursion (λ x. x ≤ GREATEST_INDEX) xs → AreRising low (runs xs) × (flat_map numbers (runs xs) ≡ xs)
runs_name low [] s a b = (tt, refl)
runs_name low (x ∷ xs) s a b =
    let more = runs_name (suc x) xs s.1 (each_weaker (λ y. x < y) (λ y. suc x ≤ y) (λ y h. omega arith) xs s.0) b.1 in
    with_front_run_names low x xs (runs xs) a.0 b.0 more.0 more.1

-- The elements that are written for the runs.
pub rising_lower : (low high : ℕ) (rs : List Run) → low ≤ high → AreRising high rs → AreRising low rs
rising_lower low high [] h a = tt
rising_lower low high (r ∷ rs) h a = let above : high ≤ r.first = a.0.above in (record { above = omega arith; ordered = a.0.ordered; small = a.0.small }, a.1)

singles_name : (low a n : ℕ) (rs : List Run) → low ≤ a → a + n ≤ suc GREATEST_INDEX → AreRising (a + n) rs → AreRising low (map single (range_with_len a n) ++ rs) ×
    (flat_map numbers (map single (range_with_len a n) ++ rs) ≡ range_with_len a n ++ flat_map numbers rs)
singles_name low a zero rs h k r = (rising_lower low (a + zero) rs (omega arith) r, refl)
singles_name low a (suc n) rs h k r =
    let same : a + suc n ≡ a + 1 + n = omega arith in
    let more = singles_name (suc a) (a + 1) n rs (omega arith) (omega arith) (subst (λ m. AreRising m rs) same r) in (
      (record { above = h; ordered = omega arith; small = omega arith }, more.0),
      ap (λ z. z ++ flat_map numbers (map single (range_with_len (a + 1) n) ++ rs)) (numbers_single a) ∙ ap (λ z. a ∷ z) more.1,
    )

written_name : (low : ℕ) (rs : List Run) → AreRising low rs → AreRising low (flat_map written rs) × (flat_map numbers (flat_map written rs) ≡ flat_map numbers rs)
written_name low [] a = (tt, refl)
written_name low (r ∷ rs) a = by (ltb (suc r.first) r.last) (written_name (suc r.last) rs a.1)
  where
    by : (b : Bool) → AreRising (suc r.last) (flat_map written rs) × (flat_map numbers (flat_map written rs) ≡ flat_map numbers rs) → AreRising low
        (cond b (r ∷ []) (map single (numbers r)) ++ flat_map written rs) × (flat_map numbers (cond b (r ∷ []) (map single (numbers r)) ++ flat_map written rs) ≡ numbers r ++ flat_map numbers rs)
    by true more = ((a.0, more.0), ap (λ z. numbers r ++ z) more.1)
    by false more =
        let above : low ≤ r.first = a.0.above in
        let ordered : r.first ≤ r.last = a.0.ordered in
        let small : r.last ≤ GREATEST_INDEX = a.0.small in
        let end : suc r.last ≡ r.first + (suc r.last - r.first) = omega arith in
        let one = singles_name low r.first (suc r.last - r.first) (flat_map written rs) above (omega arith) (subst (λ m. AreRising m (flat_map written rs)) end more.0) in
        (one.0, one.1 ∙ ap (λ z. numbers r ++ z) more.1)

pub text_names : (text xs : List ℕ) → IsSet xs → text ≡ ranges_text xs → NamesSet text xs
unfolding ranges_text
text_names text xs s e =
    let cut = runs_name 0 xs s.increasing (each_from_zero xs) s.small in
    let elements = written_name 0 (runs xs) cut.0 in
    record {
      named = flat_map written (runs xs);
      rising = elements.0;
      spelled = e;
      members = sym (elements.1 ∙ cut.1);
    }

-- A text that names a set is refused for want of memory only.
pub fault_want : (text xs : List ℕ) (fault : RangesFault) → NamesSet text xs → IsFaultOf text fault → fault ≡ Want
fault_want text xs (BadRanges at) h f = absurd (names_unbroken text xs at h f)
fault_want text xs Want h f = refl

-- A text that breaks the form is refused with the place where it does.
pub fault_place : (text : List ℕ) (at : ℕ) (fault : RangesFault) → BreaksAt text at → IsFaultOf text fault → (fault ≡ BadRanges at) ⊎ (fault ≡ Want)
fault_place text at (BadRanges place) h f = inl (ap BadRanges (breaks_once text place at f h))
fault_place text at Want h f = inr refl
