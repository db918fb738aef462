-- The places of registers, and what a change of one leaves as it is.
use Rattle.std.proofs.Common.{◌≡◌, ◌≢◌, ℕ, zero, suc, ◌+◌, ◌-◌, ◌*◌, ◌<◌, ◌≤◌, ◌==◌, nat_lt, Bool, true, false, cond, ◌&&◌, List, [], ◌∷◌, ◌++◌, length, map, get_or, set, Option, Some, None, refl, sym, ap, ◌∙◌, true≢false, arith, ltb-true, ltb-false}
use Rattle.std.specs.List.{flat_map, range_with_len}
use Rattle.std.proofs.lemmas.Bool.{eqb-true}
use Rattle.std.proofs.lemmas.List.{get_or-append_right, get_or-map, get_or_append_left, length-append, length-map}
use Rattle.std.proofs.lemmas.List.FromFn.{get_or-map-range_with_len, length-map-range_with_len}
use Rattle.std.proofs.Math.Nat.{suc-mul}
use Rattle.std.proofs.Math.Numerals.{suc-eq-add-one}
use Rattle.jc_types.specs.declared.runs.Shape.{Shape}
use Rattle.jc_play.specs.declared.slots.Slot.{Slot}
use Rattle.jc_play.specs.Slots.{is_slot_of}
use Rattle.jc_core.specs.declared.changes.Change.{Change}
use Rattle.jc_core.specs.declared.changes.Change.TheVariants as change
use Rattle.jc_core.specs.RegisterChanges.{changed_slot, sole_register}
use Rattle.jc_core.specs.Shared.{all_registers, is_seat, numbers_of}

-- ---- places

-- The registers of a controller.
abbrev row : ℕ → ℕ → List (ℕ × ℕ)
row workers c = map (λ w. (c, w)) (range_with_len 0 workers)

module _ (workers a n i c w : ℕ) where
  -- The registers of the controllers behind the first.
  abbrev rest : List (ℕ × ℕ)
  rest = flat_map (row workers) (range_with_len (a + 1) n)

  long : length (row workers a) ≡ workers
  long = length-map-range_with_len (λ w. (a, w)) 0 workers

  -- A register of the first controller.
  first : get_or (row workers a ++ rest) i (0, 0) ≡ (c, w) → i < workers → ◌≡◌ {A = ℕ × ℕ} (a, i) (c, w)
  first at less =
      sym (get_or-map-range_with_len (λ w. (a, w)) 0 workers i i (0, 0) less (omega arith))
      ∙ sym (get_or_append_left (row workers a) rest (0, 0) i (omega (arith, less, long)))
      ∙ at

  -- One of the others.
  later : (i - workers < length rest → get_or rest (i - workers) (0, 0) ≡ (c, w) → i - workers + (a + 1) * workers ≡ c * workers + w)
      → i < length (row workers a ++ rest) → get_or (row workers a ++ rest) i (0, 0) ≡ (c, w) → workers ≤ i → i + a * workers ≡ c * workers + w
  later behind lt at more =
      let all = length-append (row workers a) rest in
      let len = long in
      let told = behind (omega (arith, lt, all, len, more)) (sym (get_or-append_right (row workers a) rest workers i (0, 0) long more) ∙ at) in
      let grown : (a + 1) * workers ≡ a * workers + workers = ap (λ k. k * workers) (sym (suc-eq-add-one a)) ∙ suc-mul a workers in
      omega (arith, told, grown, more)

  placed-on : (i - workers < length rest → get_or rest (i - workers) (0, 0) ≡ (c, w) → i - workers + (a + 1) * workers ≡ c * workers + w)
      → i < length (row workers a ++ rest) → get_or (row workers a ++ rest) i (0, 0) ≡ (c, w) → (b : Bool) → nat_lt i workers ≡ b → i + a * workers ≡ c * workers + w
  placed-on behind lt at true e =
      let is = first at (ltb-true i workers e) in
      let is_w : i ≡ w = ap (λ p. p.1) is in
      ap (λ k. i + k * workers) (ap (λ p. p.0) is) ∙ omega (arith, is_w)
  placed-on behind lt at false e = later behind lt at (ltb-false i workers e)

-- The register at a place of some controllers.
placed : (workers a n i c w : ℕ) → i < length (flat_map (row workers) (range_with_len a n)) → get_or (flat_map (row workers) (range_with_len a n)) i (0, 0) ≡ (c, w)
    → i + a * workers ≡ c * workers + w
placed workers a zero i c w lt at = absurd (omega (arith, lt))
placed workers a (suc n) i c w lt at = placed-on workers a n i c w (placed workers (a + 1) n (i - workers) c w) lt at (nat_lt i workers) refl

-- A register stands at its place.
placed-slot : (shape : Shape) (slots : List Slot) (i c w : ℕ) (d : Slot) → map numbers_of slots ≡ all_registers shape → i < length slots
    → is_slot_of c w (get_or slots i d) ≡ true → i ≡ c * shape.workers + w
placed-slot shape slots i c w d whole lt is =
    let numbers = by ((get_or slots i d).controller == c) refl ((get_or slots i d).worker == w) refl is in
    let count : length slots ≡ length (all_registers shape) = sym (length-map slots numbers_of) ∙ ap length whole in
    let place = placed shape.workers 0 shape.controllers i c w (omega (arith, lt, count)) (ap (λ rs. get_or rs i (0, 0)) (sym whole) ∙ get_or-map numbers_of slots i d (0, 0) lt ∙ numbers) in
    omega (arith, place)
  where
    by : (a : Bool) → ((get_or slots i d).controller == c) ≡ a → (b : Bool) → ((get_or slots i d).worker == w) ≡ b → (a && b) ≡ true → numbers_of (get_or slots i d) ≡ (c, w)
    by true e true f h = λ j. (eqb-true (get_or slots i d).controller c e j, eqb-true (get_or slots i d).worker w f j)
    by true e false f h = absurd (true≢false (sym h))
    by false e b f h = absurd (true≢false (sym h))

-- ---- a change of one register

abbrev is_pair : Option (ℕ × ℕ) → Bool
is_pair None = false
is_pair (Some pair) = true

abbrev pair_in : Option (ℕ × ℕ) → ℕ × ℕ
pair_in None = (0, 0)
pair_in (Some pair) = pair

-- It leaves the others as they are.
others-stay : (change : Change) (c w : ℕ) → sole_register change ≡ Some (c, w) → (slot : Slot) → is_slot_of c w slot ≡ false → changed_slot change slot ≡ slot
others-stay (change.Take seat x y) c w of slot other =
    ap (λ b. cond b (record slot { holder = Some seat }) slot) (ap (λ o. is_slot_of (pair_in o).0 (pair_in o).1 slot) of ∙ other)
others-stay (change.PutBack seat x y) c w of slot other =
    ap (λ b. cond (b && is_seat seat slot.holder) (record slot { holder = None }) slot) (ap (λ o. is_slot_of (pair_in o).0 (pair_in o).1 slot) of ∙ other)
others-stay (change.Want wants x y) c w of slot other =
    ap (λ b. cond b (record slot { wants = wants }) slot) (ap (λ o. is_slot_of (pair_in o).0 (pair_in o).1 slot) of ∙ other)
others-stay change.Free c w of slot other = absurd (true≢false (sym (ap is_pair of)))
others-stay (change.Restart x) c w of slot other = absurd (true≢false (sym (ap is_pair of)))

-- What is left as it is everywhere is the same list.
map-fixed : (f : Slot → Slot) (xs : List Slot) → ((i : ℕ) (d : Slot) → i < length xs → f (get_or xs i d) ≡ get_or xs i d) → map f xs ≡ xs
map-fixed f [] h = refl
map-fixed f (x ∷ xs) h = ap (λ y. y ∷ map f xs) (h 0 x (omega arith)) ∙ ap (λ ys. x ∷ ys) (map-fixed f xs (λ i d lt. h (suc i) d (omega (arith, lt))))

-- What is left as it is but at one place is set there alone.
map-at : (f : Slot → Slot) (xs : List Slot) (p : ℕ) (d : Slot) → p < length xs → ((i : ℕ) (e : Slot) → i < length xs → i ≢ p → f (get_or xs i e) ≡ get_or xs i e)
    → set xs p (f (get_or xs p d)) ≡ map f xs
map-at f [] p d lt h = absurd (omega (arith, lt))
map-at f (x ∷ xs) zero d lt h = ap (λ ys. f x ∷ ys) (sym (map-fixed f xs (λ i e less. h (suc i) e (omega (arith, less)) (λ same. omega (arith, same)))))
map-at f (x ∷ xs) (suc p) d lt h =
    ap (λ y. y ∷ set xs p (f (get_or xs p d))) (sym (h 0 x (omega arith) (λ same. omega (arith, same))))
    ∙ ap (λ ys. f x ∷ ys) (map-at f xs p d (omega (arith, lt)) (λ i e less other. h (suc i) e (omega (arith, less)) (λ same. other (omega (arith, same)))))

module _ (shape : Shape) (slots : List Slot) (whole : map numbers_of slots ≡ all_registers shape) (change : Change) (c w : ℕ) (of : sole_register change ≡ Some (c, w)) where
  elsewhere : (i : ℕ) (d : Slot) → i < length slots → i ≢ c * shape.workers + w → changed_slot change (get_or slots i d) ≡ get_or slots i d
  elsewhere i d lt other = others-stay change c w of (get_or slots i d) (by (is_slot_of c w (get_or slots i d)) refl)
    where
      by : (b : Bool) → is_slot_of c w (get_or slots i d) ≡ b → is_slot_of c w (get_or slots i d) ≡ false
      by true e = absurd (other (placed-slot shape slots i c w d whole lt e))
      by false e = e

  -- Its register is changed where it stands.
  pub changed-there : (place : ℕ) (d : Slot) → place ≡ c * shape.workers + w → place < length slots
      → set slots place (changed_slot change (get_or slots place d)) ≡ map (changed_slot change) slots
  changed-there place d is lt = map-at (changed_slot change) slots place d lt (λ i e less other. elsewhere i e less (λ same. other (same ∙ sym is)))

  -- Where there is no such register nothing changes.
  pub changed-nowhere : (place : ℕ) → place ≡ c * shape.workers + w → length slots ≤ place → slots ≡ map (changed_slot change) slots
  changed-nowhere place is past = sym (map-fixed (changed_slot change) slots (λ i d lt. elsewhere i d lt (λ same. omega (arith, same, is, past, lt))))
