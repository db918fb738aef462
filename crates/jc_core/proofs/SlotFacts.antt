-- The registers of a threaded run: each is of the shape, and keeps its numbers.
use Rattle.std.proofs.Common.{◌≡◌, ℕ, zero, suc, ◌+◌, ◌<◌, ◌≤◌, ◌==◌, Bool, true, false, cond, ◌&&◌, ◌||◌, List, [], ◌∷◌, ◌++◌, length, map, get_or, Some, None, is_none, is_some, refl, sym, ap, ◌∙◌, subst, true≢false, arith}
use Rattle.std.specs.List.{AllByRecursion as Each, flat_map, list_any, range_with_len}
use Rattle.std.proofs.lemmas.Bool.{eqb-true}
use Rattle.std.proofs.lemmas.List.{append_assoc, flat_map_more, map-append, map-id}
use Rattle.std.proofs.lemmas.List.Elements.{All-from_recursion}
use Rattle.std.proofs.lemmas.List.FromFn.{map-range_with_len_more}
use Rattle.jc_types.proofs.ListFacts.{Each-append}
use Rattle.jc_types.specs.declared.actions.Script.{Script}
use Rattle.jc_types.specs.declared.runs.Shape.{Shape}
use Rattle.jc_history.specs.Available.{below}
use Rattle.jc_history.specs.Registers.{register}
use Rattle.jc_runs.specs.Seen.{Seen}
use Rattle.jc_play.specs.DiariesSeen.{diary_seen}
use Rattle.jc_play.specs.Plays.{IsScriptFor}
use Rattle.jc_play.specs.declared.slots.Slot.{Slot}
use Rattle.jc_play.specs.Slots.{is_slot_of}
use Rattle.jc_core.specs.declared.changes.Change.{Change}
use Rattle.jc_core.specs.declared.changes.Change.TheVariants as change
use Rattle.jc_core.specs.RegisterChanges.{changed_slot}
use Rattle.jc_core.specs.Shared.{KeepsShared, fresh_slot, holds_slot, is_open_slot, is_seat, numbers_of, all_registers}

-- ---- of the shape

module _ (P : ℕ × ℕ → Type 0) where
  each-worker : (c a n : ℕ) → ((w : ℕ) → w < a + n → P (c, w)) → Each P (map (λ w. (c, w)) (range_with_len a n))
  each-worker c a zero h = tt
  each-worker c a (suc n) h = (h a (omega arith), each-worker c (a + 1) n (λ w lt. h w (omega (arith, lt))))

  each-controller : (f : ℕ → List (ℕ × ℕ)) (a n : ℕ) → ((c : ℕ) → c < a + n → Each P (f c)) → Each P (flat_map f (range_with_len a n))
  each-controller f a zero h = tt
  each-controller f a (suc n) h = Each-append P (f a) _ (h a (omega arith)) (each-controller f (a + 1) n (λ c lt. h c (omega (arith, lt))))

-- The controller and the worker are of the shape.
pub record IsWithin (shape : Shape) (numbers : ℕ × ℕ) : Type 0 where
  pub controller : numbers.0 < shape.controllers
  pub worker : numbers.1 < shape.workers

registers-within : (shape : Shape) → Each (IsWithin shape) (all_registers shape)
registers-within shape =
    each-controller (IsWithin shape) (λ c. map (λ w. (c, w)) (range_with_len 0 shape.workers)) 0 shape.controllers
    (λ c lt. each-worker (IsWithin shape) c 0 shape.workers (λ w less. record { controller = omega (arith, lt); worker = omega (arith, less) }))

each-image : {A B : Type 0} (P : B → Type 0) (f : A → B) (xs : List A) → Each P (map f xs) → Each (λ x. P (f x)) xs
each-image P f [] h = tt
each-image P f (x ∷ xs) h = (h.0, each-image P f xs h.1)

-- Each register is of the shape.
slots-within : (shape : Shape) (slots : List Slot) → map numbers_of slots ≡ all_registers shape → Each (λ slot. IsWithin shape (numbers_of slot)) slots
slots-within shape slots whole = each-image (IsWithin shape) numbers_of slots (subst (Each (IsWithin shape)) (sym whole) (registers-within shape))

-- So is the one at an index.
pub slot-within : (shape : Shape) (slots : List Slot) (i : ℕ) (d : Slot) → map numbers_of slots ≡ all_registers shape → i < length slots → IsWithin shape (numbers_of (get_or slots i d))
slot-within shape slots i d registers lt =
    All-from_recursion (λ slot. IsWithin shape (numbers_of slot)) slots (slots-within shape slots registers) i d lt

within-of : (shape : Shape) (c w : ℕ) (slot : Slot) → IsWithin shape (numbers_of slot) → (slot.controller == c) ≡ true → (slot.worker == w) ≡ true → IsWithin shape (c, w)
within-of shape c w slot h is_c is_w = record {
  controller = subst (λ n. n < shape.controllers) (eqb-true slot.controller c is_c) h.controller;
  worker = subst (λ n. n < shape.workers) (eqb-true slot.worker w is_w) h.worker;
}

-- So is one that a seat holds.
held-within : (shape : Shape) (seat c w : ℕ) (slots : List Slot) → Each (λ slot. IsWithin shape (numbers_of slot)) slots → list_any (holds_slot seat c w) slots ≡ true → IsWithin shape (c, w)
held-within shape seat c w [] h e = absurd (true≢false (sym e))
held-within shape seat c w (slot ∷ slots) h e = by (held-within shape seat c w slots h.1) (slot.controller == c) (slot.worker == w) (is_seat seat slot.holder) refl refl e
  where
    by : (list_any (holds_slot seat c w) slots ≡ true → IsWithin shape (c, w)) → (a b s : Bool) → (slot.controller == c) ≡ a → (slot.worker == w) ≡ b → (((a && b) && s) || list_any (holds_slot seat c w) slots) ≡ true → IsWithin shape (c, w)
    by more true true s is_c is_w e = within-of shape c w slot h.0 is_c is_w
    by more true false s is_c is_w e = more e
    by more false b s is_c is_w e = more e

-- So it is where a test finds that one is held.
pub awaited-within : (seen : Seen) (slots given : List Slot) (seat c w : ℕ) (held : Bool) → map numbers_of slots ≡ all_registers seen.shape → given ≡ slots → held ≡ list_any (holds_slot seat c w) given → held ≡ true → IsWithin seen.shape (c, w)
awaited-within seen slots given seat c w held whole is found e =
    held-within seen.shape seat c w slots (slots-within seen.shape slots whole) (ap (list_any (holds_slot seat c w)) (sym is) ∙ sym found ∙ e)

-- One that is open is in use.
pub open-busy : (seen : Seen) (slot : Slot) → is_open_slot seen slot ≡ true → is_some (register slot.worker (diary_seen seen slot.controller)) ≡ true
open-busy seen slot e = by slot.wants (is_none slot.holder) (is_some (register slot.worker (diary_seen seen slot.controller))) e
  where
    by : (a b c : Bool) → (a && b && c) ≡ true → c ≡ true
    by a b true e = refl
    by true true false e = e
    by true false false e = e
    by false true false e = e
    by false false false e = e

-- ---- all of them

below-more : (n : ℕ) → below (n + 1) ≡ below n ++ n ∷ []
below-more n = sym (map-id (below (n + 1))) ∙ map-range_with_len_more (λ x. x) 0 n n (omega arith) ∙ ap (λ xs. xs ++ n ∷ []) (map-id (below n))

-- One more worker of the controller.
pub worker-more : (old now : List Slot) (c w : ℕ) → now ≡ old ++ map fresh_slot (map (λ w. (c, w)) (below w)) → now ++ fresh_slot (c, w) ∷ [] ≡ old ++ map fresh_slot (map (λ w. (c, w)) (below (w + 1)))
worker-more old now c w h =
    ap (λ xs. xs ++ fresh_slot (c, w) ∷ []) h
    ∙ append_assoc old (map fresh_slot (map (λ w. (c, w)) (below w))) (fresh_slot (c, w) ∷ [])
    ∙ ap (λ xs. old ++ xs) (sym (ap (map fresh_slot) (map-range_with_len_more (λ w. (c, w)) 0 w w (omega arith)) ∙ map-append fresh_slot (map (λ w. (c, w)) (below w)) ((c, w) ∷ [])))

-- One more controller.
pub controller-more : (now : List Slot) (c workers : ℕ) → now ≡ map fresh_slot (flat_map (λ c. map (λ w. (c, w)) (below workers)) (below c))
    → now ++ map fresh_slot (map (λ w. (c, w)) (below workers)) ≡ map fresh_slot (flat_map (λ c. map (λ w. (c, w)) (below workers)) (below (c + 1)))
controller-more now c workers h =
    ap (λ xs. xs ++ map fresh_slot (of c)) h
    ∙ sym (map-append fresh_slot (flat_map of (below c)) (of c))
    ∙ ap (map fresh_slot) (flat_map_more of [] (below c) c ∙ ap (flat_map of) (sym (below-more c)))
  where
    of : ℕ → List (ℕ × ℕ)
    of c = map (λ w. (c, w)) (below workers)

-- Fresh registers have the numbers that they were made of.
pub fresh-numbers : (registers : List (ℕ × ℕ)) → map numbers_of (map fresh_slot registers) ≡ registers
fresh-numbers [] = refl
fresh-numbers (r ∷ rs) = ap (λ more. r ∷ more) (fresh-numbers rs)

-- What a cluster has in which nothing has happened.
pub new-kept : (script : Script) (shape : Shape) (seen : Seen) (slots : List Slot) → seen
    ≡ record { script = script; shape = shape; pasts = [] } → slots ≡ map fresh_slot (all_registers shape)
    → IsScriptFor script shape → shape.events ≤ 200000 → KeepsShared seen slots
new-kept script shape seen slots is fresh proper bound = subst (λ (s : Seen). KeepsShared s slots) (sym is) (record {
  registers = ap (map numbers_of) fresh ∙ fresh-numbers (all_registers shape);
  proper = proper;
  bound = bound;
})

-- ---- numbers

either : (b : Bool) (one slot : Slot) → numbers_of one ≡ numbers_of slot → numbers_of (cond b one slot) ≡ numbers_of slot
either true one slot e = e
either false one slot e = refl

same-numbers : (change : Change) (slot : Slot) → numbers_of (changed_slot change slot) ≡ numbers_of slot
same-numbers (change.Take seat c w) slot = either (is_slot_of c w slot) (record slot { holder = Some seat }) slot refl
same-numbers (change.PutBack seat c w) slot = either (holds_slot seat c w slot) (record slot { holder = None }) slot refl
same-numbers (change.Want wants c w) slot = either (is_slot_of c w slot) (record slot { wants = wants }) slot refl
same-numbers change.Free slot = refl
same-numbers (change.Restart c) slot = either (slot.controller == c) (fresh_slot (numbers_of slot)) slot refl

-- A change leaves the numbers of all registers as they are.
pub kept-numbers : (change : Change) (slots : List Slot) → map numbers_of (map (changed_slot change) slots) ≡ map numbers_of slots
kept-numbers change [] = refl
kept-numbers change (slot ∷ slots) = ap (λ n. n ∷ map numbers_of (map (changed_slot change) slots)) (same-numbers change slot) ∙ ap (λ ns. numbers_of slot ∷ ns) (kept-numbers change slots)
