-- Each call leaves a queue in which no key stands twice, and in whose line stand just the dirty keys that
-- are not processing.
use Rattle.std.proofs.Common.{◌≡◌, Bool, true, false, cond, not, ◌&&◌, ◌||◌, List, [], ◌∷◌, ◌++◌, Bor, IfSome, Option, None, Some, is_some, length, nat_lt, slice_index_or, refl, sym, ap, ◌∙◌, subst, true≢false}
use Rattle.std.specs.List.{IsDistinct}
use Rattle.std.specs.List.Sorted.{IsStrictlySortedBy}
use Rattle.std.proofs.Math.Bool.{and-false, or-false, or-true}
use Rattle.jc_types.specs.declared.objects.KeyNames.{KeyNames as Key}
use Rattle.jc_types.specs.Keys.{same_key}
use Rattle.jc_types.proofs.KeyFacts.{same_key-eq, same_key-either_way}
use Rattle.jc_queue.specs.Queued.{Queued, IsQueue, has_key, plus_key, without, added, got, got_first, finished}
use Rattle.jc_queue.proofs.KeyLists.{distinct-last, distinct-without, first_in, is_in-last, is_in-without, none_is}
use Rattle.jc_queue.proofs.KeySets.{ascends-once, ascends-plus, ascends-without, is_in-plus}

-- The empty queue.
pub empty_is : IsQueue (record { line = []; dirty = []; processing = [] })
unfolding IsDistinct IsStrictlySortedBy
empty_is = record { line_once = tt; dirty_ascends = tt; processing_once = tt; waiting = λ k. refl }

-- A dirty key that is not processing stands in line, and a key in line is not processing.
pub in_line : (q : Queued) → IsQueue q → (k : Key) → has_key k q.line ≡ true → has_key k q.processing ≡ false
in_line q s k h = by (has_key k q.dirty) (has_key k q.processing) (sym h ∙ s.waiting k)
  where
    by : (d p : Bool) → true ≡ (d && not p) → p ≡ false
    by true true e = absurd (true≢false e)
    by true false e = refl
    by false p e = absurd (true≢false e)

in_line-dirty : (q : Queued) → IsQueue q → (k : Key) → has_key k q.line ≡ true → has_key k q.dirty ≡ true
in_line-dirty q s k h = by (has_key k q.dirty) (has_key k q.processing) (sym h ∙ s.waiting k)
  where
    by : (d p : Bool) → true ≡ (d && not p) → d ≡ true
    by true p e = refl
    by false p e = absurd (true≢false e)

-- A key that was not dirty is added.
pub add_is : (q : Queued) (k : Key) → IsQueue q → has_key k q.dirty ≡ false → IsQueue (record { line = cond (has_key k q.processing) q.line (q.line ++ k ∷ []); dirty = plus_key k q.dirty; processing = q.processing })
add_is q k s clean = record { line_once = once (has_key k q.processing); dirty_ascends = ascends-plus k q.dirty s.dirty_ascends; processing_once = s.processing_once; waiting = λ j. waits j (has_key k q.processing) refl (same_key j k) refl }
  where
    out : has_key k q.line ≡ false
    out = s.waiting k ∙ ap (λ b. b && not (has_key k q.processing)) clean

    once : (p : Bool) → IsDistinct same_key (cond p q.line (q.line ++ k ∷ []))
    once true = s.line_once
    once false = distinct-last k q.line out s.line_once

    put : (j : Key) (m : Bool) → same_key j k ≡ m → has_key j (plus_key k q.dirty) ≡ (m || has_key j q.dirty)
    put j m e = is_in-plus j k q.dirty ∙ ap (λ b. b || has_key j q.dirty) e

    last : (j : Key) (m : Bool) → same_key j k ≡ m → has_key j (q.line ++ k ∷ []) ≡ (has_key j q.line || m)
    last j m e = is_in-last j k q.line ∙ ap (λ b. has_key j q.line || b) e

    waits : (j : Key) (p : Bool) → has_key k q.processing ≡ p → (m : Bool) → same_key j k ≡ m → has_key j (cond p q.line (q.line ++ k ∷ [])) ≡ (has_key j (plus_key k q.dirty) && not (has_key j q.processing))
    waits j true e true m =
        ap (λ z. has_key z q.line) (same_key-eq j k m) ∙ out
        ∙ sym (ap (λ b. has_key j (plus_key k q.dirty) && not b) (ap (λ z. has_key z q.processing) (same_key-eq j k m) ∙ e) ∙ and-false (has_key j (plus_key k q.dirty)))
    waits j true e false m = s.waiting j ∙ ap (λ b. b && not (has_key j q.processing)) (sym (put j false m))
    waits j false e true m =
        last j true m ∙ or-true (has_key j q.line)
        ∙ sym (ap (λ b. b && not (has_key j q.processing)) (put j true m) ∙ ap not (ap (λ z. has_key z q.processing) (same_key-eq j k m) ∙ e))
    waits j false e false m =
        last j false m ∙ or-false (has_key j q.line) ∙ s.waiting j ∙ ap (λ b. b && not (has_key j q.processing)) (sym (put j false m))

pub added_is : (q : Queued) (k : Key) → IsQueue q → IsQueue (added q k)
added_is q k s = by (has_key k q.dirty) refl
  where
    by : (b : Bool) → has_key k q.dirty ≡ b → IsQueue (cond b q (record { line = cond (has_key k q.processing) q.line (q.line ++ k ∷ []); dirty = plus_key k q.dirty; processing = q.processing }))
    by true e = s
    by false e = add_is q k s e

-- The first key of the line is got.
pub got_is : (k : Key) (rest dirty processing : List Key) → IsQueue (record { line = k ∷ rest; dirty = dirty; processing = processing }) → IsQueue (record { line = rest; dirty = without k dirty; processing = processing ++ k ∷ [] })
unfolding IsDistinct
got_is k rest dirty processing s = record { line_once = s.line_once.1; dirty_ascends = ascends-without k dirty s.dirty_ascends; processing_once = distinct-last k processing idle s.processing_once; waiting = λ j. waits j (same_key k j) refl }
  where
    idle : has_key k processing ≡ false
    idle = in_line (record { line = k ∷ rest; dirty = dirty; processing = processing }) s k (first_in k rest)

    waits : (j : Key) (m : Bool) → same_key k j ≡ m → has_key j rest ≡ (has_key j (without k dirty) && not (has_key j (processing ++ k ∷ [])))
    waits j true m =
        ap (λ z. has_key z rest) (sym (same_key-eq k j m)) ∙ none_is k rest s.line_once.0
        ∙ sym (ap (λ b. b && not (has_key j (processing ++ k ∷ []))) (is_in-without j k dirty (ascends-once dirty s.dirty_ascends) ∙ ap (λ b. not b && has_key j dirty) m))
    waits j false m =
        let other : same_key j k ≡ false = same_key-either_way j k ∙ m in
        ap (λ b. b || has_key j rest) (sym other) ∙ s.waiting j
        ∙ sym (ap (λ b. b && not (has_key j (processing ++ k ∷ []))) (is_in-without j k dirty (ascends-once dirty s.dirty_ascends) ∙ ap (λ b. not b && has_key j dirty) m)
        ∙ ap (λ b. has_key j dirty && not b) (is_in-last j k processing ∙ ap (λ b. has_key j processing || b) other ∙ or-false (has_key j processing)))

-- A key that is processing is done.
pub finished_is : (q : Queued) (k : Key) → IsQueue q → has_key k q.processing ≡ true → IsQueue (finished q k)
finished_is q k s busy = record { line_once = once (has_key k q.dirty); dirty_ascends = s.dirty_ascends; processing_once = distinct-without k q.processing s.processing_once; waiting = λ j. waits j (has_key k q.dirty) refl (same_key k j) refl }
  where
    out : has_key k q.line ≡ false
    out = s.waiting k ∙ ap (λ b. has_key k q.dirty && not b) busy ∙ and-false (has_key k q.dirty)

    once : (d : Bool) → IsDistinct same_key (cond d (q.line ++ k ∷ []) q.line)
    once true = distinct-last k q.line out s.line_once
    once false = s.line_once

    left : (j : Key) (m : Bool) → same_key k j ≡ m → has_key j (without k q.processing) ≡ (not m && has_key j q.processing)
    left j m e = is_in-without j k q.processing s.processing_once ∙ ap (λ b. not b && has_key j q.processing) e

    waits : (j : Key) (d : Bool) → has_key k q.dirty ≡ d → (m : Bool) → same_key k j ≡ m → has_key j (cond d (q.line ++ k ∷ []) q.line) ≡ (has_key j q.dirty && not (has_key j (without k q.processing)))
    waits j true e true m =
        is_in-last j k q.line ∙ ap (λ b. has_key j q.line || b) (same_key-either_way j k ∙ m) ∙ or-true (has_key j q.line)
        ∙ sym (ap (λ b. b && not (has_key j (without k q.processing))) (ap (λ z. has_key z q.dirty) (sym (same_key-eq k j m)) ∙ e) ∙ ap not (left j true m))
    waits j true e false m =
        is_in-last j k q.line ∙ ap (λ b. has_key j q.line || b) (same_key-either_way j k ∙ m) ∙ or-false (has_key j q.line) ∙ s.waiting j
        ∙ ap (λ b. has_key j q.dirty && not b) (sym (left j false m))
    waits j false e true m =
        ap (λ z. has_key z q.line) (sym (same_key-eq k j m)) ∙ out
        ∙ sym (ap (λ b. b && not (has_key j (without k q.processing))) (ap (λ z. has_key z q.dirty) (sym (same_key-eq k j m)) ∙ e))
    waits j false e false m = s.waiting j ∙ ap (λ b. has_key j q.dirty && not b) (sym (left j false m))

-- The first key of a line is dirty, and is not processing.
pub first_is_dirty : (q : Queued) → IsQueue q → (k : Key) (rest : List Key) → q.line ≡ k ∷ rest → has_key k q.dirty ≡ true
first_is_dirty q s k rest l = in_line-dirty q s k (ap (λ line. has_key k line) l ∙ first_in k rest)

pub first_is_idle : (q : Queued) → IsQueue q → (k : Key) (rest : List Key) → q.line ≡ k ∷ rest → has_key k q.processing ≡ false
first_is_idle q s k rest l = in_line q s k (ap (λ line. has_key k line) l ∙ first_in k rest)

-- Whether the line is empty or not.
pub got_first_is : (q : Queued) → IsQueue q → IsQueue (got q)
got_first_is q s = by q.line refl
  where
    by : (line : List Key) → q.line ≡ line → IsQueue (got_first line q)
    by [] l = s
    by (k ∷ rest) l = got_is k rest q.dirty q.processing (subst (λ line. IsQueue (record { line = line; dirty = q.dirty; processing = q.processing })) l s)

-- What is read at the front of the line is not processing.
pub front_is_idle : (q : Queued) → IsQueue q → (front : Option (Bor Key)) → is_some front ≡ nat_lt 0 (length q.line) → IfSome front (λ k. k.now ≡ slice_index_or q.line 0 k.now) → IfSome front (λ k. has_key k.now q.processing ≡ false)
front_is_idle q s None some at = tt
front_is_idle q s (Some k) some at = by q.line refl some at
  where
    by : (line : List Key) → q.line ≡ line → true ≡ nat_lt 0 (length line) → k.now ≡ slice_index_or line 0 k.now → has_key k.now q.processing ≡ false
    by [] l some at = absurd (true≢false some)
    by (first ∷ rest) l some at = ap (λ j. has_key j q.processing) at ∙ first_is_idle q s first rest l
