-- Keys that go back to the line's end, that are taken back, and that are copied.
use Rattle.std.proofs.Common.{◌≡◌, ℕ, ◌<◌, zero, suc, Bool, true, false, cond, not, ◌&&◌, ◌||◌, List, [], ◌∷◌, ◌++◌, None, get_or, length, take, refl, sym, ap, ◌∙◌, subst, arith, true≢false}
use Rattle.std.specs.List.{AllByRecursion as Each, IsDistinct, position}
use Rattle.jc_types.specs.declared.objects.KeyNames.{KeyNames as Key}
use Rattle.jc_types.specs.Keys.{same_key}
use Rattle.jc_types.proofs.KeyFacts.{same_key-either_way, same_key-itself}
use Rattle.jc_queue.proofs.KeyLists.{distinct-last, distinct-without, is_in-last, is_in-without, none_is}
use Rattle.jc_queue.proofs.KeySets.{ascends-once, ascends-without, without-plus}
use Rattle.jc_queue.proofs.Steps.{no_place}
use Rattle.jc_queue.specs.Queued.{Queued, IsQueue, added, has_key, plus_key, retracted, sent_back, sent_back_first, without}

-- ---- the first key goes last

pub swapped : (a b : Bool) → (a || b) ≡ (b || a)
swapped true true = refl
swapped true false = refl
swapped false true = refl
swapped false false = refl

pub back_is : (k : Key) (rest dirty processing : List Key) → IsQueue (record { line = k ∷ rest; dirty = dirty; processing = processing }) → IsQueue (record { line = rest ++ k ∷ []; dirty = dirty; processing = processing })
unfolding IsDistinct
back_is k rest dirty processing s = record {
  line_once = distinct-last k rest (none_is k rest s.line_once.0) s.line_once.1;
  dirty_ascends = s.dirty_ascends;
  processing_once = s.processing_once;
  waiting = λ j. is_in-last j k rest ∙ swapped (has_key j rest) (same_key j k) ∙ s.waiting j;
}

-- With the first key at the line's end it is a queue as before.
pub sent_back_is : (q : Queued) → IsQueue q → IsQueue (sent_back q)
sent_back_is q s = by q.line refl
  where
    by : (line : List Key) → q.line ≡ line → IsQueue (sent_back_first line q)
    by [] l = s
    by (k ∷ rest) l = back_is k rest q.dirty q.processing (subst (λ line. IsQueue (record { line = line; dirty = q.dirty; processing = q.processing })) l s)

-- A queue with this line is what `sent_back` says.
pub back-parts : (q : Queued) (k : Key) (rest line : List Key) → q.line ≡ k ∷ rest → line ≡ rest ++ k ∷ [] → record { line = line; dirty = q.dirty; processing = q.processing } ≡ sent_back q
back-parts q k rest line l e =
    ap (λ line. record { line = line; dirty = q.dirty; processing = q.processing }) e ∙ ap (λ line. sent_back_first line q) (sym l)

-- ---- a key is taken back

and-both : (a b c d : Bool) → b ≡ (c && d) → (a && b) ≡ ((a && c) && d)
and-both true b c d e = e
and-both false b c d e = refl

-- Without one of its keys it is a queue.
pub retracted_is : (q : Queued) (k : Key) → IsQueue q → IsQueue (retracted q k)
retracted_is q k s = record {
  line_once = distinct-without k q.line s.line_once;
  dirty_ascends = ascends-without k q.dirty s.dirty_ascends;
  processing_once = s.processing_once;
  waiting = λ j. is_in-without j k q.line s.line_once
      ∙ and-both (not (same_key k j)) (has_key j q.line) (has_key j q.dirty) (not (has_key j q.processing)) (s.waiting j)
      ∙ ap (λ b. b && not (has_key j q.processing)) (sym (is_in-without j k q.dirty (ascends-once q.dirty s.dirty_ascends)));
}

-- Without what went last, the keys are as before.
without-last : (k : Key) (keys : List Key) → has_key k keys ≡ false → without k (keys ++ k ∷ []) ≡ keys
without-last k [] h = ap (λ b. cond b [] (k ∷ [])) (same_key-itself k)
without-last k (x ∷ xs) h = by (same_key k x) refl h (without-last k xs)
  where
    by : (b : Bool) → same_key k x ≡ b → (b || has_key k xs) ≡ false → (has_key k xs ≡ false → without k (xs ++ k ∷ []) ≡ xs) → cond (same_key k x) (xs ++ k ∷ []) (x ∷ without k (xs ++ k ∷ [])) ≡ x ∷ xs
    by true t h rest = absurd (true≢false h)
    by false t h rest = ap (λ b. cond b (xs ++ k ∷ []) (x ∷ without k (xs ++ k ∷ []))) t ∙ ap (λ ys. x ∷ ys) (rest h)

without-none : (k : Key) (keys : List Key) → has_key k keys ≡ false → without k keys ≡ keys
without-none k [] h = refl
without-none k (x ∷ xs) h = by (same_key k x) refl h (without-none k xs)
  where
    by : (b : Bool) → same_key k x ≡ b → (b || has_key k xs) ≡ false → (has_key k xs ≡ false → without k xs ≡ xs) → cond (same_key k x) xs (x ∷ without k xs) ≡ x ∷ xs
    by true t h rest = absurd (true≢false h)
    by false t h rest = ap (λ b. cond b xs (x ∷ without k xs)) t ∙ ap (λ ys. x ∷ ys) (rest h)

-- A key that has no place is not taken out.
pub without-unplaced : (k : Key) (keys : List Key) → None ≡ position (same_key k) keys → keys ≡ without k keys
without-unplaced k keys e = sym (without-none k keys (by (has_key k keys) refl))
  where
    by : (b : Bool) → has_key k keys ≡ b → b ≡ false
    by true t = absurd (no_place (same_key k) keys t e)
    by false t = refl

-- A key that was not dirty, and is added and taken back, leaves the queue as it was.
pub retracted-added : (q : Queued) (k : Key) → IsQueue q → has_key k q.dirty ≡ false → retracted (added q k) k ≡ q
retracted-added q k s clean =
    ap (λ b. retracted (cond b q (record { line = cond (has_key k q.processing) q.line (q.line ++ k ∷ []); dirty = plus_key k q.dirty; processing = q.processing })) k) clean
    ∙ (λ i. record { line = line (has_key k q.processing) i; dirty = without-plus k q.dirty s.dirty_ascends clean i; processing = q.processing })
  where
    out : has_key k q.line ≡ false
    out = s.waiting k ∙ ap (λ b. b && not (has_key k q.processing)) clean

    line : (b : Bool) → without k (cond b q.line (q.line ++ k ∷ [])) ≡ q.line
    line true = without-none k q.line out
    line false = without-last k q.line out

-- ---- copies

each-at : (P : Key → Type 0) (keys : List Key) (i : ℕ) (k : Key) → Each P keys → i < length keys → k ≡ get_or keys i k → P k
each-at P [] i k h within at = absurd (omega (arith, within))
each-at P (x ∷ xs) zero k h within at = subst P (sym at) h.0
each-at P (x ∷ xs) (suc i) k h within at = each-at P xs i k h.1 (omega (arith, within)) at

-- The key at a place is none of those before it.
pub before_is : (keys : List Key) (i : ℕ) (k : Key) → IsDistinct same_key keys → i < length keys → k ≡ get_or keys i k → has_key k (take i keys) ≡ false
unfolding IsDistinct
before_is [] i k d within at = absurd (omega (arith, within))
before_is (x ∷ xs) zero k d within at = refl
before_is (x ∷ xs) (suc i) k d within at =
    ap (λ b. b || has_key k (take i xs)) (same_key-either_way k x ∙ each-at (λ y. same_key x y ≡ false) xs i k d.0 (omega (arith, within)) at)
    ∙ before_is xs i k d.1 (omega (arith, within)) at

-- The key that is copied next.
pub key-copied : (keys before after : List Key) (i next : ℕ) (k again : Key) → IsDistinct same_key keys → i < length keys → k ≡ get_or keys i k → take next keys ≡ take i keys ++ k ∷ [] → again ≡ k →
    before ≡ take i keys → after ≡ cond (has_key again before) before (before ++ again ∷ []) → after ≡ take next keys
key-copied keys before after i next k again d within at more a b e =
    e ∙ (λ j. cond (has_key (a j) (b j)) (b j) (b j ++ a j ∷ []))
    ∙ ap (λ c. cond c (take i keys) (take i keys ++ k ∷ [])) (before_is keys i k d within at)
    ∙ sym more
