-- Keys that are added one after the other: those come into line that are fresh, each once.
use Rattle.std.proofs.Common.{◌≡◌, Bool, true, false, cond, not, ◌&&◌, ◌||◌, List, [], ◌∷◌, ◌++◌, filter, refl, sym, ap, ◌∙◌, true≢false, append_assoc}
use Rattle.std.proofs.lemmas.List.{append-nil}
use Rattle.std.proofs.lemmas.List.Elements.{filter_agree}
use Rattle.jc_types.specs.declared.objects.KeyNames.{KeyNames as Key}
use Rattle.jc_types.specs.Keys.{same_key}
use Rattle.jc_types.proofs.KeyFacts.{same_key-eq, same_key-either_way}
use Rattle.jc_types.proofs.ListFacts.{filter_filter}
use Rattle.jc_control.specs.ControllerCalls.{all_added}
use Rattle.jc_queue.proofs.KeySets.{is_in-plus}
use Rattle.jc_queue.specs.Queued.{Queued, added, has_key, plus_key}
use Rattle.jc_history.specs.KeyLists.{once}
use Rattle.jc_history.proofs.KeyFacts.{once-filter}

-- The key is neither processing nor dirty.
abbrev pub is_fresh : Queued → Key → Bool
is_fresh q k = not (has_key k q.processing) && not (has_key k q.dirty)

-- A queue with this line and the key dirty.
abbrev with_key : Queued → List Key → Key → Queued
with_key q line k = record { line = line; dirty = plus_key k q.dirty; processing = q.processing }

-- ---- what is dirty

or-swap : (a b c : Bool) → (a || (b || c)) ≡ ((b || a) || c)
or-swap true true c = refl
or-swap true false c = refl
or-swap false true c = refl
or-swap false false c = refl

pub added-dirty : (j : Key) (q : Queued) (k : Key) → has_key j (added q k).dirty ≡ (same_key j k || has_key j q.dirty)
added-dirty j q k = by (has_key k q.dirty) refl
  where
    there : (m : Bool) → same_key j k ≡ m → has_key k q.dirty ≡ true → has_key j q.dirty ≡ (m || has_key j q.dirty)
    there true s h = ap (λ z. has_key z q.dirty) (same_key-eq j k s) ∙ h
    there false s h = refl

    by : (b : Bool) → has_key k q.dirty ≡ b → has_key j (cond {A = Queued} b q (with_key q (cond (has_key k q.processing) q.line (q.line ++ k ∷ [])) k)).dirty ≡ (same_key j k || has_key j q.dirty)
    by true h = there (same_key j k) refl h
    by false h = is_in-plus j k q.dirty

pub all_added-dirty : (j : Key) (q : Queued) (keys : List Key) → has_key j (all_added q keys).dirty ≡ (has_key j keys || has_key j q.dirty)
all_added-dirty j q [] = refl
all_added-dirty j q (k ∷ keys) =
    all_added-dirty j (added q k) keys ∙ ap (λ b. has_key j keys || b) (added-dirty j q k) ∙ or-swap (has_key j keys) (same_key j k) (has_key j q.dirty)

-- ---- the line

-- A fresh key that goes last is fresh no more; of a key that is processing nothing changes.
fresh-without : (p d m : Bool) → (not p && not (m || d)) ≡ ((not p && not d) && not m)
fresh-without true d m = refl
fresh-without false true true = refl
fresh-without false true false = refl
fresh-without false false true = refl
fresh-without false false false = refl

fresh-last : (q : Queued) (line : List Key) (k j : Key) → is_fresh (with_key q line k) j ≡ (is_fresh q j && not (same_key k j))
fresh-last q line k j =
    ap (λ b. not (has_key j q.processing) && not b) (is_in-plus j k q.dirty ∙ ap (λ m. m || has_key j q.dirty) (same_key-either_way j k))
    ∙ fresh-without (has_key j q.processing) (has_key j q.dirty) (same_key k j)

fresh-busy : (q : Queued) (line : List Key) (k j : Key) → has_key k q.processing ≡ true → is_fresh (with_key q line k) j ≡ is_fresh q j
fresh-busy q line k j busy = fresh-last q line k j ∙ by (same_key k j) refl
  where
    out : (p d : Bool) → p ≡ true → ((not p && not d) && false) ≡ (not p && not d)
    out true d h = refl
    out false d h = absurd (true≢false (sym h))

    kept : (b : Bool) → (b && true) ≡ b
    kept true = refl
    kept false = refl

    by : (m : Bool) → same_key k j ≡ m → (is_fresh q j && not m) ≡ is_fresh q j
    by true s = out (has_key j q.processing) (has_key j q.dirty) (ap (λ z. has_key z q.processing) (sym (same_key-eq k j s)) ∙ busy)
    by false s = kept (is_fresh q j)

-- The keys that are fresh come last, each once.
pub all_added-line : (q : Queued) (keys : List Key) → (all_added q keys).line ≡ q.line ++ once (filter (is_fresh q) keys)
all_added-line q [] = sym (append-nil q.line)
all_added-line q (k ∷ keys) = by (has_key k q.dirty) (has_key k q.processing) refl refl (λ some. all_added-line some keys)
  where
    by : (d p : Bool) → has_key k q.dirty ≡ d → has_key k q.processing ≡ p → ((some : Queued) → (all_added some keys).line ≡ some.line ++ once (filter (is_fresh some) keys))
        → (all_added (cond d q (with_key q (cond p q.line (q.line ++ k ∷ [])) k)) keys).line ≡ q.line ++ once (cond (not p && not d) (k ∷ filter (is_fresh q) keys) (filter (is_fresh q) keys))
    by true true a b ih = ih q
    by true false a b ih = ih q
    by false true a b ih =
        ih (with_key q q.line k) ∙ ap (λ some. q.line ++ once some) (filter_agree _ _ (λ j. fresh-busy q q.line k j b) keys)
    by false false a b ih =
        ih (with_key q (q.line ++ k ∷ []) k)
        ∙ append_assoc q.line (k ∷ []) (once (filter (is_fresh (with_key q (q.line ++ k ∷ []) k)) keys))
        ∙ ap (λ rest. q.line ++ k ∷ rest)
        (ap once (filter_agree _ _ (λ j. fresh-last q (q.line ++ k ∷ []) k j) keys ∙ sym (filter_filter (λ j. not (same_key k j)) (is_fresh q) keys))
        ∙ once-filter (λ j. not (same_key k j)) (filter (is_fresh q) keys))
