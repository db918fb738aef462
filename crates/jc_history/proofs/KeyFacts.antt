-- Facts on lists of keys in which each stands once.
use Rattle.std.proofs.Common.{◌≡◌, Bool, true, false, cond, not, ◌&&◌, ◌||◌, List, [], ◌∷◌, ◌++◌, filter, refl, sym, ap, ◌∙◌, true≢false}
use Rattle.std.specs.List.{AllByRecursion as Each, IsDistinct}
use Rattle.std.proofs.Math.Bool.{and_comm}
use Rattle.std.proofs.lemmas.List.Elements.{filter_agree}
use Rattle.std.proofs.lemmas.List.Folds.{list_any-append}
use Rattle.jc_types.specs.declared.objects.KeyNames.{KeyNames as Key}
use Rattle.jc_types.specs.Keys.{same_key}
use Rattle.jc_types.proofs.KeyFacts.{same_key-eq, same_key-itself, same_key-either_way}
use Rattle.jc_types.proofs.ListFacts.{Each-filter, Each-passes, Each-weaker, filter_filter, filter_swap}
use Rattle.jc_queue.specs.Queued.{has_key}
use Rattle.jc_queue.proofs.KeyLists.{none_is}
use Rattle.jc_history.specs.KeyLists.{once, last_of}
use Rattle.std.proofs.lemmas.Bool.{not-true as not-true_is}

pub filter-all : (keys : List Key) → filter (λ k. true) keys ≡ keys
filter-all [] = refl
filter-all (k ∷ keys) = ap (λ rest. k ∷ rest) (filter-all keys)

-- ---- membership

pub is_in-filter : (p : Key → Bool) (k : Key) (keys : List Key) → has_key k (filter p keys) ≡ (p k && has_key k keys)
is_in-filter p k [] = sym (and_comm (p k) false)
is_in-filter p k (x ∷ keys) = by (p x) refl (same_key k x) refl (is_in-filter p k keys)
  where
    absorbs : (c r : Bool) → c ≡ true → true ≡ (c && (true || r))
    absorbs true r h = refl
    absorbs false r h = sym h

    by : (b : Bool) → p x ≡ b → (m : Bool) → same_key k x ≡ m → has_key k (filter p keys) ≡ (p k && has_key k keys) → has_key k (cond b (x ∷ filter p keys) (filter p keys)) ≡ (p k && (m || has_key k keys))
    by true t true s ih = ap (λ m. m || has_key k (filter p keys)) s ∙ absorbs (p k) (has_key k keys) (ap p (same_key-eq k x s) ∙ t)
    by true t false s ih = ap (λ m. m || has_key k (filter p keys)) s ∙ ih
    by false t true s ih =
        ih ∙ ap (λ c. c && has_key k keys) (ap p (same_key-eq k x s) ∙ t) ∙ sym (ap (λ c. c && true) (ap p (same_key-eq k x s) ∙ t))
    by false t false s ih = ih

pub is_in-once : (k : Key) (keys : List Key) → has_key k (once keys) ≡ has_key k keys
is_in-once k [] = refl
is_in-once k (x ∷ keys) = by (same_key k x) refl (is_in-once k keys)
  where
    by : (m : Bool) → same_key k x ≡ m → has_key k (once keys) ≡ has_key k keys → (m || has_key k (filter (λ j. not (same_key x j)) (once keys))) ≡ (m || has_key k keys)
    by true s ih = refl
    by false s ih =
        is_in-filter (λ j. not (same_key x j)) k (once keys)
        ∙ ap (λ m. not m && has_key k (once keys)) (same_key-either_way x k ∙ s) ∙ ih

-- Each key is one of the keys.
pub each_in : (keys : List Key) → Each (λ k. has_key k keys ≡ true) keys
each_in keys = go keys (λ k h. h)
  where
    go : (some : List Key) → ((k : Key) → has_key k some ≡ true → has_key k keys ≡ true) → Each (λ k. has_key k keys ≡ true) some
    go [] h = tt
    go (x ∷ some) h = (h x (ap (λ b. b || has_key x some) (same_key-itself x)), go some (λ k i. h k (ap (λ b. same_key k x || b) i ∙ or-true (same_key k x))))
      where
        or-true : (b : Bool) → (b || true) ≡ true
        or-true true = refl
        or-true false = refl

-- ---- each once

pub once-filter : (p : Key → Bool) (keys : List Key) → once (filter p keys) ≡ filter p (once keys)
once-filter p [] = refl
once-filter p (x ∷ keys) = by (p x) refl (once-filter p keys)
  where
    drops : (k : Key) → p x ≡ false → (m : Bool) → same_key x k ≡ m → p k ≡ (not m && p k)
    drops k t true s = ap p (sym (same_key-eq x k s)) ∙ t
    drops k t false s = refl

    by : (b : Bool) → p x ≡ b → once (filter p keys) ≡ filter p (once keys)
        → once (cond b (x ∷ filter p keys) (filter p keys))
        ≡ cond b (x ∷ filter p (filter (λ j. not (same_key x j)) (once keys)))
        (filter p (filter (λ j. not (same_key x j)) (once keys)))
    by true t ih = ap (λ rest. x ∷ filter (λ j. not (same_key x j)) rest) ih ∙ ap (λ rest. x ∷ rest) (filter_swap (λ j. not (same_key x j)) p (once keys))
    by false t ih = ih ∙ filter_agree _ _ (λ k. drops k t (same_key x k) refl) (once keys) ∙ sym (filter_filter p (λ j. not (same_key x j)) (once keys))

pub distinct-filter : (p : Key → Bool) (keys : List Key) → IsDistinct same_key keys → IsDistinct same_key (filter p keys)
unfolding IsDistinct
distinct-filter p [] d = tt
distinct-filter p (x ∷ keys) d = by (p x) (distinct-filter p keys d.1)
  where
    by : (b : Bool) → IsDistinct same_key (filter p keys) → IsDistinct same_key (cond b (x ∷ filter p keys) (filter p keys))
    by true rest = (Each-filter (λ y. same_key x y ≡ false) p keys d.0, rest)
    by false rest = rest

pub distinct-once : (keys : List Key) → IsDistinct same_key (once keys)
unfolding IsDistinct
distinct-once [] = tt
distinct-once (x ∷ keys) = (
  Each-weaker (λ y. not (same_key x y) ≡ true) (λ y. same_key x y ≡ false) (λ y h. not-true_is (same_key x y) h) _ (Each-passes (λ j. not (same_key x j)) (once keys)),
  distinct-filter (λ j. not (same_key x j)) (once keys) (distinct-once keys),
)

-- ---- each at its last place

pub last_of-distinct : (keys : List Key) → IsDistinct same_key keys → last_of keys ≡ keys
unfolding IsDistinct
last_of-distinct [] d = refl
last_of-distinct (x ∷ keys) d =
    ap (λ b. cond b (last_of keys) (x ∷ last_of keys)) (none_is x keys d.0) ∙ ap (λ rest. x ∷ rest) (last_of-distinct keys d.1)

pub last_of-append : (keys more : List Key) → last_of (keys ++ more) ≡ filter (λ k. not (has_key k more)) (last_of keys) ++ last_of more
last_of-append [] more = refl
last_of-append (x ∷ keys) more =
    ap (λ b. cond b (last_of (keys ++ more)) (x ∷ last_of (keys ++ more))) (list_any-append (same_key x) keys more)
    ∙ by (has_key x keys) (has_key x more) refl (last_of-append keys more)
  where
    by : (a b : Bool) → has_key x more ≡ b → last_of (keys ++ more) ≡ filter (λ k. not (has_key k more)) (last_of keys) ++ last_of more
        → cond (a || b) (last_of (keys ++ more)) (x ∷ last_of (keys ++ more)) ≡ filter (λ k. not (has_key k more)) (cond a (last_of keys) (x ∷ last_of keys)) ++ last_of more
    by true b e ih = ih
    by false true e ih =
        ih ∙ ap (λ c. cond (not c) (x ∷ filter (λ k. not (has_key k more)) (last_of keys)) (filter (λ k. not (has_key k more)) (last_of keys)) ++ last_of more) (sym e)
    by false false e ih =
        ap (λ rest. x ∷ rest) ih ∙ ap (λ c. cond (not c) (x ∷ filter (λ k. not (has_key k more)) (last_of keys)) (filter (λ k. not (has_key k more)) (last_of keys)) ++ last_of more) (sym e)
