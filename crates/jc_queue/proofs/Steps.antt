-- What the code writes into its lists is what the words on a queue say.
use Rattle.std.proofs.Common.{◌≡◌, ℕ, suc, Bool, true, false, cond, not, ◌||◌, ◌+◌, ◌<◌, length, List, [], ◌∷◌, ◌++◌, Some, None, is_some, refl, sym, ap, ◌∙◌, true≢false, arith, nat_lt, get_or}
use Rattle.std.proofs.lemmas.Bool.Decides.{nat_tests}
use Rattle.std.proofs.lemmas.List.Quantifiers.{position-Some}
use Rattle.std.specs.List.{find, list_any, position, position_or_len, remove}
use Rattle.std.specs.Option.{unwrap_or}
use Rattle.std.specs.Set.{remove_key}
use Rattle.jc_types.specs.declared.objects.KeyNames.{KeyNames as Key}
use Rattle.jc_types.specs.Keys.{same_key}
use Rattle.jc_types.proofs.KeyFacts.{same_key-eq}
use Rattle.jc_queue.specs.Queued.{Queued, has_key, plus_key, without, added, finished, got, got_first}

-- The removal at the first place at which the test passes is the removal of the first key that passes.
remove-first : {X : Type 0} (test : X → Bool) (xs : List X) → remove xs (position_or_len test xs) ≡ remove_key test xs
remove-first test [] = refl
remove-first test (x ∷ xs) = by (test x) refl (remove-first test xs)
  where
    by : (b : Bool) → test x ≡ b → remove xs (position_or_len test xs) ≡ remove_key test xs → remove (x ∷ xs) (position_or_len test (x ∷ xs)) ≡ cond b xs (x ∷ remove_key test xs)
    by true t rest = ap (λ b. remove (x ∷ xs) (cond (not b) (1 + position_or_len test xs) 0)) t
    by false t rest =
        let next : 1 + position_or_len test xs ≡ suc (position_or_len test xs) = omega arith in
        ap (λ b. remove (x ∷ xs) (cond (not b) (1 + position_or_len test xs) 0)) t ∙ ap (λ n. remove (x ∷ xs) n) next ∙ ap (λ ys. x ∷ ys) rest

-- The place that was found.
pub remove-found : {X : Type 0} (test : X → Bool) (xs : List X) (i : ℕ) → Some i ≡ position test xs → remove xs i ≡ remove_key test xs
remove-found test xs i h = by (nat_lt (position_or_len test xs) (length xs)) h
  where
    by : (b : Bool) → Some i ≡ cond b (Some (position_or_len test xs)) None → remove xs i ≡ remove_key test xs
    by true e = ap (λ o. remove xs (unwrap_or o i)) e ∙ remove-first test xs
    by false e = absurd (true≢false (ap is_some e))

-- Where the test passes somewhere, a place is found.
place_within : {X : Type 0} (test : X → Bool) (xs : List X) → list_any test xs ≡ true → position_or_len test xs < length xs
place_within test [] h = absurd (true≢false (sym h))
place_within test (x ∷ xs) h = by (test x) refl h (place_within test xs)
  where
    by : (b : Bool) → test x ≡ b → (b || list_any test xs) ≡ true → (list_any test xs ≡ true → position_or_len test xs < length xs) → position_or_len test (x ∷ xs) < suc (length xs)
    by true t e rest = let p : position_or_len test (x ∷ xs) ≡ 0 = ap (λ b. cond (not b) (1 + position_or_len test xs) 0) t in omega (arith, p)
    by false t e rest =
        let p : position_or_len test (x ∷ xs) ≡ 1 + position_or_len test xs = ap (λ b. cond (not b) (1 + position_or_len test xs) 0) t in
        let within = rest e in
        omega (arith, p, within)

pub no_place : {X : Type 0} (test : X → Bool) (xs : List X) → list_any test xs ≡ true → None ≡ position test xs → ⊥
no_place test xs h e =
    let within = place_within test xs h in
    let passes : nat_lt (position_or_len test xs) (length xs) ≡ true = grind (arith, nat_tests, within) in
    true≢false (ap is_some (sym (e ∙ ap (λ b. cond b (Some (position_or_len test xs)) None) passes)))

-- The key at the first place of a key is that key.
pub found-key : (k d : Key) (keys : List Key) (i : ℕ) → Some i ≡ position (same_key k) keys → d ≡ get_or keys i d → d ≡ k
found-key k d keys i at is = is ∙ sym (same_key-eq k (get_or keys i d) (position-Some (same_key k) keys i d (sym at)).1)

-- A queue with these lists is what `added` says.
pub added-parts : (q : Queued) (k : Key) (line dirty processing : List Key) → has_key k q.dirty ≡ false → line ≡ cond (has_key k q.processing) q.line (q.line ++ k ∷ []) → dirty ≡ plus_key k q.dirty →
    processing ≡ q.processing → record { line = line; dirty = dirty; processing = processing } ≡ added q k
added-parts q k line dirty processing clean l d p =
    (λ i. record { line = l i; dirty = d i; processing = p i })
    ∙ sym (ap (λ b. cond b q (record { line = cond (has_key k q.processing) q.line (q.line ++ k ∷ []); dirty = plus_key k q.dirty; processing = q.processing })) clean)

-- The line of a key that is processing, and that of another.
pub stays_out : (k : Key) (line processing : List Key) → has_key k processing ≡ true → line ≡ cond (has_key k processing) line (line ++ k ∷ [])
stays_out k line processing busy = sym (ap (λ b. cond b line (line ++ k ∷ [])) busy)

pub comes_in : (k copied : Key) (line processing after before : List Key) → has_key k processing ≡ false → copied ≡ k → after ≡ before ++ copied ∷ [] → before ≡ line → after ≡ cond (has_key k processing) line (line ++ k ∷ [])
comes_in k copied line processing after before idle same e f =
    e ∙ (λ i. f i ++ same i ∷ []) ∙ sym (ap (λ b. cond b line (line ++ k ∷ [])) idle)

-- A queue with these lists is what `finished` says.
pub finished-parts : (q : Queued) (k : Key) (line processing : List Key) → line ≡ cond (has_key k q.dirty) (q.line ++ k ∷ []) q.line → processing ≡ without k q.processing →
    record { line = line; dirty = q.dirty; processing = processing } ≡ finished q k
finished-parts q k line processing l p = λ i. record { line = l i; dirty = q.dirty; processing = p i }

-- The dirty key that was found is the key that was looked up.
pub found_is : (k held : Key) (keys : List Key) → Some held ≡ find (same_key k) keys → held ≡ k
found_is k held [] h = absurd (true≢false (ap is_some h))
found_is k held (x ∷ xs) h = by (same_key k x) refl h (found_is k held xs)
  where
    by : (b : Bool) → same_key k x ≡ b → Some held ≡ cond b (Some x) (find (same_key k) xs) → (Some held ≡ find (same_key k) xs → held ≡ k) → held ≡ k
    by true t e rest = ap (λ o. unwrap_or o held) e ∙ sym (same_key-eq k x t)
    by false t e rest = rest e

-- A key that is among the keys is found.
pub not_missing : (k : Key) (keys : List Key) → has_key k keys ≡ true → None ≡ find (same_key k) keys → ⊥
not_missing k [] h e = true≢false (sym h)
not_missing k (x ∷ xs) h e = by (same_key k x) h e (not_missing k xs)
  where
    by : (b : Bool) → (b || has_key k xs) ≡ true → None ≡ cond b (Some x) (find (same_key k) xs) → (has_key k xs ≡ true → None ≡ find (same_key k) xs → ⊥) → ⊥
    by true h e rest = true≢false (ap is_some (sym e))
    by false h e rest = rest h e

-- A queue with these lists is what `got` says.
pub got-parts : (q : Queued) (k held : Key) (rest dirty processing : List Key) → q.line ≡ k ∷ rest → held ≡ k → dirty ≡ without k q.dirty → processing ≡ q.processing ++ held ∷ [] →
    record { line = rest; dirty = dirty; processing = processing } ≡ got q
got-parts q k held rest dirty processing l same d p =
    (λ i. record { line = rest; dirty = d i; processing = (p ∙ ap (λ j. q.processing ++ j ∷ []) same) i })
    ∙ ap (λ line. got_first line q) (sym l)
