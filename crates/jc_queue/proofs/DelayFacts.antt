-- The row that is due first is found from the last row on, and taken out by its place; its moment is the least.
use Rattle.std.proofs.Common.{◌≡◌, ℕ, zero, suc, ◌<◌, ◌≤◌, ◌||◌, ◌&&◌, ◌==◌, min, nat_lt, nat_le, eqb-true, arith, Bool, true, false, cond, List, [], ◌∷◌, Option, None, Some, is_some, drop, take, refl, sym, ap, ◌∙◌, subst, true≢false}
use Rattle.std.proofs.lemmas.Bool.Decides.{nat_tests}
use Rattle.std.specs.List.{AllByRecursion as Each, IsDistinct, remove, slice_get}
use Rattle.std.specs.Map.{keys_of}
use Rattle.indexmap.specs.IndexMap.{insert_entry}
use Rattle.std.specs.Option.{option_and_then, option_map, unwrap_or}
use Rattle.jc_types.specs.declared.objects.KeyNames.{KeyNames as Key}
use Rattle.jc_types.specs.Keys.{same_key}
use Rattle.std.specs.Ordering.{is_lt}
use Rattle.jc_log.specs.Tables.{at, puts, takes}
use Rattle.jc_types.proofs.KeyFacts.{same_key-either_way, same_key-itself}
use Rattle.jc_queue.specs.Delayed.{AreCopied, earlier, first_of, is_before, key_by, key_order, least_moment, sooner, with_moment}
use Rattle.jc_queue.specs.Queued.{has_key}

-- The row at a place, or what is due first of the rows after it.
pub first_from : (rows : List (Key × ℕ)) (after place chosen : ℕ) (other : Option ℕ) → after ≡ suc place → option_and_then (slice_get rows) other ≡ first_of (drop after rows) → slice_get rows chosen
    ≡ option_map (λ row. sooner row (option_and_then (slice_get rows) other)) (slice_get rows place) → slice_get rows chosen ≡ first_of (drop place rows)
first_from rows after place chosen other next rest e =
    e ∙ ap (λ o. option_map (λ row. sooner row o) (slice_get rows place)) (rest ∙ ap (λ n. first_of (drop n rows)) next) ∙ at rows place
  where
    at : (rows : List (Key × ℕ)) (place : ℕ) → option_map (λ row. sooner row (first_of (drop (suc place) rows))) (slice_get rows place) ≡ first_of (drop place rows)
    at [] zero = refl
    at [] (suc place) = refl
    at (row ∷ rows) zero = refl
    at (row ∷ rows) (suc place) = at rows place

-- What holds of each key holds of the key at a place.
key_at : {X : Type 0} (P : Key → Type 0) (rows : List (Key × X)) (place : ℕ) (row : Key × X) → Each P (keys_of rows) → Some row ≡ slice_get rows place → P row.0
key_at P [] zero row h e = absurd (true≢false (ap is_some e))
key_at P [] (suc place) row h e = absurd (true≢false (ap is_some e))
key_at {X = X} P (first ∷ rows) zero row h e = subst (λ (row : Key × X). P row.0) (sym (ap (λ o. unwrap_or o row) e)) h.0
key_at P (first ∷ rows) (suc place) row h e = key_at P rows place row h.1 e

-- The removal at a place is the removal of the row of its key.
pub remove-row : (rows : List (Key × ℕ)) (place : ℕ) (row : Key × ℕ) → IsDistinct same_key (keys_of rows) → Some row ≡ slice_get rows place → remove rows place ≡ takes same_key rows row.0
unfolding IsDistinct
remove-row [] zero row d e = absurd (true≢false (ap is_some e))
remove-row [] (suc place) row d e = absurd (true≢false (ap is_some e))
remove-row (first ∷ rows) zero row d e =
    let same : same_key row.0 first.0 ≡ true = ap (λ (r : Key × ℕ). same_key r.0 first.0) (ap (λ o. unwrap_or o row) e) ∙ same_key-itself first.0 in
    sym (ap (λ b. cond b rows (first ∷ takes same_key rows row.0)) same)
remove-row (first ∷ rows) (suc place) row d e =
    let other : same_key row.0 first.0 ≡ false = same_key-either_way row.0 first.0 ∙ key_at (λ k. same_key first.0 k ≡ false) rows place row d.0 e in
    ap (λ rest. first ∷ rest) (remove-row rows place row d.1 e)
    ∙ sym (ap (λ b. cond b rows (first ∷ takes same_key rows row.0)) other)

-- The key of the row at a place is found.
pub row_there : (rows : List (Key × ℕ)) (place : ℕ) (row : Key × ℕ) → Some row ≡ slice_get rows place → is_some (at same_key rows row.0) ≡ true
row_there [] zero row e = absurd (true≢false (ap is_some e))
row_there [] (suc place) row e = absurd (true≢false (ap is_some e))
row_there (first ∷ rows) zero row e =
    let same : same_key row.0 first.0 ≡ true = ap (λ (r : Key × ℕ). same_key r.0 first.0) (ap (λ o. unwrap_or o row) e) ∙ same_key-itself first.0 in
    ap (λ b. is_some (cond b (Some first.1) (at same_key rows row.0))) same
row_there (first ∷ rows) (suc place) row e = by (same_key row.0 first.0) (row_there rows place row e)
  where
    by : (b : Bool) → is_some (at same_key rows row.0) ≡ true → is_some (cond b (Some first.1) (at same_key rows row.0)) ≡ true
    by true h = refl
    by false h = h

-- Without a key and its copy, each key that has a moment has a copy still.
pub copied-taken : (moments left : List (Key × ℕ)) (copies others : List Key) (k : Key) → AreCopied moments copies → ((j : Key) → at same_key left j ≡ cond (same_key k j) None (at same_key moments j))
    → ((j : Key) → has_key j others ≡ cond (same_key k j) false (has_key j copies)) → AreCopied left others
copied-taken moments left copies others k copied takes drops j there = by (same_key k j) (takes j) (drops j)
  where
    by : (b : Bool) → at same_key left j ≡ cond b None (at same_key moments j) → has_key j others ≡ cond b false (has_key j copies) → has_key j others ≡ true
    by true t d = absurd (true≢false (sym there ∙ ap is_some t))
    by false t d = d ∙ copied j (sym (ap is_some t) ∙ there)

-- ---- the least moment

-- Of a row and of those after it.
least-cons : (row : Key × ℕ) (rows : List (Key × ℕ)) → least_moment (row ∷ rows) ≡ Some (earlier (least_moment rows) row.1)
least-cons row rows = by (first_of rows)
  where
    least : (s : Key × ℕ) (rest l e b : Bool) → nat_lt s.1 row.1 ≡ l → (s.1 == row.1) ≡ e → (l || e && rest) ≡ b → (cond b s row).1 ≡ min s.1 row.1
    least s rest true e true less same t = let h : s.1 < row.1 = grind (arith, nat_tests, less) in omega (arith, h)
    least s rest true e false less same t = absurd (true≢false t)
    least s rest false true true less same t = let h = eqb-true s.1 row.1 same in omega (arith, h)
    least s rest false true false less same t = let h = eqb-true s.1 row.1 same in omega (arith, h)
    least s rest false false true less same t = absurd (true≢false (sym t))
    least s rest false false false less same t = let h : row.1 ≤ s.1 = grind (arith, nat_tests, less) in omega (arith, h)

    by : (o : Option (Key × ℕ)) → option_map (λ (row : Key × ℕ). row.1) (Some (sooner row o)) ≡ Some (earlier (option_map (λ (row : Key × ℕ). row.1) o) row.1)
    by None = refl
    by (Some s) = ap (λ (m : ℕ). Some m) (least s (is_lt (key_order s.0 row.0)) (nat_lt s.1 row.1) (s.1 == row.1) (is_before s row) refl refl refl)

-- Where a key is due at a moment, or at its earlier one.
pub least-with : (rows : List (Key × ℕ)) (k : Key) (moment : ℕ) → Some (earlier (least_moment rows) moment) ≡ least_moment (with_moment rows k moment)
least-with [] k moment = refl
least-with (row ∷ rows) k moment = by (same_key k row.0) (at same_key rows k) (least-with rows k moment)
  where
    within : (o : Option ℕ) (a b : ℕ) → min (earlier o a) b ≡ earlier o (min a b)
    within None a b = refl
    within (Some t) a b = omega arith

    swapped : (o : Option ℕ) (a b : ℕ) → min (earlier o a) b ≡ min (earlier o b) a
    swapped None a b = omega arith
    swapped (Some t) a b = omega arith

    by : (s : Bool) (o : Option ℕ) → Some (earlier (least_moment rows) moment) ≡ least_moment (puts same_key rows k (earlier o moment))
        → Some (earlier (least_moment (row ∷ rows)) moment)
        ≡ least_moment (cond s ((row.0, earlier (cond s (Some row.1) o) moment) ∷ rows) (row ∷ puts same_key rows k (earlier (cond s (Some row.1) o) moment)))
    by true o ih =
        ap (λ o. Some (earlier o moment)) (least-cons row rows) ∙ ap (λ (m : ℕ). Some m) (within (least_moment rows) row.1 moment)
        ∙ sym (least-cons (row.0, min row.1 moment) rows)
    by false o ih =
        ap (λ o. Some (earlier o moment)) (least-cons row rows) ∙ ap (λ (m : ℕ). Some m) (swapped (least_moment rows) row.1 moment)
        ∙ ap (λ o. Some (earlier o row.1)) ih ∙ sym (least-cons row (puts same_key rows k (earlier o moment)))

-- Where the least moment has not come no key is due.
pub none-due : (rows : List (Key × ℕ)) (now : ℕ) → None ≡ least_moment rows → None ≡ key_by (first_of rows) now
none-due rows now e = by (first_of rows) e
  where
    by : (o : Option (Key × ℕ)) → None ≡ option_map (λ (row : Key × ℕ). row.1) o → None ≡ key_by o now
    by None e = refl
    by (Some row) e = absurd (true≢false (sym (ap is_some e)))

pub later-due : (rows : List (Key × ℕ)) (now moment : ℕ) → Some moment ≡ least_moment rows → nat_le moment now ≡ false → None ≡ key_by (first_of rows) now
later-due rows now moment e later = by (first_of rows) e
  where
    by : (o : Option (Key × ℕ)) → Some moment ≡ option_map (λ (row : Key × ℕ). row.1) o → None ≡ key_by o now
    by None e = refl
    by (Some row) e = sym (ap (λ b. cond b (Some row.0) None) (ap (λ m. nat_le m now) (ap (λ o. unwrap_or o 0) (sym e)) ∙ later))

-- Where it has come the first key is due.
pub first-due : (rows : List (Key × ℕ)) (now moment : ℕ) (row : Key × ℕ) → Some moment ≡ least_moment rows → nat_le moment now ≡ true → Some row ≡ first_of rows → Some row.0 ≡ key_by (first_of rows) now
first-due rows now moment row e come first =
    sym (ap (λ b. cond b (Some row.0) None) (ap (λ m. nat_le m now) (ap (λ o. unwrap_or o 0) (sym (e ∙ ap (λ o. option_map (λ (row : Key × ℕ). row.1) o) (sym first)))) ∙ come))
    ∙ ap (λ o. key_by o now) first

-- ---- copies

-- The row that is copied next.
insert-next : {X : Type 0} (rows : List (Key × X)) (i : ℕ) (row : Key × X) → IsDistinct same_key (keys_of rows) → Some row ≡ slice_get rows i → insert_entry same_key (take i rows) row.0 row.1 ≡ take (suc i) rows
unfolding IsDistinct
insert-next [] zero row d e = absurd (true≢false (ap is_some e))
insert-next [] (suc i) row d e = absurd (true≢false (ap is_some e))
insert-next (first ∷ rows) zero row d e = ap (λ o. unwrap_or o row ∷ []) e
insert-next (first ∷ rows) (suc i) row d e =
    let other : same_key row.0 first.0 ≡ false = same_key-either_way row.0 first.0 ∙ key_at (λ k. same_key first.0 k ≡ false) rows i row d.0 e in
    ap (λ b. cond b ((first.0, row.1) ∷ take i rows) (first ∷ insert_entry same_key (take i rows) row.0 row.1)) other
    ∙ ap (λ rest. first ∷ rest) (insert-next rows i row d.1 e)

pub row-copied : {X : Type 0} (rows before after : List (Key × X)) (i next : ℕ) (row : Key × X) (k : Key) (v : X) → IsDistinct same_key (keys_of rows) → Some row ≡ slice_get rows i → next ≡ suc i → k
    ≡ row.0 → v ≡ row.1 → before ≡ take i rows → after ≡ insert_entry same_key before k v → after ≡ take next rows
row-copied rows before after i next row k v d e n key value b a =
    a ∙ (λ j. insert_entry same_key (b j) (key j) (value j)) ∙ insert-next rows i row d e ∙ ap (λ n. take n rows) (sym n)
