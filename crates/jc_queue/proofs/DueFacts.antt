-- The keys that are due leave the delays one by one, each the one that is due first.
use Rattle.std.proofs.Common.{◌≡◌, ℕ, suc, ◌+◌, Bool, true, false, cond, not, ◌&&◌, ◌||◌, ◌==◌, nat_lt, nat_le, List, [], ◌∷◌, length, filter, Option, Some, None, is_some, refl, sym, ap, ◌∙◌, subst, arith, true≢false}
use Rattle.std.proofs.lemmas.Bool.Decides.{nat_tests}
use Rattle.std.specs.List.{AllByRecursion as Each, IsDistinct}
use Rattle.std.specs.Map.{keys_of}
use Rattle.std.specs.Option.{unwrap_or}
use Rattle.std.specs.Ordering.{is_lt}
use Rattle.jc_types.specs.declared.objects.KeyNames.{KeyNames as Key}
use Rattle.jc_types.specs.Keys.{same_key}
use Rattle.jc_log.specs.Tables.{at, takes}
use Rattle.jc_types.proofs.KeyFacts.{same_key-either_way, same_key-eq, same_key-itself}
use Rattle.jc_queue.specs.Delayed.{Delayed, due_key, due_keys, first_of, in_turn, is_before, is_due, key_by, key_order, left_after, left_by, put_in_turn, sooner}
use Rattle.jc_queue.specs.Queued.{without}
use Rattle.jc_queue.proofs.KeyLists.{distinct-without}
use Rattle.std.proofs.lemmas.Option.{same_Some as of_some}

-- ---- the row that is due first is one of the rows

-- A key that is found is another than a key that differs from all.
pub other_key : (k : Key) (rows : List (Key × ℕ)) (found : Key) (moment : ℕ) → Each (λ y. same_key k y ≡ false) (keys_of rows) → at same_key rows found ≡ Some moment → same_key found k ≡ false
other_key k [] found moment h e = absurd (true≢false (ap is_some (sym e)))
other_key k (row ∷ rows) found moment h e = by (same_key found row.0) refl e (other_key k rows found moment h.1)
  where
    by : (b : Bool) → same_key found row.0 ≡ b → cond b (Some row.1) (at same_key rows found) ≡ Some moment → (at same_key rows found ≡ Some moment → same_key found k ≡ false) → same_key found k ≡ false
    by true t e rest = same_key-either_way found k ∙ ap (λ j. same_key k j) (same_key-eq found row.0 t) ∙ h.0
    by false t e rest = rest e

-- Its moment is found at its key.
pub first_found : (rows : List (Key × ℕ)) (f : Key × ℕ) → IsDistinct same_key (keys_of rows) → first_of rows ≡ Some f → at same_key rows f.0 ≡ Some f.1
unfolding IsDistinct
first_found [] f d e = absurd (true≢false (ap is_some (sym e)))
first_found (row ∷ rows) f d e = by (first_of rows) refl e (λ s. first_found rows s d.1)
  where
    here : row ≡ f → at same_key (row ∷ rows) f.0 ≡ Some f.1
    here r = subst (λ (f : Key × ℕ). at same_key (row ∷ rows) f.0 ≡ Some f.1) r (ap (λ b. cond b (Some row.1) (at same_key rows row.0)) (same_key-itself row.0))

    there : at same_key rows f.0 ≡ Some f.1 → at same_key (row ∷ rows) f.0 ≡ Some f.1
    there e = ap (λ b. cond b (Some row.1) (at same_key rows f.0)) (other_key row.0 rows f.0 f.1 d.0 e) ∙ e

    by : (o : Option (Key × ℕ)) → first_of rows ≡ o → Some (sooner row o) ≡ Some f → ((s : Key × ℕ) → first_of rows ≡ Some s → at same_key rows s.0 ≡ Some s.1) → at same_key (row ∷ rows) f.0 ≡ Some f.1
    by None o e ih = here (of_some row f e)
    by (Some s) o e ih = at_test (is_before s row) (of_some (sooner row (Some s)) f e)
      where
        at_test : (b : Bool) → cond b s row ≡ f → at same_key (row ∷ rows) f.0 ≡ Some f.1
        at_test true e = there (ih f (o ∙ ap (λ (r : Key × ℕ). Some r) e))
        at_test false e = here e

-- ---- the rows in turn begin with the row that is due first

pub in_turn-first : (rows : List (Key × ℕ)) (f : Key × ℕ) → IsDistinct same_key (keys_of rows) → first_of rows ≡ Some f → in_turn rows ≡ f ∷ in_turn (takes same_key rows f.0)
unfolding IsDistinct
in_turn-first [] f d e = absurd (true≢false (ap is_some (sym e)))
in_turn-first (row ∷ rows) f d e = by (first_of rows) refl e (λ s. in_turn-first rows s d.1)
  where
    none : (rows : List (Key × ℕ)) → first_of rows ≡ None → rows ≡ []
    none [] e = refl
    none (x ∷ xs) e = absurd (true≢false (ap is_some e))

    -- The row itself is due first.
    here : in_turn (row ∷ rows) ≡ row ∷ in_turn rows → in_turn (row ∷ rows) ≡ row ∷ in_turn (takes same_key (row ∷ rows) row.0)
    here e = e ∙ ap (λ b. row ∷ in_turn (cond b rows (row ∷ takes same_key rows row.0))) (sym (same_key-itself row.0))

    by : (o : Option (Key × ℕ)) → first_of rows ≡ o → Some (sooner row o) ≡ Some f → ((s : Key × ℕ) → first_of rows ≡ Some s → in_turn rows ≡ s ∷ in_turn (takes same_key rows s.0)) → in_turn
        (row ∷ rows) ≡ f ∷ in_turn (takes same_key (row ∷ rows) f.0)
    by None o e ih =
        subst (λ (f : Key × ℕ). in_turn (row ∷ rows) ≡ f ∷ in_turn (takes same_key (row ∷ rows) f.0)) (of_some row f e)
        (here (ap (λ rows. put_in_turn row (in_turn rows)) (none rows o) ∙ ap (λ rows. row ∷ in_turn rows) (sym (none rows o))))
    by (Some s) o e ih = at_test (is_before s row) refl (of_some (sooner row (Some s)) f e)
      where
        put : in_turn (row ∷ rows) ≡ cond (is_before s row) (s ∷ put_in_turn row (in_turn (takes same_key rows s.0))) (row ∷ s ∷ in_turn (takes same_key rows s.0))
        put = ap (λ rest. put_in_turn row rest) (ih s o)

        at_test : (b : Bool) → is_before s row ≡ b → cond b s row ≡ f → in_turn (row ∷ rows) ≡ f ∷ in_turn (takes same_key (row ∷ rows) f.0)
        at_test true t e =
            subst (λ (f : Key × ℕ). in_turn (row ∷ rows) ≡ f ∷ in_turn (takes same_key (row ∷ rows) f.0)) e
            (put ∙ ap (λ b. cond b (s ∷ put_in_turn row (in_turn (takes same_key rows s.0))) (row ∷ s ∷ in_turn (takes same_key rows s.0))) t
            ∙ ap (λ b. s ∷ in_turn (cond b rows (row ∷ takes same_key rows s.0))) (sym (other_key row.0 rows s.0 s.1 d.0 (first_found rows s d.1 o))))
        at_test false t e =
            subst (λ (f : Key × ℕ). in_turn (row ∷ rows) ≡ f ∷ in_turn (takes same_key (row ∷ rows) f.0)) e
            (here (put ∙ ap (λ b. cond b (s ∷ put_in_turn row (in_turn (takes same_key rows s.0))) (row ∷ s ∷ in_turn (takes same_key rows s.0))) t ∙ ap (λ rest. row ∷ rest) (sym (ih s o))))

-- ---- of the rows whose moment has come

-- A row whose moment has come is due before one whose moment has not.
before_due : (now : ℕ) (s row : Key × ℕ) → is_due now s ≡ true → is_due now row ≡ false → is_before s row ≡ true
before_due now s row a b =
    let l : nat_lt s.1 row.1 ≡ true = grind (arith, nat_tests, a, b) in
    ap (λ c. c || (s.1 == row.1) && is_lt (key_order s.0 row.0)) l

after_due : (now : ℕ) (s row : Key × ℕ) → is_due now s ≡ false → is_due now row ≡ true → is_before s row ≡ false
after_due now s row a b =
    let l : nat_lt s.1 row.1 ≡ false = grind (arith, nat_tests, a, b) in
    let m : (s.1 == row.1) ≡ false = grind (arith, nat_tests, a, b) in
    (λ i. l i || m i && is_lt (key_order s.0 row.0))

-- The row that is due first is the first of those whose moment has come, or there are none.
abbrev DueAt : ℕ → List (Key × ℕ) → Option (Key × ℕ) → Type 0
DueAt now rows None = filter (is_due now) rows ≡ []
DueAt now rows (Some f) = (is_due now f ≡ true → first_of (filter (is_due now) rows) ≡ Some f) × (is_due now f ≡ false → filter (is_due now) rows ≡ [])

due_at : (now : ℕ) (rows : List (Key × ℕ)) → DueAt now rows (first_of rows)
due_at now [] = refl
due_at now (row ∷ rows) = by (first_of rows) (due_at now rows)
  where
    all : (b : Bool) → is_due now row ≡ b → filter (is_due now) (row ∷ rows) ≡ cond b (row ∷ filter (is_due now) rows) (filter (is_due now) rows)
    all b t = ap (λ b. cond b (row ∷ filter (is_due now) rows) (filter (is_due now) rows)) t

    by : (o : Option (Key × ℕ)) → DueAt now rows o → DueAt now (row ∷ rows) (Some (sooner row o))
    by None e = (
      λ t. ap first_of (all true t) ∙ ap (λ rest. Some (sooner row (first_of rest))) e,
      λ t. all false t ∙ e,
    )
    by (Some s) h = at_test (is_before s row) refl
      where
        at_test : (b : Bool) → is_before s row ≡ b → DueAt now (row ∷ rows) (Some (cond b s row))
        at_test true t = (λ a. came a (is_due now row) refl, λ a. later a (is_due now row) refl)
          where
            came : is_due now s ≡ true → (r : Bool) → is_due now row ≡ r → first_of (filter (is_due now) (row ∷ rows)) ≡ Some s
            came a true u = ap first_of (all true u) ∙ ap (λ o. Some (sooner row o)) (h.0 a) ∙ ap (λ b. Some (cond b s row)) t
            came a false u = ap first_of (all false u) ∙ h.0 a

            later : is_due now s ≡ false → (r : Bool) → is_due now row ≡ r → filter (is_due now) (row ∷ rows) ≡ []
            later a true u = absurd (true≢false (sym t ∙ after_due now s row a u))
            later a false u = all false u ∙ h.1 a
        at_test false t = (λ a. came a (is_due now s) refl, λ a. later a (is_due now s) refl)
          where
            came : is_due now row ≡ true → (r : Bool) → is_due now s ≡ r → first_of (filter (is_due now) (row ∷ rows)) ≡ Some row
            came a true u = ap first_of (all true a) ∙ ap (λ o. Some (sooner row o)) (h.0 u) ∙ ap (λ b. Some (cond b s row)) t
            came a false u = ap first_of (all true a) ∙ ap (λ rest. Some (sooner row (first_of rest))) (h.1 u)

            later : is_due now row ≡ false → (r : Bool) → is_due now s ≡ r → filter (is_due now) (row ∷ rows) ≡ []
            later a true u = absurd (true≢false (sym (before_due now s row u a) ∙ t))
            later a false u = all false a ∙ h.1 u

-- ---- a row is taken out

module _ (now : ℕ) (k : Key) (moment : ℕ) (come : nat_le moment now ≡ true) where
  due-takes : (rows : List (Key × ℕ)) → at same_key rows k ≡ Some moment → filter (is_due now) (takes same_key rows k) ≡ takes same_key (filter (is_due now) rows) k
  due-takes [] e = refl
  due-takes (row ∷ rows) e = by (same_key k row.0) refl e (due-takes rows)
    where
      by : (b : Bool) → same_key k row.0 ≡ b → cond b (Some row.1) (at same_key rows k) ≡ Some moment → (at same_key rows k ≡ Some moment → filter (is_due now) (takes same_key rows k) ≡ takes same_key (filter (is_due now) rows) k)
          → filter (is_due now) (cond b rows (row ∷ takes same_key rows k)) ≡ takes same_key (filter (is_due now) (row ∷ rows)) k
      by true t e ih =
          sym (ap (λ b. takes same_key (cond b (row ∷ filter (is_due now) rows) (filter (is_due now) rows)) k) (ap (λ m. nat_le m now) (of_some row.1 moment e) ∙ come)
          ∙ ap (λ b. cond b (filter (is_due now) rows) (row ∷ takes same_key (filter (is_due now) rows) k)) t)
      by false t e ih = at_due (is_due now row)
        where
          at_due : (c : Bool) → cond c (row ∷ filter (is_due now) (takes same_key rows k)) (filter (is_due now) (takes same_key rows k)) ≡ takes same_key (cond c (row ∷ filter (is_due now) rows) (filter (is_due now) rows)) k
          at_due true =
              ap (λ rest. row ∷ rest) (ih e)
              ∙ sym (ap (λ b. cond b (filter (is_due now) rows) (row ∷ takes same_key (filter (is_due now) rows) k)) t)
          at_due false = ih e

  left-takes : (rows : List (Key × ℕ)) → at same_key rows k ≡ Some moment → filter (λ row. not (is_due now row)) rows ≡ filter (λ row. not (is_due now row)) (takes same_key rows k)
  left-takes [] e = refl
  left-takes (row ∷ rows) e = by (same_key k row.0) e (left-takes rows)
    where
      left : List (Key × ℕ) → List (Key × ℕ)
      left some = filter (λ row. not (is_due now row)) some

      by : (b : Bool) → cond b (Some row.1) (at same_key rows k) ≡ Some moment → (at same_key rows k ≡ Some moment → filter (λ row. not (is_due now row)) rows ≡ filter (λ row. not (is_due now row)) (takes same_key rows k))
          → filter (λ row. not (is_due now row)) (row ∷ rows) ≡ filter (λ row. not (is_due now row)) (cond b rows (row ∷ takes same_key rows k))
      by true e ih =
          ap (λ b. cond (not b) (row ∷ filter (λ row. not (is_due now row)) rows) (filter (λ row. not (is_due now row)) rows))
          (ap (λ m. nat_le m now) (of_some row.1 moment e) ∙ come)
      by false e ih = ap (λ rest. cond (not (is_due now row)) (row ∷ rest) rest) (ih e)

  length-takes : (rows : List (Key × ℕ)) → at same_key rows k ≡ Some moment → length (takes same_key rows k) + 1 ≡ length rows
  length-takes [] e = absurd (true≢false (ap is_some (sym e)))
  length-takes (row ∷ rows) e = by (same_key k row.0) e (length-takes rows)
    where
      by : (b : Bool) → cond b (Some row.1) (at same_key rows k) ≡ Some moment → (at same_key rows k ≡ Some moment → length (takes same_key rows k) + 1 ≡ length rows) → length (cond b rows (row ∷ takes same_key rows k)) + 1 ≡ suc (length rows)
      by true e ih = omega arith
      by false e ih = let rest = ih e in omega (arith, rest)

-- Keys that are distinct stay so.
each-kept : (P : Key → Type 0) (test : Key × ℕ → Bool) (rows : List (Key × ℕ)) → Each P (keys_of rows) → Each P (keys_of (filter test rows))
each-kept P test [] h = tt
each-kept P test (row ∷ rows) h = by (test row) (each-kept P test rows h.1)
  where
    by : (b : Bool) → Each P (keys_of (filter test rows)) → Each P (keys_of (cond b (row ∷ filter test rows) (filter test rows)))
    by true rest = (h.0, rest)
    by false rest = rest

pub distinct-kept : (test : Key × ℕ → Bool) (rows : List (Key × ℕ)) → IsDistinct same_key (keys_of rows) → IsDistinct same_key (keys_of (filter test rows))
unfolding IsDistinct
distinct-kept test [] d = tt
distinct-kept test (row ∷ rows) d = by (test row) (distinct-kept test rows d.1)
  where
    by : (b : Bool) → IsDistinct same_key (keys_of (filter test rows)) → IsDistinct same_key (keys_of (cond b (row ∷ filter test rows) (filter test rows)))
    by true rest = (each-kept (λ y. same_key row.0 y ≡ false) test rows d.0, rest)
    by false rest = rest

keys-takes : (k : Key) (rows : List (Key × ℕ)) → without k (keys_of rows) ≡ keys_of (takes same_key rows k)
keys-takes k [] = refl
keys-takes k (row ∷ rows) = by (same_key k row.0) (keys-takes k rows)
  where
    by : (b : Bool) → without k (keys_of rows) ≡ keys_of (takes same_key rows k) → cond b (keys_of rows) (row.0 ∷ without k (keys_of rows)) ≡ keys_of (cond b rows (row ∷ takes same_key rows k))
    by true ih = refl
    by false ih = ap (λ rest. row.0 ∷ rest) ih

-- ---- the words on delays

-- Where no key is due, none of the rows is.
none_due : (d : Delayed) (now : ℕ) → due_key d now ≡ None → filter (is_due now) d.moments ≡ []
none_due d now e = by (first_of d.moments) e (due_at now d.moments)
  where
    by : (o : Option (Key × ℕ)) → key_by o now ≡ None → DueAt now d.moments o → filter (is_due now) d.moments ≡ []
    by None e h = h
    by (Some f) e h = at_test (nat_le f.1 now) e h.1
      where
        at_test : (b : Bool) → cond b (Some f.0) None ≡ None → (b ≡ false → filter (is_due now) d.moments ≡ []) → filter (is_due now) d.moments ≡ []
        at_test true e h = absurd (true≢false (ap is_some e))
        at_test false e h = h refl

pub due_keys-none : (d : Delayed) (now : ℕ) → due_key d now ≡ None → due_keys d now ≡ []
due_keys-none d now e = ap (λ rows. keys_of (in_turn rows)) (none_due d now e)

pub left_after-none : (d : Delayed) (now : ℕ) → due_key d now ≡ None → left_after d now ≡ d
left_after-none d now e = ap (λ rows. record { moments = rows; failures = d.failures }) (all d.moments (none_due d now e))
  where
    all : (rows : List (Key × ℕ)) → filter (is_due now) rows ≡ [] → filter (λ row. not (is_due now row)) rows ≡ rows
    all [] e = refl
    all (row ∷ rows) e = by (is_due now row) e (all rows)
      where
        by : (b : Bool) → cond b (row ∷ filter (is_due now) rows) (filter (is_due now) rows) ≡ [] → (filter (is_due now) rows ≡ [] → filter (λ row. not (is_due now row)) rows ≡ rows) → cond (not b)
            (row ∷ filter (λ row. not (is_due now row)) rows) (filter (λ row. not (is_due now row)) rows) ≡ row ∷ rows
        by true e ih = absurd (omega (arith, (ap length e)))
        by false e ih = ap (λ rest. row ∷ rest) (ih e)

-- The row whose key is due.
abbrev IsFirstDue : Delayed → ℕ → Key → Type 0
IsFirstDue d now k = (moment : ℕ) × (first_of d.moments ≡ Some (k, moment)) × (nat_le moment now ≡ true)

first_due : (d : Delayed) (now : ℕ) (k : Key) → due_key d now ≡ Some k → IsFirstDue d now k
first_due d now k e = by (first_of d.moments) refl e
  where
    by : (o : Option (Key × ℕ)) → first_of d.moments ≡ o → key_by o now ≡ Some k → IsFirstDue d now k
    by None o e = absurd (true≢false (ap is_some (sym e)))
    by (Some f) o e = at_test (nat_le f.1 now) refl e
      where
        at_test : (b : Bool) → nat_le f.1 now ≡ b → cond b (Some f.0) None ≡ Some k → IsFirstDue d now k
        at_test true t e = (f.1, o ∙ ap (λ key. Some (key, f.1)) (of_some f.0 k e), t)
        at_test false t e = absurd (true≢false (ap is_some (sym e)))

module _ (d : Delayed) (now : ℕ) (k : Key) (once : IsDistinct same_key (keys_of d.moments)) (e : due_key d now ≡ Some k) where
  there : (f : IsFirstDue d now k) → at same_key d.moments k ≡ Some f.0
  there f = first_found d.moments (k, f.0) once f.1

  pub due_keys-some : due_keys d now ≡ k ∷ due_keys (left_by d (Some k)) now
  due_keys-some =
      let f = first_due d now k e in
      ap keys_of (in_turn-first (filter (is_due now) d.moments) (k, f.0) (distinct-kept (is_due now) d.moments once)
      ((subst (λ o. DueAt now d.moments o) f.1 (due_at now d.moments)).0 f.2))
      ∙ ap (λ rows. k ∷ keys_of (in_turn rows)) (sym (due-takes now k f.0 f.2 d.moments (there f)))

  pub left_after-some : left_after d now ≡ left_after (left_by d (Some k)) now
  left_after-some =
      let f = first_due d now k e in
      ap (λ rows. record { moments = rows; failures = d.failures }) (left-takes now k f.0 f.2 d.moments (there f))

  pub fewer-left : length (left_by d (Some k)).moments + 1 ≡ length d.moments
  fewer-left = let f = first_due d now k e in length-takes now k f.0 f.2 d.moments (there f)

pub once-left : (d : Delayed) (k : Key) → IsDistinct same_key (keys_of d.moments) → IsDistinct same_key (keys_of (left_by d (Some k)).moments)
once-left d k once = subst (IsDistinct same_key) (keys-takes k d.moments) (distinct-without k (keys_of d.moments) once)
