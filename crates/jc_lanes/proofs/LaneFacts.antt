-- How far each lane of a script is, and where its next command stands.
use Rattle.std.proofs.Common.{◌≡◌, ℕ, zero, suc, ◌+◌, ◌<◌, ◌≤◌, ◌==◌, Bool, true, false, cond, List, [], ◌∷◌, length, set, filter, slice_get, drop, Option, Some, None, is_some, refl, sym, ap, ◌∙◌, subst, arith, true≢false, eq-eqb, ne_eqb}
use Rattle.std.proofs.Common.{◌⊎◌, inl, inr}
use Rattle.std.proofs.lemmas.Bool.Decides.{nat_tests}
use Rattle.std.specs.Option.{unwrap_or}
use Rattle.jc_types.specs.declared.actions.Command.{Command}
use Rattle.jc_types.specs.declared.runs.Event.TheVariants as event
use Rattle.jc_types.specs.declared.runs.Past.{Past}
use Rattle.jc_history.specs.Legal.{is_of_lane, lane_count, lane_places, next_command, places_from}
use Rattle.jc_lanes.specs.Places.{AreNone, AreUsedUp, HasPlaces, most_lanes, next_from}

-- Places from one on are not below it.
above : (lane p : ℕ) (cs : List Command) (k n : ℕ) → slice_get (places_from lane p cs) k ≡ Some n → p ≤ n
above lane p [] k n e = absurd (true≢false (sym (ap is_some e)))
above lane p (c ∷ cs) k n e = by (λ k e. above lane (p + 1) cs k n e) (c.lane == lane) k e
  where
    by : ((k : ℕ) → slice_get (places_from lane (p + 1) cs) k ≡ Some n → p + 1 ≤ n) → (b : Bool) (k : ℕ) → slice_get (cond b (p ∷ places_from lane (p + 1) cs) (places_from lane (p + 1) cs)) k ≡ Some n → p ≤ n
    by ih true zero e = let f = ap (λ o. unwrap_or o n) e in omega (arith, f)
    by ih true (suc k) e = let f = ih k e in omega (arith, f)
    by ih false k e = let f = ih k e in omega (arith, f)

-- The lane's place after one of its places.
after : (lane p : ℕ) (cs : List Command) (k n m : ℕ) → p + m ≡ n + 1 → slice_get (places_from lane p cs) k ≡ Some n → slice_get (places_from lane p cs) (suc k) ≡ slice_get (places_from lane (n + 1) (drop m cs)) 0
after lane p [] k n m far e = absurd (true≢false (sym (ap is_some e)))
after lane p (c ∷ cs) k n zero far e = absurd (let f = above lane p (c ∷ cs) k n e in omega (arith, f, far))
after lane p (c ∷ cs) k n (suc m) far e = by (λ k e. after lane (p + 1) cs k n m (omega (arith, far)) e) (c.lane == lane) k e
  where
    by : ((k : ℕ) → slice_get (places_from lane (p + 1) cs) k ≡ Some n → slice_get (places_from lane (p + 1) cs) (suc k)
        ≡ slice_get (places_from lane (n + 1) (drop m cs)) 0) → (b : Bool) (k : ℕ)
        → slice_get (cond b (p ∷ places_from lane (p + 1) cs) (places_from lane (p + 1) cs)) k ≡ Some n
        → slice_get (cond b (p ∷ places_from lane (p + 1) cs) (places_from lane (p + 1) cs)) (suc k) ≡ slice_get (places_from lane (n + 1) (drop m cs)) 0
    by ih true zero e =
        let f = ap (λ o. unwrap_or o n) e in
        let none : m ≡ 0 = omega (arith, f, far) in
        let next : p + 1 ≡ n + 1 = omega (arith, f) in
        (λ i. slice_get (places_from lane (next i) (drop (sym none i) cs)) 0)
    by ih true (suc k) e = ih k e
    by ih false k e = ih k e

-- Its next command once this one was played.
pub next_after : (commands : List Command) (before : List Past) (lane number : ℕ) (past : Past)
    → next_command commands lane before ≡ Some number → past.event ≡ event.Command lane number
    → next_command commands lane (past ∷ before) ≡ next_from lane (number + 1) commands
next_after commands before lane number past next is =
    ap (slice_get (lane_places lane commands)) count ∙ after lane 0 commands (lane_count lane before) number (number + 1) (omega arith) next
  where
    mine : is_of_lane lane past ≡ true
    mine = ap (λ event. is_of_lane lane (record past { event = event })) is ∙ eq-eqb lane lane refl

    count : lane_count lane (past ∷ before) ≡ suc (lane_count lane before)
    count = ap (λ b. length (cond b (past ∷ filter (is_of_lane lane) before) (filter (is_of_lane lane) before))) mine

-- Another lane's next command stays.
pub other_after : (commands : List Command) (before : List Past) (lane other number : ℕ) (past : Past) → (other ≡ lane → ⊥) → past.event ≡ event.Command other number → next_command commands lane (past ∷ before) ≡ next_command commands lane before
other_after commands before lane other number past apart is =
    ap (λ b. slice_get (lane_places lane commands) (length (cond b (past ∷ filter (is_of_lane lane) before) (filter (is_of_lane lane) before)))) (ap (λ event. is_of_lane lane (record past { event = event })) is ∙ ne_eqb other lane apart)

-- ---- lists with one element set

pub set_same : {A : Type 0} (xs : List A) (i : ℕ) (x : A) → i < length xs → slice_get (set xs i x) i ≡ Some x
set_same [] i x within = absurd (omega (arith, within))
set_same (y ∷ xs) zero x within = refl
set_same (y ∷ xs) (suc i) x within = set_same xs i x (omega (arith, within))

pub set_apart : {A : Type 0} (xs : List A) (i j : ℕ) (x : A) → (i ≡ j → ⊥) → slice_get (set xs i x) j ≡ slice_get xs j
set_apart [] i j x apart = refl
set_apart (y ∷ xs) zero zero x apart = absurd (apart refl)
set_apart (y ∷ xs) zero (suc j) x apart = refl
set_apart (y ∷ xs) (suc i) zero x apart = refl
set_apart (y ∷ xs) (suc i) (suc j) x apart = set_apart xs i j x (λ e. apart (ap suc e))

-- A command of the lane was played, and its next one is put in its place.
pub advanced : (commands : List Command) (before : List Past) (old : List (Option ℕ)) (mine number : ℕ)
    (next : Option ℕ) (past : Past) → length old ≡ most_lanes → HasPlaces commands before old
    → next_command commands mine before ≡ Some number → past.event ≡ event.Command mine number
    → next ≡ next_from mine (number + 1) commands → HasPlaces commands (past ∷ before) (set old mine next)
advanced commands before old mine number next past count has comes is found lane inside = by (decide (mine == lane) refl)
  where
    decide : (b : Bool) → (mine == lane) ≡ b → (mine ≡ lane) ⊎ (mine ≡ lane → ⊥)
    decide true e = inl (grind (arith, nat_tests, e))
    decide false e = inr (λ f. true≢false (sym (eq-eqb mine lane f) ∙ e))

    by : (mine ≡ lane) ⊎ (mine ≡ lane → ⊥) → slice_get (set old mine next) lane ≡ Some (next_command commands lane (past ∷ before))
    by (inl e) =
        ap (λ i. slice_get (set old i next) lane) e ∙ set_same old lane next (subst (λ n. lane < n) (sym count) inside)
        ∙ ap (λ o. Some o) (found ∙ sym (next_after commands before mine number past comes is) ∙ ap (λ l. next_command commands l (past ∷ before)) e)
    by (inr apart) = set_apart old mine lane next apart ∙ has lane inside ∙ ap (λ o. Some o) (sym (other_after commands before lane mine number past apart is))

-- Each place is none just where no lane has a command left.
module _ (commands : List Command) (before : List Past) (next : List (Option ℕ)) (count : length next ≡ most_lanes) (has : HasPlaces commands before next) where
  pub used_of : AreNone next → AreUsedUp commands before
  used_of none lane inside = sym (ap (λ o. unwrap_or o None) (sym (none lane (subst (λ n. lane < n) (sym count) inside)) ∙ has lane inside))

  pub none_of_used : AreUsedUp commands before → AreNone next
  none_of_used used i inside = let within = subst (λ n. i < n) count inside in has i within ∙ ap (λ o. Some o) (used i within)
