-- What a sync that asks for nothing, and the clock, leave of the keys that are to come.
use Rattle.std.proofs.Common.{◌≡◌, ℕ, ◌+◌, ◌<◌, ◌≤◌, nat_le, nat_lt, min, Bool, true, false, cond, not, ◌&&◌, ◌||◌, List, [], ◌∷◌, ◌++◌, filter, length, Option, Some, None, is_some, unwrap_or, option_map, refl, sym, ap, ◌∙◌, subst, arith}
use Rattle.std.proofs.Common.{true≢false, ltb-true, eqb-true, le-leb, leb-true, leb-false}
use Rattle.std.specs.List.{AllByRecursion as Each, cons_option, filter_map}
use Rattle.std.specs.Map.{keys_of}
use Rattle.std.proofs.lemmas.Bool.{and_parts}
use Rattle.jc_types.specs.declared.objects.Entry.{Entry}
use Rattle.jc_types.specs.declared.objects.Job.{Job}
use Rattle.jc_types.specs.declared.objects.KeyNames.{KeyNames as Key}
use Rattle.jc_types.specs.Keys.{same_key}
use Rattle.jc_types.proofs.KeyFacts.{same_key-eq, same_key-itself}
use Rattle.jc_states.specs.declared.bases.Basis.{Basis}
use Rattle.jc_log.specs.Log.{job_in, jobs_in}
use Rattle.jc_log.specs.Tables.{at}
use Rattle.jc_log.proofs.ObjectFacts.{jobs_in-at}
use Rattle.jc_account.proofs.Owned.{filter-least}
use Rattle.jc_control.specs.declared.ends.SyncEnd.TheVariants as end
use Rattle.jc_plan.specs.Backoffs.{opening}
use Rattle.jc_plan.specs.Plans.{planned}
use Rattle.jc_queue.specs.Delayed.{first_of, in_turn, is_before, is_due, put_in_turn, sooner}
use Rattle.jc_queue.specs.Queued.{has_key}
use Rattle.jc_history.specs.Delays.{delay, delays, earlier_if, ended_key, keys_due, least_delay, not_come}
use Rattle.jc_history.specs.KeyLists.{once}
use Rattle.jc_history.specs.Lines.{OnlyAdds, is_dirty, is_processing, line}
use Rattle.jc_history.specs.Notes.{Note, Began, Ticked}
use Rattle.jc_history.specs.Registers.{backoff}
use Rattle.jc_history.proofs.DelayFacts.{at-delays, at-rows, rows_of}
use Rattle.jc_history.proofs.LineFacts.{fresh, line-added, line-began, line-ended, processing-began}
use Rattle.jc_coming.specs.Drafts.{is_ahead}
use Rattle.jc_coming.specs.Moments.{ShowsAll, astray, deadline_by_status, empty_sync, is_at, is_moment_of, is_moment_to_come, keys_to_come, moments_to_come}
use Rattle.jc_coming.proofs.ClockFacts.{ahead-before}
use Rattle.jc_coming.proofs.Lists.{as-many-same, length-first, one_if, stronger-fewer}
use Rattle.jc_coming.proofs.MomentFacts.{names-moment}

-- ---- rows of keys that pass

-- 1 where the key has a moment that passes.
abbrev weight : (Key × ℕ → Bool) → Key → Option ℕ → ℕ
weight p k None = 0
weight p k (Some m) = one_if (p (k, m))

-- How many rows pass.
abbrev passing : (Key × ℕ → Bool) → (Key → Option ℕ) → List Key → ℕ
passing p f keys = length (filter p (rows_of f keys))

passing-first : (p : Key × ℕ → Bool) (f : Key → Option ℕ) (x : Key) (keys : List Key) → passing p f (x ∷ keys) ≡ weight p x (f x) + passing p f keys
passing-first p f x keys = by (f x)
  where
    by : (o : Option ℕ) → length (filter p (cons_option (option_map (λ moment. (x, moment)) o) (rows_of f keys))) ≡ weight p x o + passing p f keys
    by None = omega arith
    by (Some m) = length-first p (x, m) (rows_of f keys)

module _ (p : Key × ℕ → Bool) (f : Key → Option ℕ) (k : Key) where
  abbrev others : List Key → List Key
  others keys = filter (λ j. not (same_key k j)) keys

  others-fewer : (keys : List Key) → passing p f (others keys) ≤ passing p f keys
  others-fewer [] = omega arith
  others-fewer (x ∷ keys) =
      let ih = others-fewer keys in
      let first = passing-first p f x keys in
      by (same_key k x) ih first
    where
      by : (m : Bool) → passing p f (others keys) ≤ passing p f keys → passing p f (x ∷ keys) ≡ weight p x (f x) + passing p f keys → passing p f (cond (not m) (x ∷ others keys) (others keys)) ≤ passing p f (x ∷ keys)
      by true ih first = omega (arith, ih, first)
      by false ih first = let kept = passing-first p f x (others keys) in omega (arith, ih, first, kept)

  taken-out : (keys : List Key) → has_key k keys ≡ true → weight p k (f k) + passing p f (others keys) ≤ passing p f keys
  taken-out [] h = absurd (true≢false (sym h))
  taken-out (x ∷ keys) h = by (same_key k x) refl h (taken-out keys)
    where
      by : (m : Bool) → same_key k x ≡ m → (m || has_key k keys) ≡ true
          → (has_key k keys ≡ true → weight p k (f k) + passing p f (others keys) ≤ passing p f keys)
          → weight p k (f k) + passing p f (cond (not m) (x ∷ others keys) (others keys)) ≤ passing p f (x ∷ keys)
      by true s h more =
          let few = others-fewer keys in
          let first = passing-first p f x keys in
          let same = ap (λ z. weight p z (f z)) (same_key-eq k x s) in
          omega (arith, few, first, same)
      by false s h more =
          let ih = more h in
          let first = passing-first p f x keys in
          let kept = passing-first p f x (others keys) in
          omega (arith, ih, first, kept)

-- The keys but one have the same rows, where their moments are the same.
others-same : (p : Key × ℕ → Bool) (f g : Key → Option ℕ) (k : Key) → ((j : Key) → same_key k j ≡ false → g j ≡ f j) → (keys : List Key)
    → passing p g (filter (λ j. not (same_key k j)) keys) ≡ passing p f (filter (λ j. not (same_key k j)) keys)
others-same p f g k h [] = refl
others-same p f g k h (x ∷ keys) = by (same_key k x) refl (others-same p f g k h keys)
  where
    left : List Key
    left = filter (λ j. not (same_key k j)) keys

    by : (m : Bool) → same_key k x ≡ m → passing p g left ≡ passing p f left → passing p g (cond (not m) (x ∷ left) left) ≡ passing p f (cond (not m) (x ∷ left) left)
    by true s ih = ih
    by false s ih =
        let new = passing-first p g x left in
        let old = passing-first p f x left in
        let same = ap (weight p x) (h x s) in
        omega (arith, ih, new, old, same)

-- ---- an empty sync

-- A moment that does not pass adds nothing.
earlier-weight : (p : Key × ℕ → Bool) (k : Key) (there next : Option ℕ) → ((m : ℕ) → next ≡ Some m → p (k, m) ≡ false) → weight p k (earlier_if there next) ≤ weight p k there
earlier-weight p k there None h = omega arith
earlier-weight p k None (Some m) h = let none = ap one_if (h m refl) in omega (arith, none)
earlier-weight p k (Some d) (Some m) h = by (nat_le d m) refl
  where
    by : (b : Bool) → nat_le d m ≡ b → one_if (p (k, min d m)) ≤ one_if (p (k, d))
    by true e =
        let le = leb-true d m e in
        let is : min d m ≡ d = omega (arith, le) in
        let same = ap (λ n. one_if (p (k, n))) is in
        omega (arith, same)
    by false e =
        let lt = leb-false d m e in
        let is : min d m ≡ m = omega (arith, lt) in
        let same = ap (λ n. one_if (p (k, n))) is in
        let none = ap one_if (h m refl) in
        omega (arith, same, none)

module _ (w ended : ℕ) (log : List Entry) (notes : List Note) (basis : Basis) (rest : List Key) (first : line notes ≡ basis.key ∷ rest) (current : ShowsAll notes log basis) (unneeded : (planned basis).first ≡ None) where
  abbrev after : List Note
  after = empty_sync w basis ended notes

  shorter : length (line (Began w basis ∷ notes)) ≤ length rest
  shorter =
      let is = ap length (line-began w basis notes ∙ ap (filter (λ k. not (same_key basis.key k))) first ∙ ap (λ m. cond (not m) (basis.key ∷ left) left) (same_key-itself basis.key)) in
      let few = filter-least (λ k. not (same_key basis.key k)) rest in
      omega (arith, is, few)
    where
      left : List Key
      left = filter (λ k. not (same_key basis.key k)) rest

  line-is : line after ≡ line (Began w basis ∷ notes)
  line-is =
      line-ended w basis (end.Ended (planned basis).next) ended (Began w basis ∷ notes) (processing-began w basis notes basis.key ∙ ap (λ m. m || is_processing basis.key notes) (same_key-itself basis.key))
      ∙ ap (λ m. cond (not m && is_dirty basis.key notes) (line (Began w basis ∷ notes) ++ basis.key ∷ []) (line (Began w basis ∷ notes))) (same_key-itself basis.key)

  abbrev stray : Key × ℕ → Bool
  stray row = not (is_moment_to_come basis.now log notes row.0 row.1)

  abbrev old_delay : Key → Option ℕ
  old_delay k = delay k notes

  abbrev new_delay : Key → Option ℕ
  new_delay k = delay k after

  abbrev keys : List Key
  keys = once (filter_map ended_key notes)

  same-others : (j : Key) → same_key basis.key j ≡ false → new_delay j ≡ old_delay j
  same-others j e = ap (λ m. earlier_if (old_delay j) (cond m (planned basis).next None)) e

  own-weight : weight stray basis.key (new_delay basis.key) ≤ weight stray basis.key (old_delay basis.key)
  own-weight =
      let is = ap (λ m. weight stray basis.key (earlier_if (old_delay basis.key) (cond m (planned basis).next None))) (same_key-itself basis.key) in
      let le = earlier-weight stray basis.key (old_delay basis.key) (planned basis).next (λ m e. ap not (names-moment notes log basis m current unneeded e)) in
      omega (arith, is, le)

  fewer-astray : length (astray basis.now log after) ≤ length (astray basis.now log notes)
  fewer-astray = by (has_key basis.key keys) refl
    where
      new : passing stray new_delay (basis.key ∷ filter (λ j. not (same_key basis.key j)) keys) ≡ weight stray basis.key (new_delay basis.key) + passing stray new_delay (filter (λ j. not (same_key basis.key j)) keys)
      new = passing-first stray new_delay basis.key (filter (λ j. not (same_key basis.key j)) keys)

      same : passing stray new_delay (filter (λ j. not (same_key basis.key j)) keys) ≡ passing stray old_delay (filter (λ j. not (same_key basis.key j)) keys)
      same = others-same stray old_delay new_delay basis.key same-others keys

      by : (b : Bool) → has_key basis.key keys ≡ b → passing stray new_delay (basis.key ∷ filter (λ j. not (same_key basis.key j)) keys) ≤ passing stray old_delay keys
      by true e =
          let out = taken-out stray old_delay basis.key keys e in
          omega (arith, new, same, own-weight, out)
      by false e =
          let few = others-fewer stray old_delay basis.key keys in
          let none = ap (weight stray basis.key) (sym (at-delays notes basis.key) ∙ at-rows old_delay keys basis.key ∙ ap (λ b. cond b (old_delay basis.key) None) e) in
          omega (arith, new, same, own-weight, few, none)

  pub keys-fall : keys_to_come basis.now log (empty_sync w basis ended notes) < keys_to_come basis.now log notes
  keys-fall =
      let was = ap length first in
      let is = ap length line-is in
      omega (arith, was, is, shorter, fewer-astray)

-- ---- the clock

once-fewer : (keys : List Key) → length (once keys) ≤ length keys
once-fewer [] = omega arith
once-fewer (k ∷ keys) =
    let ih = once-fewer keys in
    let few = filter-least (λ j. not (same_key k j)) (once keys) in
    omega (arith, ih, few)

put-length : (row : Key × ℕ) (rows : List (Key × ℕ)) → length (put_in_turn row rows) ≡ length rows + 1
put-length row [] = refl
put-length row (other ∷ rows) = by (is_before other row) (put-length row rows)
  where
    by : (b : Bool) → length (put_in_turn row rows) ≡ length rows + 1 → length (cond b (other ∷ put_in_turn row rows) (row ∷ other ∷ rows)) ≡ length (other ∷ rows) + 1
    by true ih = omega (arith, ih)
    by false ih = omega arith

turn-length : (rows : List (Key × ℕ)) → length (in_turn rows) ≡ length rows
turn-length [] = refl
turn-length (row ∷ rows) =
    let one = put-length row (in_turn rows) in
    let ih = turn-length rows in
    omega (arith, one, ih)

keys-length : (rows : List (Key × ℕ)) → length (keys_of rows) ≡ length rows
keys-length [] = refl
keys-length (row ∷ rows) = let ih = keys-length rows in omega (arith, ih)

-- The key that is first due is due.
first-due : (later : ℕ) (rows : List (Key × ℕ)) (row : Key × ℕ) → first_of rows ≡ Some row → is_due later row ≡ true → 1 ≤ length (filter (is_due later) rows)
first-due later [] row e h = absurd (true≢false (sym (ap is_some e)))
first-due later (r ∷ rows) row e h = by (first_of rows) refl e (λ other. first-due later rows other)
  where
    due_of : Key × ℕ → Option (Key × ℕ) → Bool
    due_of d o = is_due later (unwrap_or o d)

    here : is_due later r ≡ true → 1 ≤ length (filter (is_due later) (r ∷ rows))
    here g = let first = length-first (is_due later) r rows in let one = ap one_if g in omega (arith, first, one)

    there : 1 ≤ length (filter (is_due later) rows) → 1 ≤ length (filter (is_due later) (r ∷ rows))
    there some = let first = length-first (is_due later) r rows in omega (arith, first, some)

    by : (o : Option (Key × ℕ)) → first_of rows ≡ o → Some (sooner r o) ≡ Some row
        → ((other : Key × ℕ) → first_of rows ≡ Some other → is_due later other ≡ true → 1 ≤ length (filter (is_due later) rows)) → 1 ≤ length (filter (is_due later) (r ∷ rows))
    by None f e more = here (ap (due_of r) e ∙ h)
    by (Some other) f e more = of-first (is_before other r) e
      where
        of-first : (b : Bool) → Some (cond b other r) ≡ Some row → 1 ≤ length (filter (is_due later) (r ∷ rows))
        of-first true e = there (more other f (ap (due_of r) e ∙ h))
        of-first false e = here (ap (due_of r) e ∙ h)

-- What holds of each row holds of that of a key.
each-at : (Q : Key → Job → Type 0) (rows : List (Key × Job)) (k : Key) (job : Job) → at same_key rows k ≡ Some job → Each (λ row. Q row.0 row.1) rows → Q k job
each-at Q [] k job e h = absurd (true≢false (sym (ap is_some e)))
each-at Q (row ∷ rows) k job e h = by (same_key k row.0) refl e (λ g. each-at Q rows k job g h.1)
  where
    by : (m : Bool) → same_key k row.0 ≡ m → cond m (Some row.1) (at same_key rows k) ≡ Some job → (at same_key rows k ≡ Some job → Q k job) → Q k job
    by true s e more = subst (λ j. Q k j) (ap (λ o. unwrap_or o job) e) (subst (λ z. Q z row.1) (sym (same_key-eq k row.0 s)) h.0)
    by false s e more = more e

module _ (now later : ℕ) (log : List Entry) (notes : List Note) (le : now ≤ later) (same : moments_to_come later log (Ticked later ∷ notes) ≡ moments_to_come now log notes) where
  abbrev deadline_at : ℕ → Key × Job → Bool
  deadline_at t row = is_ahead t (deadline_by_status row.1)

  abbrev opening_at : ℕ → Key × Job → Bool
  opening_at t row = is_ahead t (opening (backoff row.0 notes))

  few-deadlines : length (filter (deadline_at later) (jobs_in log)) ≤ length (filter (deadline_at now) (jobs_in log))
  few-deadlines = stronger-fewer (deadline_at later) (deadline_at now) (λ row h. ahead-before now later le (deadline_by_status row.1) h) (jobs_in log)

  few-openings : length (filter (opening_at later) (jobs_in log)) ≤ length (filter (opening_at now) (jobs_in log))
  few-openings = stronger-fewer (opening_at later) (opening_at now) (λ row h. ahead-before now later le (opening (backoff row.0 notes)) h) (jobs_in log)

  sum-same : length (filter (deadline_at later) (jobs_in log)) + length (filter (opening_at later) (jobs_in log)) ≡ length (filter (deadline_at now) (jobs_in log)) + length (filter (opening_at now) (jobs_in log))
  sum-same = same

  deadlines-on : Each (λ row. deadline_at now row ≡ true → deadline_at later row ≡ true) (jobs_in log)
  deadlines-on =
      as-many-same (deadline_at later) (deadline_at now) (λ row h. ahead-before now later le (deadline_by_status row.1) h) (jobs_in log)
      (omega (arith, few-openings, sum-same))

  openings-on : Each (λ row. opening_at now row ≡ true → opening_at later row ≡ true) (jobs_in log)
  openings-on =
      as-many-same (opening_at later) (opening_at now) (λ row h. ahead-before now later le (opening (backoff row.0 notes)) h) (jobs_in log)
      (omega (arith, few-deadlines, sum-same))

  -- A moment that is to come is so later.
  comes-on : (k : Key) (m : ℕ) → is_moment_to_come now log notes k m ≡ true → is_moment_to_come later log notes k m ≡ true
  comes-on k m h = by (job_in k log) refl (and_parts (nat_lt now m) (is_moment_of (backoff k notes) m (job_in k log)) h)
    where
      at-moment : (o : Option ℕ) → (is_ahead now o ≡ true → is_ahead later o ≡ true) → is_at o m ≡ true → nat_lt now m ≡ true → nat_lt later m ≡ true
      at-moment None on i a = absurd (true≢false (sym i))
      at-moment (Some second) on i a = let is = eqb-true second m i in ap (λ n. nat_lt later n) (sym is) ∙ on (ap (λ n. nat_lt now n) is ∙ a)

      by : (o : Option Job) → job_in k log ≡ o → (nat_lt now m ≡ true) × (is_moment_of (backoff k notes) m o ≡ true) → (nat_lt later m && is_moment_of (backoff k notes) m o) ≡ true
      by None e g = absurd (true≢false (sym g.1))
      by (Some job) e g = of-which (is_at (deadline_by_status job) m) refl (is_at (opening (backoff k notes)) m) refl g.1
        where
          row : at same_key (jobs_in log) k ≡ Some job
          row = jobs_in-at k log ∙ e

          of-which : (a : Bool) → is_at (deadline_by_status job) m ≡ a → (b : Bool) → is_at (opening (backoff k notes)) m ≡ b → (a || b) ≡ true → (nat_lt later m && (a || b)) ≡ true
          of-which true i b j h =
              ap (λ c. c && true)
              (at-moment (deadline_by_status job) (each-at (λ k job. is_ahead now (deadline_by_status job) ≡ true → is_ahead later (deadline_by_status job) ≡ true) (jobs_in log) k job row deadlines-on) i g.0)
          of-which false i true j h =
              ap (λ c. c && true)
              (at-moment (opening (backoff k notes)) (each-at (λ k job. is_ahead now (opening (backoff k notes)) ≡ true → is_ahead later (opening (backoff k notes)) ≡ true) (jobs_in log) k job row openings-on) j g.0)
          of-which false i false j h = absurd (true≢false (sym h))

  abbrev stray_at : ℕ → Key × ℕ → Bool
  stray_at t row = not (is_moment_to_come t log notes row.0 row.1)

  abbrev delay_of : Key → Option ℕ
  delay_of k = delay k notes

  abbrev left_of : Key → Option ℕ
  left_of k = not_come later (delay k notes)

  -- A row that was due was astray, and one that is astray later was so before.
  one-row : (k : Key) (o : Option ℕ) → weight (is_due later) k o + weight (stray_at later) k (not_come later o) ≤ weight (stray_at now) k o
  one-row k None = omega arith
  one-row k (Some m) = by (nat_le m later) refl (is_moment_to_come now log notes k m) refl
    where
      by : (d : Bool) → nat_le m later ≡ d → (c : Bool) → is_moment_to_come now log notes k m ≡ c → one_if d + weight (stray_at later) k (cond d None (Some m)) ≤ one_if (not c)
      by true e true i =
          let past = leb-true m later e in
          let lt = ltb-true later m (and_parts (nat_lt later m) (is_moment_of (backoff k notes) m (job_in k log)) (comes-on k m i)).0 in
          absurd (omega (arith, past, lt))
      by true e false i = omega arith
      by false e true i = let none = ap (λ c. one_if (not c)) (comes-on k m i) in omega (arith, none)
      by false e false i = one (is_moment_to_come later log notes k m)
        where
          one : (c : Bool) → 0 + one_if (not c) ≤ 1
          one true = omega arith
          one false = omega arith

  all-rows : (keys : List Key) → passing (is_due later) delay_of keys + passing (stray_at later) left_of keys ≤ passing (stray_at now) delay_of keys
  all-rows [] = omega arith
  all-rows (k ∷ keys) =
      let ih = all-rows keys in
      let one = one-row k (delay_of k) in
      let due = passing-first (is_due later) delay_of k keys in
      let new = passing-first (stray_at later) left_of k keys in
      let old = passing-first (stray_at now) delay_of k keys in
      omega (arith, ih, one, due, new, old)

  few-astray : length (filter (is_due later) (delays notes)) + length (astray later log (Ticked later ∷ notes)) ≤ length (astray now log notes)
  few-astray = all-rows (once (filter_map ended_key notes))

  module _ (idle : line notes ≡ []) where
    few-in-line : length (line (Ticked later ∷ notes)) ≤ length (filter (is_due later) (delays notes))
    few-in-line =
        let is = ap length (line-added (Ticked later) notes (keys_due later notes) adds ∙ ap (λ keys. keys ++ once (filter (fresh notes) (keys_due later notes))) idle) in
        let each = once-fewer (filter (fresh notes) (keys_due later notes)) in
        let some = filter-least (fresh notes) (keys_due later notes) in
        let due = keys-length (in_turn (filter (is_due later) (delays notes))) in
        let turn = turn-length (filter (is_due later) (delays notes)) in
        omega (arith, is, each, some, due, turn)
      where
        adds : OnlyAdds (Ticked later) notes (keys_due later notes)
        adds = record { added = refl; got = λ k. refl; neither = λ k. refl; ended = refl }

    pub keys-stay : keys_to_come later log (Ticked later ∷ notes) ≤ keys_to_come now log notes
    keys-stay = omega (arith, few-in-line, few-astray)

    pub due-fall : (due : ℕ) → least_delay notes ≡ Some due → due ≤ later → keys_to_come later log (Ticked later ∷ notes) < keys_to_come now log notes
    due-fall due least come = by (first_of (delays notes)) refl least
      where
        by : (o : Option (Key × ℕ)) → first_of (delays notes) ≡ o → option_map (λ row. row.1) o ≡ Some due → keys_to_come later log (Ticked later ∷ notes) < keys_to_come now log notes
        by None f e = absurd (true≢false (sym (ap is_some e)))
        by (Some row) f e =
            let is : row.1 ≡ due = ap (λ o. unwrap_or o due) e in
            let some = first-due later (delays notes) row f (le-leb row.1 later (omega (arith, is, come))) in
            omega (arith, few-in-line, few-astray, some)
