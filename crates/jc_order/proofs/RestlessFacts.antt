-- A key finds no rest while something of it is left to do.
use Rattle.std.proofs.Common.{◌≡◌, ℕ, ◌+◌, ◌≤◌, ◌==◌, nat_le, min, Bool, true, false, cond, not, ◌&&◌, ◌||◌, List, [], ◌∷◌, ◌++◌, filter, Option, Some, None, is_some, refl, sym, ap, ◌∙◌, subst, arith, eq-eqb, eqb-true, true≢false, ◌⊎◌, inl, inr}
use Rattle.std.proofs.lemmas.Bool.{eqb-false, or_right as or-right, or_left as or-left}
use Rattle.std.proofs.lemmas.List.Folds.{list_any-append}
use Rattle.std.specs.Map.{keys_of}
use Rattle.std.specs.Option.{option_or, option_to_list, unwrap_or}
use Rattle.jc_control.specs.declared.ends.SyncEnd.{SyncEnd}
use Rattle.jc_control.specs.ControllerCalls.{forgets_caches}
use Rattle.jc_queue.specs.Delayed.{in_turn, is_before, is_due, put_in_turn}
use Rattle.jc_queue.specs.Queued.{has_key}
use Rattle.jc_types.specs.declared.numbers.Version.{Version}
use Rattle.jc_types.specs.declared.objects.Kind.{Kind}
use Rattle.jc_types.specs.declared.objects.Kind.TheVariants.{Jobs, Pods}
use Rattle.jc_states.specs.declared.bases.Basis.{Basis}
use Rattle.jc_types.specs.declared.objects.KeyNames.{KeyNames as Key}
use Rattle.jc_types.specs.Keys.{same_key}
use Rattle.jc_log.specs.Tables.{at}
use Rattle.jc_types.proofs.KeyFacts.{same_key-either_way, same_key-eq, same_key-itself}
use Rattle.jc_history.specs.Delays.{added_by_end, delay, delays, keys_due, moment_added, not_come, tries, earlier_if}
use Rattle.jc_history.specs.KeyLists.{last_of, once}
use Rattle.jc_history.specs.Lines.{adds, comers, comes, comings, ends, gets, is_dirty, is_processing, line, waits}
use Rattle.jc_history.specs.Notes.{Note, Listed, Told, Expired, Began, SentBack, Asked, Ended, Faulted, Ticked, newest}
use Rattle.jc_history.specs.Numbers.{number, number_told}
use Rattle.jc_history.specs.Registers.{AllFit, register, register_told}
use Rattle.jc_history.proofs.KeyFacts.{is_in-filter, is_in-once}
use Rattle.jc_history.proofs.LineFacts.{processing-began, processing-ended}
use Rattle.jc_history.proofs.DelayFacts.{apart-delays, at-delays, at-filter, kept}
use Rattle.jc_order.specs.Restless.{AllAddOrRetry, HasCacheSeen, IsBusy, Dirty, Waiting, Syncing, StoodBefore, point}

-- ---- what is due is added

turn-has : (k : Key) (row : Key × ℕ) (rows : List (Key × ℕ)) → has_key k (keys_of (put_in_turn row rows)) ≡ (same_key k row.0 || has_key k (keys_of rows))
turn-has k row [] = refl
turn-has k row (first ∷ rows) = by (is_before first row) (turn-has k row rows)
  where
    swap : (a b c : Bool) → (a || (b || c)) ≡ (b || (a || c))
    swap true true c = refl
    swap true false c = refl
    swap false true c = refl
    swap false false c = refl

    by : (b : Bool) → has_key k (keys_of (put_in_turn row rows)) ≡ (same_key k row.0 || has_key k (keys_of rows))
        → has_key k (keys_of (cond b (first ∷ put_in_turn row rows) (row ∷ first ∷ rows))) ≡ (same_key k row.0 || (same_key k first.0 || has_key k (keys_of rows)))
    by true ih = ap (λ m. same_key k first.0 || m) ih ∙ swap (same_key k first.0) (same_key k row.0) (has_key k (keys_of rows))
    by false ih = refl

turns-have : (k : Key) (rows : List (Key × ℕ)) → has_key k (keys_of (in_turn rows)) ≡ has_key k (keys_of rows)
turns-have k [] = refl
turns-have k (row ∷ rows) = turn-has k row (in_turn rows) ∙ ap (λ m. same_key k row.0 || m) (turns-have k rows)

at-in : (k : Key) (m : ℕ) (rows : List (Key × ℕ)) → at same_key rows k ≡ Some m → has_key k (keys_of rows) ≡ true
at-in k m [] e = absurd (true≢false (sym (ap is_some e)))
at-in k m (row ∷ rows) e = by (same_key k row.0) e (at-in k m rows)
  where
    by : (b : Bool) → cond b (Some row.1) (at same_key rows k) ≡ Some m → (at same_key rows k ≡ Some m → has_key k (keys_of rows) ≡ true) → (b || has_key k (keys_of rows)) ≡ true
    by true e more = refl
    by false e more = more e

due-in : (k : Key) (now m : ℕ) (notes : List Note) → delay k notes ≡ Some m → nat_le m now ≡ true → has_key k (keys_due now notes) ≡ true
due-in k now m notes e le =
    turns-have k (filter (is_due now) (delays notes))
    ∙ at-in k m (filter (is_due now) (delays notes))
    (at-filter (is_due now) (delays notes) k (apart-delays notes) ∙ ap (kept (is_due now) k) (at-delays notes k ∙ e) ∙ ap (λ b. cond b (Some m) None) le)

-- ---- a note that changes nothing of it

module _ (k : Key) (a b : ℕ) where
  -- The same, where these are.
  pub same-busy : (note : Note) (older : List Note) → (is_dirty k older ≡ true → is_dirty k (note ∷ older) ≡ true) → delay k (note ∷ older) ≡ delay k older
      → ((w : ℕ) → register w (note ∷ older) ≡ register w older) → IsBusy k a b older → IsBusy k a b (note ∷ older)
  same-busy note older d e f (Dirty h) = Dirty (d h)
  same-busy note older d e f (Waiting h) = Waiting (ap is_some e ∙ h)
  same-busy note older d e f (Syncing w basis r same j p) = Syncing w basis (f w ∙ r) same j p

  pub listed : (kind : Kind) (at : Version) (keys : List Key) (older : List Note) → has_key k keys ≡ true → IsBusy k a b (Listed kind at keys ∷ older)
  listed kind at keys older e = Dirty (or-left (has_key k keys) (is_dirty k older) e)

  told-it : (kind : Kind) (version : Version) (key : Option Key) (older : List Note) → key ≡ Some k → IsBusy k a b (Told kind version key ∷ older)
  told-it kind version key older e = Dirty (ap (λ o. has_key k (option_to_list o) || is_dirty k older) e ∙ ap (λ m. (m || false) || is_dirty k older) (same_key-itself k))

  told-other : (kind : Kind) (version : Version) (key : Option Key) (older : List Note) → IsBusy k a b older → IsBusy k a b (Told kind version key ∷ older)
  told-other kind version key older h = same-busy (Told kind version key) older (or-right (has_key k (option_to_list key)) (is_dirty k older)) refl (λ w. refl) h

  -- A cache is told of one more version: that one, or it had seen it before.
  pub told-more : (kind : Kind) (version : Version) (key : Option Key) (older : List Note) (o : Option Version) → StoodBefore o version → (version.0 ≡ point kind a b → key ≡ Some k) → point kind a b ≤ version.0
      → (HasCacheSeen o (point kind a b) → IsBusy k a b older) → IsBusy k a b (Told kind version key ∷ older)
  told-more kind version key older None stood adds seen ih = absurd stood
  told-more kind version key older (Some before) stood adds seen ih = by (version.0 == point kind a b) refl
    where
      by : (t : Bool) → (version.0 == point kind a b) ≡ t → IsBusy k a b (Told kind version key ∷ older)
      by true s = told-it kind version key older (adds (eqb-true version.0 (point kind a b) s))
      by false s = let other = eqb-false version.0 (point kind a b) s in told-other kind version key older (ih (omega (arith, stood, seen, other)))

  -- A sync begins.
  pub began : (w : ℕ) (basis : Basis) (older : List Note) → register w older ≡ None → HasCacheSeen (Some basis.jobs_at) a → HasCacheSeen (Some basis.pods_at) b → IsBusy k a b older → IsBusy k a b (Began w basis ∷ older)
  began w basis older free j p (Waiting h) = Waiting h
  began w basis older free j p (Dirty h) = by (same_key basis.key k) refl
    where
      by : (t : Bool) → same_key basis.key k ≡ t → IsBusy k a b (Began w basis ∷ older)
      by true s = Syncing w basis (ap (λ t. unwrap_or (option_or (cond t (Some (Some basis)) None) (newest (register_told w) older)) None) (eq-eqb w w refl)) s j p
      by false s = Dirty (ap (λ t. not t && is_dirty k older) s ∙ h)
  began w basis older free j p (Syncing v other r same x y) = by (w == v) refl
    where
      by : (t : Bool) → (w == v) ≡ t → IsBusy k a b (Began w basis ∷ older)
      by true s = absurd (true≢false (sym (ap is_some r) ∙ ap (λ v. is_some (register v older)) (sym (eqb-true w v s)) ∙ ap is_some free))
      by false s = Syncing v other (ap (λ t. unwrap_or (option_or (cond t (Some (Some basis)) None) (newest (register_told v) older)) None) s ∙ r) same x y

  pub sent : (first : Key) (older : List Note) → IsBusy k a b older → IsBusy k a b (SentBack first ∷ older)
  sent first older h = same-busy (SentBack first) older (by (same_key first k) refl) refl (λ w. refl) h
    where
      by : (t : Bool) → same_key first k ≡ t → is_dirty k older ≡ true → ((same_key k first || false) || (not (same_key first k) && is_dirty k older)) ≡ true
      by true s h = or-left (same_key k first || false) (not (same_key first k) && is_dirty k older) (or-left (same_key k first) false (same_key-either_way k first ∙ s))
      by false s h = or-right (same_key k first || false) (not (same_key first k) && is_dirty k older) (ap (λ t. not t && is_dirty k older) s ∙ h)

  -- A sync ends.
  pub ended : (w : ℕ) (basis : Basis) (end : SyncEnd) (now : ℕ) (older : List Note) → register w older ≡ Some basis → forgets_caches end ≡ false
      → (same_key basis.key k ≡ true → a ≤ basis.jobs_at.0 → b ≤ basis.pods_at.0 → (forgets_caches end ≡ true) ⊎ (is_some (added_by_end end now (min (tries k older + 1) 7)) ≡ true))
      → IsBusy k a b older → IsBusy k a b (Ended w basis end now ∷ older)
  ended w basis end now older its kept honest (Dirty h) = Dirty h
  ended w basis end now older its kept honest (Waiting h) = Waiting (by (delay k older) (moment_added k (Ended w basis end now) (min (tries k older + 1) 7)) h)
    where
      by : (there added : Option ℕ) → is_some there ≡ true → is_some (earlier_if there added) ≡ true
      by there None h = h
      by there (Some moment) h = refl
  ended w basis end now older its kept honest (Syncing v other r same x y) = by (w == v) refl
    where
      added : (there o : Option ℕ) → is_some o ≡ true → is_some (earlier_if there o) ≡ true
      added there None h = absurd (true≢false (sym h))
      added there (Some moment) h = refl

      is-it : w ≡ v → basis ≡ other
      is-it s = ap (λ o. unwrap_or o basis) (sym its ∙ ap (λ v. register v older) s ∙ r)

      on : (forgets_caches end ≡ true) ⊎ (is_some (added_by_end end now (min (tries k older + 1) 7)) ≡ true) → same_key basis.key k ≡ true → IsBusy k a b (Ended w basis end now ∷ older)
      on (inl lost) mine = absurd (true≢false (sym lost ∙ kept))
      on (inr some) mine = Waiting (added (delay k older) (moment_added k (Ended w basis end now) (min (tries k older + 1) 7)) (ap (λ t. is_some (cond t (added_by_end end now (min (tries k older + 1) 7)) None)) mine ∙ some))

      by : (t : Bool) → (w == v) ≡ t → IsBusy k a b (Ended w basis end now ∷ older)
      by true s =
          let same-basis : basis ≡ other = is-it (eqb-true w v s) in
          let mine : same_key basis.key k ≡ true = ap (λ (z : Basis). same_key z.key k) same-basis ∙ same in
          on (honest mine (subst (λ (z : Basis). a ≤ z.jobs_at.0) (sym same-basis) x) (subst (λ (z : Basis). b ≤ z.pods_at.0) (sym same-basis) y)) mine
      by false s = Syncing v other (ap (λ t. unwrap_or (option_or (cond t (Some None) None) (newest (register_told v) older)) None) s ∙ r) same x y

  -- The clock goes on.
  pub ticked : (now : ℕ) (older : List Note) → IsBusy k a b older → IsBusy k a b (Ticked now ∷ older)
  ticked now older (Dirty h) = Dirty (or-right (has_key k (keys_due now older)) (is_dirty k older) h)
  ticked now older (Syncing w basis r same x y) = Syncing w basis r same x y
  ticked now older (Waiting h) = by (delay k older) refl h
    where
      by : (o : Option ℕ) → delay k older ≡ o → is_some o ≡ true → IsBusy k a b (Ticked now ∷ older)
      by None e h = absurd (true≢false (sym h))
      by (Some m) e h = come (nat_le m now) refl
        where
          come : (t : Bool) → nat_le m now ≡ t → IsBusy k a b (Ticked now ∷ older)
          come true s = Dirty (or-left (has_key k (keys_due now older)) (is_dirty k older) (due-in k now m older e s))
          come false s = Waiting (ap (λ o. is_some (earlier_if (not_come now o) None)) e ∙ ap (λ t. is_some (earlier_if (cond t None (Some m)) None)) s)

  -- ---- all notes

  pub busy : (notes : List Note) → AllFit notes → AllAddOrRetry k a b notes → HasCacheSeen (number Jobs notes) a → HasCacheSeen (number Pods notes) b → IsBusy k a b notes
  busy [] fit honest j p = absurd j
  busy (Listed Jobs at keys ∷ older) fit honest j p = listed Jobs at keys older (honest.0 j)
  busy (Listed Pods at keys ∷ older) fit honest j p = listed Pods at keys older (honest.0 p)
  busy (Told Jobs version key ∷ older) fit honest j p = told-more Jobs version key older (number Jobs older) honest.0.0 honest.0.1 j (λ seen. busy older fit.1 honest.1 seen p)
  busy (Told Pods version key ∷ older) fit honest j p = told-more Pods version key older (number Pods older) honest.0.0 honest.0.1 p (λ seen. busy older fit.1 honest.1 j seen)
  busy (Expired Jobs ∷ older) fit honest j p = absurd j
  busy (Expired Pods ∷ older) fit honest j p = absurd p
  busy (Began w basis ∷ older) fit honest j p =
      began w basis older fit.0.0 (subst (λ o. HasCacheSeen o a) honest.0.0 j) (subst (λ o. HasCacheSeen o b) honest.0.1 p) (busy older fit.1 honest.1 j p)
  busy (SentBack first ∷ older) fit honest j p = sent first older (busy older fit.1 honest.1 j p)
  busy (Asked w basis request given ∷ older) fit honest j p = same-busy (Asked w basis request given) older (λ h. h) refl (λ v. refl) (busy older fit.1 honest.1 j p)
  busy (Faulted w fault ∷ older) fit honest j p = same-busy (Faulted w fault) older (λ h. h) refl (λ v. refl) (busy older fit.1 honest.1 j p)
  busy (Ticked now ∷ older) fit honest j p = ticked now older (busy older fit.1 honest.1 j p)
  busy (Ended w basis end now ∷ older) fit honest j p = by (forgets_caches end) refl j p (λ j p. busy older fit.1 honest.1 j p)
    where
      by : (t : Bool) → forgets_caches end ≡ t → HasCacheSeen (unwrap_or (option_or (cond t (Some None) None) (newest (number_told Jobs) older)) None) a
          → HasCacheSeen (unwrap_or (option_or (cond t (Some None) None) (newest (number_told Pods) older)) None) b
          → (HasCacheSeen (number Jobs older) a → HasCacheSeen (number Pods older) b → IsBusy k a b older) → IsBusy k a b (Ended w basis end now ∷ older)
      by true s j p ih = absurd j
      by false s j p ih = ended w basis end now older fit.0 s honest.0 (ih j p)

-- ---- at rest

-- A key that is processing has a register.
pub record HasRegister (k : Key) (notes : List Note) : Type 0 where
  pub worker : ℕ
  pub basis : Basis
  pub is : register worker notes ≡ Some basis
  pub of_key : same_key basis.key k ≡ true

kept-register : (k : Key) (note : Note) (older : List Note) → ((w : ℕ) → register w (note ∷ older) ≡ register w older) → HasRegister k older → HasRegister k (note ∷ older)
kept-register k note older f h = record { worker = h.worker; basis = h.basis; is = f h.worker ∙ h.is; of_key = h.of_key }

pub processing-register : (k : Key) (notes : List Note) → AllFit notes → is_processing k notes ≡ true → HasRegister k notes
processing-register k [] fit e = absurd (true≢false (sym e))
processing-register k (Listed kind at keys ∷ older) fit e = kept-register k (Listed kind at keys) older (λ w. refl) (processing-register k older fit.1 e)
processing-register k (Told kind version key ∷ older) fit e = kept-register k (Told kind version key) older (λ w. refl) (processing-register k older fit.1 e)
processing-register k (Expired kind ∷ older) fit e = kept-register k (Expired kind) older (λ w. refl) (processing-register k older fit.1 e)
processing-register k (SentBack first ∷ older) fit e = kept-register k (SentBack first) older (λ w. refl) (processing-register k older fit.1 e)
processing-register k (Asked w basis request given ∷ older) fit e = kept-register k (Asked w basis request given) older (λ w. refl) (processing-register k older fit.1 e)
processing-register k (Faulted w fault ∷ older) fit e = kept-register k (Faulted w fault) older (λ w. refl) (processing-register k older fit.1 e)
processing-register k (Ticked now ∷ older) fit e = kept-register k (Ticked now) older (λ w. refl) (processing-register k older fit.1 e)
processing-register k (Began w basis ∷ older) fit e = by (same_key basis.key k) refl (sym (processing-began w basis older k) ∙ e) (λ e. processing-register k older fit.1 e)
  where
    at-test : (h : HasRegister k older) (t : Bool) → (w == h.worker) ≡ t → HasRegister k (Began w basis ∷ older)
    at-test h true s = absurd (true≢false (sym (ap is_some h.is) ∙ ap (λ v. is_some (register v older)) (sym (eqb-true w h.worker s)) ∙ ap is_some fit.0.0))
    at-test h false s = record { worker = h.worker; basis = h.basis; is = ap (λ t. unwrap_or (option_or (cond t (Some (Some basis)) None) (newest (register_told h.worker) older)) None) s ∙ h.is; of_key = h.of_key }

    by : (t : Bool) → same_key basis.key k ≡ t → (same_key basis.key k || is_processing k older) ≡ true → (is_processing k older ≡ true → HasRegister k older) → HasRegister k (Began w basis ∷ older)
    by true s e more = record { worker = w; basis = basis; is = ap (λ t. unwrap_or (option_or (cond t (Some (Some basis)) None) (newest (register_told w) older)) None) (eq-eqb w w refl); of_key = s }
    by false s e more = let h = more (ap (λ t. t || is_processing k older) (sym s) ∙ e) in at-test h (w == h.worker) refl
processing-register k (Ended w basis end now ∷ older) fit e = by (same_key basis.key k) refl (sym (processing-ended w basis end now older k) ∙ e) (λ e. processing-register k older fit.1 e)
  where
    at-test : same_key basis.key k ≡ false → (h : HasRegister k older) (t : Bool) → (w == h.worker) ≡ t → HasRegister k (Ended w basis end now ∷ older)
    at-test other h true s =
        let same : basis ≡ h.basis = ap (λ o. unwrap_or o basis) (sym fit.0 ∙ ap (λ v. register v older) (eqb-true w h.worker s) ∙ h.is) in
        absurd (true≢false (sym h.of_key ∙ ap (λ (z : Basis). same_key z.key k) (sym same) ∙ other))
    at-test other h false s = record { worker = h.worker; basis = h.basis; is = ap (λ t. unwrap_or (option_or (cond t (Some None) None) (newest (register_told h.worker) older)) None) s ∙ h.is; of_key = h.of_key }

    by : (t : Bool) → same_key basis.key k ≡ t → (not (same_key basis.key k) && is_processing k older) ≡ true → (is_processing k older ≡ true → HasRegister k older) → HasRegister k (Ended w basis end now ∷ older)
    by true s e more = absurd (true≢false (sym e ∙ ap (λ t. not t && is_processing k older) s))
    by false s e more = let h = more (ap (λ t. not t && is_processing k older) (sym s) ∙ e) in at-test s h (w == h.worker) refl

-- Who waits has come in.
in-append : (k : Key) (xs ys : List Key) → has_key k (xs ++ ys) ≡ (has_key k xs || has_key k ys)
in-append k xs ys = list_any-append (same_key k) xs ys

-- What a note does to a key.
record Turn (k : Key) (note : Note) (older : List Note) : Type 0 where
  dirty : is_dirty k (note ∷ older) ≡ true → (has_key k (adds note older) ≡ true) ⊎ (is_dirty k older ≡ true)
  processing : is_processing k (note ∷ older) ≡ false → is_processing k older ≡ true → has_key k (ends note) ≡ true
  adds_none : has_key k (ends note) ≡ true → adds note older ≡ []

a-turn : (k : Key) (note : Note) (older : List Note) → Turn k note older
a-turn k note older = record { dirty = dirty (has_key k (adds note older)) (gets note k) refl; processing = processing note; adds_none = adds-none note }
  where
    dirty : (a g : Bool) → has_key k (adds note older) ≡ a → (a || not g && is_dirty k older) ≡ true → (has_key k (adds note older) ≡ true) ⊎ (is_dirty k older ≡ true)
    dirty true g s e = inl s
    dirty false true s e = absurd (true≢false (sym e))
    dirty false false s e = inr e

    processing : (note : Note) → is_processing k (note ∷ older) ≡ false → is_processing k older ≡ true → has_key k (ends note) ≡ true
    processing (Ended w basis end now) e f = by (same_key basis.key k) refl (sym (processing-ended w basis end now older k) ∙ e)
      where
        by : (t : Bool) → same_key basis.key k ≡ t → (not (same_key basis.key k) && is_processing k older) ≡ false → (same_key k basis.key || false) ≡ true
        by true s e = or-left (same_key k basis.key) false (same_key-either_way k basis.key ∙ s)
        by false s e = absurd (true≢false (sym f ∙ ap (λ t. not t && is_processing k older) (sym s) ∙ e))
    processing (Began w basis) e f = absurd (true≢false (sym (or-right (same_key basis.key k) (is_processing k older) f) ∙ sym (processing-began w basis older k) ∙ e))
    processing (Listed kind at keys) e f = absurd (true≢false (sym f ∙ e))
    processing (Told kind version key) e f = absurd (true≢false (sym f ∙ e))
    processing (Expired kind) e f = absurd (true≢false (sym f ∙ e))
    processing (SentBack first) e f = absurd (true≢false (sym f ∙ e))
    processing (Asked w basis request given) e f = absurd (true≢false (sym f ∙ e))
    processing (Faulted w fault) e f = absurd (true≢false (sym f ∙ e))
    processing (Ticked now) e f = absurd (true≢false (sym f ∙ e))

    adds-none : (note : Note) → has_key k (ends note) ≡ true → adds note older ≡ []
    adds-none (Ended w basis end now) e = refl
    adds-none other e = absurd (true≢false (sym e))

pub waits-came : (k : Key) (notes : List Note) → is_dirty k notes ≡ true → is_processing k notes ≡ false → has_key k (comings notes) ≡ true
waits-came k [] d p = d
waits-came k (note ∷ older) d p = in-append k (comings older) (comers note older) ∙ by (is_processing k older) refl (is_dirty k older) refl (waits-came k older)
  where
    turn : Turn k note older
    turn = a-turn k note older

    came : (not (is_processing k older) && (gets note k || not (is_dirty k older))) ≡ true → has_key k (adds note older) ≡ true → has_key k (comers note older) ≡ true
    came c a =
        in-append k (once (filter (comes note older) (adds note older))) (filter (λ k. is_dirty k older) (ends note))
        ∙ or-left (has_key k (once (filter (comes note older) (adds note older)))) (has_key k (filter (λ k. is_dirty k older) (ends note)))
        (is_in-once k (filter (comes note older) (adds note older)) ∙ is_in-filter (comes note older) k (adds note older) ∙ (λ i. c i && a i))

    came-back : is_dirty k older ≡ true → has_key k (ends note) ≡ true → has_key k (comers note older) ≡ true
    came-back b e =
        in-append k (once (filter (comes note older) (adds note older))) (filter (λ k. is_dirty k older) (ends note))
        ∙ or-right (has_key k (once (filter (comes note older) (adds note older)))) (has_key k (filter (λ k. is_dirty k older) (ends note)))
        (is_in-filter (λ k. is_dirty k older) k (ends note) ∙ (λ i. b i && e i))

    always : (g : Bool) → (g || true) ≡ true
    always true = refl
    always false = refl

    by : (b : Bool) → is_processing k older ≡ b → (c : Bool) → is_dirty k older ≡ c → (is_dirty k older ≡ true → is_processing k older ≡ false → has_key k (comings older) ≡ true) → (has_key k (comings older) || has_key k (comers note older)) ≡ true
    by false s true t ih = or-left (has_key k (comings older)) (has_key k (comers note older)) (ih t s)
    by false s false t ih = on (turn.dirty d)
      where
        on : (has_key k (adds note older) ≡ true) ⊎ (is_dirty k older ≡ true) → (has_key k (comings older) || has_key k (comers note older)) ≡ true
        on (inl a) = or-right (has_key k (comings older)) (has_key k (comers note older)) (came ((λ i. not (s i) && (gets note k || not (t i))) ∙ always (gets note k)) a)
        on (inr e) = absurd (true≢false (sym e ∙ t))
    by true s c t ih = on (turn.dirty d)
      where
        over : has_key k (ends note) ≡ true
        over = turn.processing p s

        on : (has_key k (adds note older) ≡ true) ⊎ (is_dirty k older ≡ true) → (has_key k (comings older) || has_key k (comers note older)) ≡ true
        on (inl a) = absurd (true≢false (sym a ∙ ap (has_key k) (turn.adds_none over)))
        on (inr e) = or-right (has_key k (comings older)) (has_key k (comers note older)) (came-back e over)

in-last_of : (k : Key) (keys : List Key) → has_key k keys ≡ true → has_key k (last_of keys) ≡ true
in-last_of k [] e = e
in-last_of k (j ∷ keys) e = by (same_key k j) refl (has_key j keys) refl e (in-last_of k keys)
  where
    by : (b : Bool) → same_key k j ≡ b → (c : Bool) → has_key j keys ≡ c → (same_key k j || has_key k keys) ≡ true → (has_key k keys ≡ true → has_key k (last_of keys) ≡ true) → has_key k (cond c (last_of keys) (j ∷ last_of keys)) ≡ true
    by true s true t e more = more (ap (λ x. has_key x keys) (same_key-eq k j s) ∙ t)
    by true s false t e more = or-left (same_key k j) (has_key k (last_of keys)) s
    by false s true t e more = more (ap (λ b. b || has_key k keys) (sym s) ∙ e)
    by false s false t e more = or-right (same_key k j) (has_key k (last_of keys)) (more (ap (λ b. b || has_key k keys) (sym s) ∙ e))

-- Where no key is in line and no register in use no key is dirty.
pub none-dirty : (notes : List Note) → AllFit notes → line notes ≡ [] → ((w : ℕ) → register w notes ≡ None) → (k : Key) → is_dirty k notes ≡ false
none-dirty notes fit empty free k = by (is_dirty k notes) refl (is_processing k notes) refl
  where
    by : (b : Bool) → is_dirty k notes ≡ b → (c : Bool) → is_processing k notes ≡ c → is_dirty k notes ≡ false
    by false s c t = s
    by true s true t = let h = processing-register k notes fit t in absurd (true≢false (sym (ap is_some h.is) ∙ ap is_some (free h.worker)))
    by true s false t =
        absurd (true≢false
        (sym (is_in-filter (λ k. waits k notes) k (last_of (comings notes)) ∙ (λ i. (s i && not (t i)) && in-last_of k (comings notes) (waits-came k notes s t) i))
        ∙ ap (has_key k) empty))

-- So a controller at rest is not busy.
pub not-busy : (k : Key) (a b : ℕ) (notes : List Note) → AllFit notes → line notes ≡ [] → ((w : ℕ) → register w notes ≡ None) → ((k : Key) → delay k notes ≡ None) → IsBusy k a b notes → ⊥
not-busy k a b notes fit empty free none (Dirty h) = true≢false (sym h ∙ none-dirty notes fit empty free k)
not-busy k a b notes fit empty free none (Waiting h) = true≢false (sym h ∙ ap is_some (none k))
not-busy k a b notes fit empty free none (Syncing w basis r same x y) = true≢false (sym (ap is_some r) ∙ ap is_some (free w))
