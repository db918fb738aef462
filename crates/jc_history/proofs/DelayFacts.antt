-- The delays of keys as their notes say, and what the turns of a controller make of them.
use Rattle.std.proofs.Common.{◌≡◌, ℕ, ◌+◌, Bool, true, false, cond, not, ◌||◌, nat_le, nat_lt, min, List, [], ◌∷◌, length, filter, Option, Some, None, refl, sym, ap, ◌∙◌, arith, true≢false}
use Rattle.std.specs.List.{AllByRecursion as Each, IsDistinct, cons_option, filter_map}
use Rattle.std.specs.Map.{keys_of}
use Rattle.std.specs.Option.{option_map, unwrap_or}
use Rattle.jc_control.specs.declared.ends.SyncEnd.{SyncEnd}
use Rattle.jc_control.specs.declared.ends.SyncEnd.TheVariants as end
use Rattle.jc_control.specs.ControllerCalls.{delays_after}
use Rattle.jc_moment.specs.Range.{end_of_moments}
use Rattle.jc_states.specs.declared.bases.Basis.{Basis}
use Rattle.jc_types.specs.declared.objects.KeyNames.{KeyNames as Key}
use Rattle.jc_types.specs.Keys.{same_key}
use Rattle.jc_log.specs.Tables.{at, puts, takes}
use Rattle.jc_types.proofs.KeyFacts.{same_key-either_way, same_key-eq, same_key-itself}
use Rattle.jc_types.proofs.ListFacts.{Each-filter}
use Rattle.jc_log.proofs.TableFacts.{Apart, Sets-puts, Sets-takes, at_none}
use Rattle.jc_queue.specs.Delayed.{Delayed, delayed, delayed_within, due_keys, earlier, failed, failure_count_after, is_due, left_after, retried, seconds_after}
use Rattle.jc_queue.specs.Queued.{has_key}
use Rattle.jc_history.specs.Delays.{added_by_end, tries_after, delay, delays, keys_due, ended_key, failures, if_moment, not_come, tries, earlier_if}
use Rattle.jc_history.specs.KeyLists.{once}
use Rattle.jc_history.specs.Notes.{Note, Listed, Told, Expired, Began, SentBack, Asked, Ended, Faulted, Ticked}
use Rattle.jc_history.proofs.KeyFacts.{distinct-once, is_in-once}
use Rattle.jc_queue.proofs.OrderFacts.{in_turn-same}

-- ---- rows by key

abbrev pub kept : (Key × ℕ → Bool) → Key → Option ℕ → Option ℕ
kept p k None = None
kept p k (Some moment) = cond (p (k, moment)) (Some moment) None

pub at-filter : (p : Key × ℕ → Bool) (rows : List (Key × ℕ)) (k : Key) → Apart same_key rows → at same_key (filter p rows) k ≡ kept p k (at same_key rows k)
at-filter p [] k a = refl
at-filter p (row ∷ rows) k a = by (same_key k row.0) refl (p row) refl (at-filter p rows k a.1)
  where
    others : same_key k row.0 ≡ true → (some : List (Key × ℕ)) → Each (λ other. same_key row.0 other.0 ≡ false) some → Each (λ other. same_key k other.0 ≡ false) some
    others t [] h = tt
    others t (x ∷ some) h = (ap (λ z. same_key z x.0) (same_key-eq k row.0 t) ∙ h.0, others t some h.1)

    by : (m : Bool) → same_key k row.0 ≡ m → (b : Bool) → p row ≡ b → at same_key (filter p rows) k ≡ kept p k (at same_key rows k)
        → at same_key (cond b (row ∷ filter p rows) (filter p rows)) k ≡ kept p k (cond m (Some row.1) (at same_key rows k))
    by true t true q ih =
        ap (λ m. cond m (Some row.1) (at same_key (filter p rows) k)) t
        ∙ sym (ap (λ b. cond b (Some row.1) None) (ap (λ z. p (z, row.1)) (same_key-eq k row.0 t) ∙ q))
    by true t false q ih =
        at_none same_key same_key-eq same_key-itself k (filter p rows) (Each-filter (λ other. same_key k other.0 ≡ false) p rows (others t rows a.0))
        ∙ sym (ap (λ b. cond b (Some row.1) None) (ap (λ z. p (z, row.1)) (same_key-eq k row.0 t) ∙ q))
    by false t true q ih = ap (λ m. cond m (Some row.1) (at same_key (filter p rows) k)) t ∙ ih
    by false t false q ih = ih

pub apart-filter : (p : Key × ℕ → Bool) (rows : List (Key × ℕ)) → Apart same_key rows → Apart same_key (filter p rows)
apart-filter p [] a = tt
apart-filter p (row ∷ rows) a = by (p row) (apart-filter p rows a.1)
  where
    by : (b : Bool) → Apart same_key (filter p rows) → Apart same_key (cond b (row ∷ filter p rows) (filter p rows))
    by true rest = (Each-filter (λ other. same_key row.0 other.0 ≡ false) p rows a.0, rest)
    by false rest = rest

-- Rows of these keys where there is a moment.
abbrev pub rows_of : (Key → Option ℕ) → List Key → List (Key × ℕ)
rows_of f keys = filter_map (λ k. option_map (λ moment. (k, moment)) (f k)) keys

-- With a row for the key, where there is a moment.
abbrev rows_with : Key → Option ℕ → List (Key × ℕ) → List (Key × ℕ)
rows_with k o rows = cons_option (option_map (λ moment. (k, moment)) o) rows

pub at-rows : (f : Key → Option ℕ) (keys : List Key) (k : Key) → at same_key (rows_of f keys) k ≡ cond (has_key k keys) (f k) None
at-rows f [] k = refl
at-rows f (x ∷ keys) k = by (f x) refl (same_key k x) refl (at-rows f keys k)
  where
    none : (b : Bool) → cond {A = Option ℕ} b None None ≡ None
    none true = refl
    none false = refl

    by : (o : Option ℕ) → f x ≡ o → (m : Bool) → same_key k x ≡ m → at same_key (rows_of f keys) k ≡ cond (has_key k keys) (f k) None
        → at same_key (rows_with x o (rows_of f keys)) k ≡ cond (m || has_key k keys) (f k) None
    by None e true t ih = ih ∙ ap (λ o. cond (has_key k keys) o None) (ap f (same_key-eq k x t) ∙ e) ∙ none (has_key k keys) ∙ sym (ap f (same_key-eq k x t) ∙ e)
    by None e false t ih = ih
    by (Some moment) e true t ih = ap (λ m. cond m (Some moment) (at same_key (rows_of f keys) k)) t ∙ sym (ap f (same_key-eq k x t) ∙ e)
    by (Some moment) e false t ih = ap (λ m. cond m (Some moment) (at same_key (rows_of f keys) k)) t ∙ ih

pub apart-rows : (f : Key → Option ℕ) (keys : List Key) → IsDistinct same_key keys → Apart same_key (rows_of f keys)
unfolding IsDistinct
apart-rows f [] d = tt
apart-rows f (x ∷ keys) d = by (f x) (apart-rows f keys d.1)
  where
    others : (some : List Key) → Each (λ y. same_key x y ≡ false) some → Each (λ other. same_key x other.0 ≡ false) (rows_of f some)
    others [] h = tt
    others (y ∷ some) h = go (f y) (others some h.1)
      where
        go : (o : Option ℕ) → Each (λ other. same_key x other.0 ≡ false) (rows_of f some) → Each (λ other. same_key x other.0 ≡ false) (rows_with y o (rows_of f some))
        go None rest = rest
        go (Some moment) rest = (h.0, rest)

    by : (o : Option ℕ) → Apart same_key (rows_of f keys) → Apart same_key (rows_with x o (rows_of f keys))
    by None rest = rest
    by (Some moment) rest = (others keys d.0, rest)

-- ---- the delays of all keys

-- A key none of whose syncs has ended is not delayed.
none-ended : (k : Key) (notes : List Note) → has_key k (filter_map ended_key notes) ≡ false → delay k notes ≡ None
none-ended k [] h = refl
none-ended k (Listed kind at keys ∷ older) h = none-ended k older h
none-ended k (Told kind version key ∷ older) h = none-ended k older h
none-ended k (Expired kind ∷ older) h = none-ended k older h
none-ended k (Began worker basis ∷ older) h = none-ended k older h
none-ended k (SentBack first ∷ older) h = none-ended k older h
none-ended k (Asked worker basis request answer ∷ older) h = none-ended k older h
none-ended k (Faulted worker fault ∷ older) h = none-ended k older h
none-ended k (Ticked now ∷ older) h = ap (λ o. earlier_if (not_come now o) None) (none-ended k older h)
none-ended k (Ended worker basis end now ∷ older) h =
    (λ i. earlier_if (none-ended k older (right h) i) (cond ((same_key-either_way basis.key k ∙ left h) i) (added_by_end end now (min (tries k older + 1) 7)) None))
  where
    left : (same_key k basis.key || has_key k (filter_map ended_key older)) ≡ false → same_key k basis.key ≡ false
    left h = by (same_key k basis.key) h
      where
        by : (m : Bool) → (m || has_key k (filter_map ended_key older)) ≡ false → m ≡ false
        by true h = h
        by false h = refl

    right : (same_key k basis.key || has_key k (filter_map ended_key older)) ≡ false → has_key k (filter_map ended_key older) ≡ false
    right h = by (same_key k basis.key) h
      where
        by : (m : Bool) → (m || has_key k (filter_map ended_key older)) ≡ false → has_key k (filter_map ended_key older) ≡ false
        by true h = absurd (true≢false h)
        by false h = h

pub at-delays : (notes : List Note) (k : Key) → at same_key (delays notes) k ≡ delay k notes
at-delays notes k = at-rows (λ k. delay k notes) (once (filter_map ended_key notes)) k ∙ by (has_key k (once (filter_map ended_key notes))) refl
  where
    by : (b : Bool) → has_key k (once (filter_map ended_key notes)) ≡ b → cond b (delay k notes) None ≡ delay k notes
    by true h = refl
    by false h = sym (none-ended k notes (sym (is_in-once k (filter_map ended_key notes)) ∙ h))

pub apart-delays : (notes : List Note) → Apart same_key (delays notes)
apart-delays notes = apart-rows (λ k. delay k notes) (once (filter_map ended_key notes)) (distinct-once (filter_map ended_key notes))

-- The keys that are due.
pub due_is : (now : ℕ) (notes : List Note) (d : Delayed) → Apart same_key d.moments → ((k : Key) → at same_key d.moments k ≡ delay k notes) → keys_due now notes ≡ due_keys d now
due_is now notes d a e =
    ap keys_of
    (in_turn-same (length (filter (is_due now) (delays notes))) (filter (is_due now) (delays notes)) (filter (is_due now) d.moments) (omega arith)
    (apart-filter (is_due now) (delays notes) (apart-delays notes)) (apart-filter (is_due now) d.moments a)
    (λ k. at-filter (is_due now) (delays notes) k (apart-delays notes) ∙ ap (kept (is_due now) k) (at-delays notes k ∙ sym (e k)) ∙ sym (at-filter (is_due now) d.moments k a)))

-- ---- the turns

-- The clock takes out what has come.
pub delay-ticked : (now : ℕ) (older : List Note) (d : Delayed) → Apart same_key d.moments → ((k : Key) → at same_key d.moments k ≡ delay k older) → (k : Key) → at same_key (left_after d now).moments k ≡ delay k (Ticked now ∷ older)
delay-ticked now older d a e k = at-filter (λ row. not (is_due now row)) d.moments k a ∙ ap (kept (λ row. not (is_due now row)) k) (e k) ∙ by (delay k older)
  where
    by : (o : Option ℕ) → kept (λ row. not (is_due now row)) k o ≡ not_come now o
    by None = refl
    by (Some moment) = at_test (nat_le moment now)
      where
        at_test : (b : Bool) → cond (not b) (Some moment) None ≡ cond b None (Some moment)
        at_test true = refl
        at_test false = refl

-- The number of failures that counts.
counts : (t : ℕ) → min (min t 7 + 1) 7 ≡ min (t + 1) 7
counts t = omega arith

module _ (basis : Basis) (older : List Note) (d : Delayed) (worker : ℕ) (now : ℕ) (a : Apart same_key d.moments) (b : Apart same_key d.failures)
    (e : (k : Key) → at same_key d.moments k ≡ delay k older) (f : (k : Key) → unwrap_or (at same_key d.failures k) 0 ≡ failures k older) where
  failed-count : failure_count_after d basis.key ≡ min (tries basis.key older + 1) 7
  failed-count = ap (λ n. min (n + 1) 7) (f basis.key) ∙ counts (tries basis.key older)

  -- A moment that is added.
  moment-added : (moment : ℕ) (k : Key) → at same_key (delayed d basis.key moment).moments k ≡ earlier_if (delay k older) (cond (same_key basis.key k) (Some moment) None)
  moment-added moment k =
      Sets-puts same_key same_key-eq same_key-itself basis.key (earlier (at same_key d.moments basis.key) moment) d.moments k
      ∙ by (same_key basis.key k) refl
    where
      by : (m : Bool) → same_key basis.key k ≡ m → cond m (Some (earlier (at same_key d.moments basis.key) moment)) (at same_key d.moments k) ≡ earlier_if (delay k older) (cond m (Some moment) None)
      by true t = ap (λ o. Some (earlier o moment)) (ap (at same_key d.moments) (same_key-eq basis.key k t) ∙ e k)
      by false t = e k

  none-added : (k : Key) → delay k older ≡ earlier_if (delay k older) (cond (same_key basis.key k) None None)
  none-added k = by (same_key basis.key k)
    where
      by : (m : Bool) → delay k older ≡ earlier_if (delay k older) (cond m None None)
      by true = refl
      by false = refl

  -- The number of tries is that of the key itself.
  own-tries : (k : Key) (g : ℕ → Option ℕ) → cond (same_key basis.key k) (g (min (tries basis.key older + 1) 7)) None ≡ cond (same_key basis.key k) (g (min (tries k older + 1) 7)) None
  own-tries k g = by (same_key basis.key k) refl
    where
      by : (m : Bool) → same_key basis.key k ≡ m → cond m (g (min (tries basis.key older + 1) 7)) None ≡ cond m (g (min (tries k older + 1) 7)) None
      by true t = ap (λ z. g (min (tries z older + 1) 7)) (same_key-eq basis.key k t)
      by false t = refl

  retry-moment : (k : Key) → at same_key (retried d basis.key now).moments k ≡ earlier_if (delay k older) (cond (same_key basis.key k) (if_moment (now + seconds_after (min (tries k older + 1) 7))) None)
  retry-moment k =
      ap (λ n. at same_key (delayed_within (failed d basis.key) basis.key (now + seconds_after n)).moments k) failed-count
      ∙ by (nat_lt (now + seconds_after (min (tries basis.key older + 1) 7)) end_of_moments)
      ∙ ap (earlier_if (delay k older)) (own-tries k (λ n. if_moment (now + seconds_after n)))
    where
      by : (t : Bool) → at same_key (cond {A = Delayed} t (delayed (failed d basis.key) basis.key (now + seconds_after (min (tries basis.key older + 1) 7))) (failed d basis.key)).moments k
          ≡ earlier_if (delay k older) (cond (same_key basis.key k) (cond t (Some (now + seconds_after (min (tries basis.key older + 1) 7))) None) None)
      by true = moment-added (now + seconds_after (min (tries basis.key older + 1) 7)) k
      by false = e k ∙ none-added k

  -- The moments after an end.
  pub delay-ended : (end : SyncEnd) (k : Key) → at same_key (delays_after d basis.key end now).moments k ≡ delay k (Ended worker basis end now ∷ older)
  delay-ended (end.Ended None) k = e k ∙ none-added k
  delay-ended (end.Ended (Some moment)) k = moment-added moment k
  delay-ended end.Retry k = retry-moment k
  delay-ended end.Gone k = e k ∙ none-added k
  delay-ended end.Unavailable k = retry-moment k

  -- One more failure of the key.
  failures-more : (k : Key) → unwrap_or (at same_key (puts same_key d.failures basis.key (failure_count_after d basis.key)) k) 0 ≡ min (tries_after (cond (same_key basis.key k) (Some true) None) (tries k older)) 7
  failures-more k =
      ap (λ o. unwrap_or o 0) (Sets-puts same_key same_key-eq same_key-itself basis.key (failure_count_after d basis.key) d.failures k) ∙ by (same_key basis.key k) refl
    where
      by : (m : Bool) → same_key basis.key k ≡ m → unwrap_or (cond m (Some (failure_count_after d basis.key)) (at same_key d.failures k)) 0 ≡ min (tries_after (cond m (Some true) None) (tries k older)) 7
      by true t = failed-count ∙ ap (λ z. min (tries z older + 1) 7) (same_key-eq basis.key k t)
      by false t = f k

  failures-none : (k : Key) → unwrap_or (at same_key (takes same_key d.failures basis.key) k) 0 ≡ min (tries_after (cond (same_key basis.key k) (Some false) None) (tries k older)) 7
  failures-none k =
      ap (λ o. unwrap_or o 0) (Sets-takes same_key same_key-eq same_key-itself basis.key d.failures b k) ∙ by (same_key basis.key k)
    where
      by : (m : Bool) → unwrap_or (cond m None (at same_key d.failures k)) 0 ≡ min (tries_after (cond m (Some false) None) (tries k older)) 7
      by true = refl
      by false = f k

  retry-failures : (k : Key) → unwrap_or (at same_key (retried d basis.key now).failures k) 0 ≡ min (tries_after (cond (same_key basis.key k) (Some true) None) (tries k older)) 7
  retry-failures k = by (nat_lt (now + seconds_after (failure_count_after d basis.key)) end_of_moments)
    where
      by : (t : Bool) → unwrap_or (at same_key (cond {A = Delayed} t (delayed (failed d basis.key) basis.key (now + seconds_after (failure_count_after d basis.key))) (failed d basis.key)).failures k) 0
          ≡ min (tries_after (cond (same_key basis.key k) (Some true) None) (tries k older)) 7
      by true = failures-more k
      by false = failures-more k

  pub failures-ended : (end : SyncEnd) (k : Key) → unwrap_or (at same_key (delays_after d basis.key end now).failures k) 0 ≡ failures k (Ended worker basis end now ∷ older)
  failures-ended (end.Ended None) k = failures-none k
  failures-ended (end.Ended (Some moment)) k = failures-none k
  failures-ended end.Retry k = retry-failures k
  failures-ended end.Gone k = failures-none k
  failures-ended end.Unavailable k = retry-failures k
