-- The line after one more note.
use Rattle.std.proofs.Common.{◌≡◌, ℕ, Bool, true, false, cond, not, ◌&&◌, ◌||◌, List, [], ◌∷◌, ◌++◌, filter, refl, sym, ap, ◌∙◌, true≢false}
use Rattle.std.specs.List.{AllByRecursion as Each, IsDistinct}
use Rattle.std.specs.Option.{option_or, unwrap_or}
use Rattle.std.specs.Prelude.{Option, Some, None}
use Rattle.std.proofs.lemmas.List.Elements.{filter-append, filter_agree}
use Rattle.jc_control.specs.declared.ends.SyncEnd.{SyncEnd}
use Rattle.jc_states.specs.declared.bases.Basis.{Basis}
use Rattle.jc_types.specs.declared.objects.KeyNames.{KeyNames as Key}
use Rattle.jc_types.specs.Keys.{same_key}
use Rattle.jc_types.proofs.KeyFacts.{same_key-eq, same_key-itself, same_key-either_way}
use Rattle.jc_types.proofs.ListFacts.{Each-weaker, filter_filter, filter_same}
use Rattle.jc_queue.specs.Queued.{has_key}
use Rattle.jc_history.specs.KeyLists.{once, last_of}
use Rattle.jc_history.specs.Lines.{OnlyAdds, begins_or_ends, comers, comes, comings, is_dirty, is_processing, line, waits}
use Rattle.jc_history.specs.Notes.{Note, Began, SentBack, Ended, newest}
use Rattle.jc_history.proofs.KeyFacts.{distinct-filter, distinct-once, each_in, filter-all, is_in-filter, is_in-once, last_of-append, last_of-distinct}
use Rattle.std.proofs.Math.Bool.{or-false as or-none}

-- ---- one more note

-- All keys pass.
each-all : (p : Key → Bool) (keys : List Key) → Each (λ k. p k ≡ true) keys → filter p keys ≡ keys
each-all p keys h = filter_same p (λ k. true) keys h ∙ filter-all keys

-- The line after a note by which these keys come in: those of the line that stay, and then these.
pub line-step : (note : Note) (older : List Note) (keys : List Key) (stays : Key → Bool) → comers note older ≡ keys → IsDistinct same_key keys
    → ((k : Key) → (not (has_key k keys) && waits k (note ∷ older)) ≡ (waits k older && stays k))
    → ((k : Key) → has_key k keys ≡ true → waits k (note ∷ older) ≡ true)
    → line (note ∷ older) ≡ filter stays (line older) ++ keys
line-step note older keys stays come once stay wait =
    ap (λ more. filter (λ k. waits k (note ∷ older)) (last_of (comings older ++ more))) come
    ∙ ap (filter (λ k. waits k (note ∷ older))) (last_of-append (comings older) keys ∙ ap (λ more. filter (λ k. not (has_key k keys)) (last_of (comings older)) ++ more) (last_of-distinct keys once))
    ∙ filter-append (λ k. waits k (note ∷ older)) (filter (λ k. not (has_key k keys)) (last_of (comings older))) keys
    ∙ (λ i. old i ++ new i)
  where
    old : filter (λ k. waits k (note ∷ older)) (filter (λ k. not (has_key k keys)) (last_of (comings older))) ≡ filter stays (line older)
    old =
        filter_filter (λ k. waits k (note ∷ older)) (λ k. not (has_key k keys)) (last_of (comings older))
        ∙ filter_agree _ _ stay (last_of (comings older))
        ∙ sym (filter_filter stays (λ k. waits k older) (last_of (comings older)))

    new : filter (λ k. waits k (note ∷ older)) keys ≡ keys
    new = each-all (λ k. waits k (note ∷ older)) keys (Each-weaker (λ k. has_key k keys ≡ true) (λ k. waits k (note ∷ older) ≡ true) wait keys (each_in keys))

-- ---- keys are added

-- Those that are neither processing nor dirty come in, each once.
abbrev pub fresh : List Note → Key → Bool
fresh older k = not (is_processing k older) && not (is_dirty k older)

stay-added : (i d p : Bool) → (not ((not p && not d) && i) && ((i || d) && not p)) ≡ ((d && not p) && true)
stay-added true true true = refl
stay-added true true false = refl
stay-added true false true = refl
stay-added true false false = refl
stay-added false true true = refl
stay-added false true false = refl
stay-added false false true = refl
stay-added false false false = refl

wait-added : (i d p : Bool) → ((not p && not d) && i) ≡ true → ((i || d) && not p) ≡ true
wait-added true true true h = h
wait-added true true false h = refl
wait-added true false true h = h
wait-added true false false h = refl
wait-added false true true h = h
wait-added false true false h = refl
wait-added false false true h = h
wait-added false false false h = absurd (true≢false (sym h))

module _ (note : Note) (older : List Note) (keys : List Key) (h : OnlyAdds note older keys) where
  pub dirty-added : (k : Key) → is_dirty k (note ∷ older) ≡ (has_key k keys || is_dirty k older)
  dirty-added k = (λ i. has_key k (h.added i) || not (h.got k i) && is_dirty k older)

  pub processing-added : (k : Key) → is_processing k (note ∷ older) ≡ is_processing k older
  processing-added k = ap (λ o. unwrap_or (option_or o (newest (begins_or_ends k) older)) false) (h.neither k)

  comes-added : (k : Key) → comes note older k ≡ fresh older k
  comes-added k = ap (λ b. not (is_processing k older) && (b || not (is_dirty k older))) (h.got k)

  comers-added : comers note older ≡ once (filter (fresh older) keys)
  comers-added =
      (λ i. once (filter (comes note older) (h.added i)) ++ filter (λ k. is_dirty k older) (h.ended i))
      ∙ append-none (once (filter (comes note older) keys)) ∙ ap once (filter_agree _ _ comes-added keys)
    where
      append-none : (some : List Key) → some ++ [] ≡ some
      append-none [] = refl
      append-none (k ∷ some) = ap (λ rest. k ∷ rest) (append-none some)

  in-comers : (k : Key) → has_key k (once (filter (fresh older) keys)) ≡ (fresh older k && has_key k keys)
  in-comers k = is_in-once k (filter (fresh older) keys) ∙ is_in-filter (fresh older) k keys

  waits-added : (k : Key) → waits k (note ∷ older) ≡ ((has_key k keys || is_dirty k older) && not (is_processing k older))
  waits-added k = λ i. dirty-added k i && not (processing-added k i)

  -- They come last.
  pub line-added : line (note ∷ older) ≡ line older ++ once (filter (fresh older) keys)
  line-added =
      line-step note older (once (filter (fresh older) keys)) (λ k. true) comers-added (distinct-once (filter (fresh older) keys))
      (λ k. (λ i. not (in-comers k i) && waits-added k i) ∙ stay-added (has_key k keys) (is_dirty k older) (is_processing k older))
      (λ k e. waits-added k ∙ wait-added (has_key k keys) (is_dirty k older) (is_processing k older) (sym (in-comers k) ∙ e))
      ∙ ap (λ front. front ++ once (filter (fresh older) keys)) (filter-all (line older))

-- ---- the begin of a sync

-- What is told for one key, and else what was told before.
told-key : (m x : Bool) (o : Option Bool) → unwrap_or (option_or (cond m (Some x) None) o) false ≡ cond m x (unwrap_or o false)
told-key true x o = refl
told-key false x o = refl

pub processing-began : (worker : ℕ) (basis : Basis) (older : List Note) (k : Key) → is_processing k (Began worker basis ∷ older) ≡ (same_key basis.key k || is_processing k older)
processing-began worker basis older k = told-key (same_key basis.key k) true (newest (begins_or_ends k) older) ∙ by (same_key basis.key k)
  where
    by : (m : Bool) → cond m true (is_processing k older) ≡ (m || is_processing k older)
    by true = refl
    by false = refl

began-waits : (m d p : Bool) → ((not m && d) && not (m || p)) ≡ ((d && not p) && not m)
began-waits true true true = refl
began-waits true true false = refl
began-waits true false true = refl
began-waits true false false = refl
began-waits false true true = refl
began-waits false true false = refl
began-waits false false true = refl
began-waits false false false = refl

append-nothing : (keys : List Key) → keys ++ [] ≡ keys
append-nothing [] = refl
append-nothing (k ∷ keys) = ap (λ rest. k ∷ rest) (append-nothing keys)

nothing : IsDistinct same_key []
unfolding IsDistinct
nothing = tt

-- The key leaves the line.
pub line-began : (worker : ℕ) (basis : Basis) (older : List Note) → line (Began worker basis ∷ older) ≡ filter (λ k. not (same_key basis.key k)) (line older)
line-began worker basis older =
    line-step (Began worker basis) older [] (λ k. not (same_key basis.key k)) refl nothing
    (λ k. ap (λ p. (not (same_key basis.key k) && is_dirty k older) && not p) (processing-began worker basis older k) ∙ began-waits (same_key basis.key k) (is_dirty k older) (is_processing k older))
    (λ k e. absurd (true≢false (sym e)))
    ∙ append-nothing (filter (λ k. not (same_key basis.key k)) (line older))

-- ---- a key is sent back

sent-stays : (m d p : Bool) → (not (m || false) && (((m || false) || (not m && d)) && not p)) ≡ ((d && not p) && not m)
sent-stays true true true = refl
sent-stays true true false = refl
sent-stays true false true = refl
sent-stays true false false = refl
sent-stays false true true = refl
sent-stays false true false = refl
sent-stays false false true = refl
sent-stays false false false = refl

distinct-one : (k : Key) → IsDistinct same_key (k ∷ [])
unfolding IsDistinct
distinct-one k = (tt, tt)

pub dirty-sent : (first : Key) (older : List Note) (k : Key) → is_dirty first older ≡ true → is_dirty k (SentBack first ∷ older) ≡ is_dirty k older
dirty-sent first older k d = by (same_key k first) refl (same_key first k) (same_key-either_way first k)
  where
    by : (m : Bool) → same_key k first ≡ m → (n : Bool) → n ≡ same_key k first → ((m || false) || (not n && is_dirty k older)) ≡ is_dirty k older
    by true s n e = sym (ap (λ z. is_dirty z older) (same_key-eq k first s) ∙ d)
    by false s n e = ap (λ c. not c && is_dirty k older) (e ∙ s)

-- A key that waits and is sent back goes last.
pub line-sent : (first : Key) (older : List Note) → is_processing first older ≡ false → line (SentBack first ∷ older) ≡ filter (λ k. not (same_key first k)) (line older) ++ first ∷ []
line-sent first older idle =
    line-step (SentBack first) older (first ∷ []) (λ k. not (same_key first k)) comes-back (distinct-one first)
    (λ k. ap (λ m. not (m || false) && (((m || false) || (not (same_key first k) && is_dirty k older)) && not (is_processing k older))) (same_key-either_way k first)
    ∙ sent-stays (same_key first k) (is_dirty k older) (is_processing k older))
    (λ k e. waiting k (sym (or-none (same_key k first)) ∙ e))
  where
    comes-back : comers (SentBack first) older ≡ first ∷ []
    comes-back =
        (λ i. once (cond (not (idle i) && (same_key-itself first i || not (is_dirty first older))) (first ∷ []) []) ++ [])

    waiting : (k : Key) → same_key k first ≡ true → waits k (SentBack first ∷ older) ≡ true
    waiting k s =
        ap (λ z. ((same_key z first || false) || (not (same_key first z) && is_dirty z older)) && not (is_processing z older)) (same_key-eq k first s)
        ∙ (λ i. ((same_key-itself first i || false) || (not (same_key first first) && is_dirty first older)) && not (idle i))

-- ---- the end of a sync

pub processing-ended : (worker : ℕ) (basis : Basis) (end : SyncEnd) (now : ℕ) (older : List Note) (k : Key) → is_processing k (Ended worker basis end now ∷ older) ≡ (not (same_key basis.key k) && is_processing k older)
processing-ended worker basis end now older k = told-key (same_key basis.key k) false (newest (begins_or_ends k) older) ∙ by (same_key basis.key k)
  where
    by : (m : Bool) → cond m false (is_processing k older) ≡ (not m && is_processing k older)
    by true = refl
    by false = refl

-- A key that was dirty comes in at the end of its sync.
pub line-ended : (worker : ℕ) (basis : Basis) (end : SyncEnd) (now : ℕ) (older : List Note) → is_processing basis.key older ≡ true
    → line (Ended worker basis end now ∷ older) ≡ cond (is_dirty basis.key older) (line older ++ basis.key ∷ []) (line older)
line-ended worker basis end now older busy =
    line-step (Ended worker basis end now) older (filter (λ k. is_dirty k older) (basis.key ∷ [])) (λ k. true) refl (distinct-filter (λ k. is_dirty k older) (basis.key ∷ []) (distinct-one basis.key))
    (λ k. (λ i. not (is_in-filter (λ k. is_dirty k older) k (basis.key ∷ []) i) && (is_dirty k older && not (processing-ended worker basis end now older k i))) ∙ stay k (same_key basis.key k) refl)
    (λ k e. ap (λ p. is_dirty k older && not p) (processing-ended worker basis end now older k) ∙ wait k (same_key basis.key k) refl (sym (is_in-filter (λ k. is_dirty k older) k (basis.key ∷ [])) ∙ e))
    ∙ ap (λ front. front ++ filter (λ k. is_dirty k older) (basis.key ∷ [])) (filter-all (line older))
    ∙ last (is_dirty basis.key older)
  where
    stay : (k : Key) (m : Bool) → same_key basis.key k ≡ m → (not (is_dirty k older && (same_key k basis.key || false)) && (is_dirty k older && not (not m && is_processing k older))) ≡ ((is_dirty k older && not (is_processing k older)) && true)
    stay k true s =
        (λ i. not (is_dirty k older && ((same_key-either_way k basis.key ∙ s) i || false)) && (is_dirty k older && true))
        ∙ none (is_dirty k older) ∙ sym (ap (λ p. (is_dirty k older && not p) && true) (ap (λ z. is_processing z older) (sym (same_key-eq basis.key k s)) ∙ busy) ∙ nor (is_dirty k older))
      where
        none : (d : Bool) → (not (d && true) && (d && true)) ≡ false
        none true = refl
        none false = refl

        nor : (d : Bool) → ((d && false) && true) ≡ false
        nor true = refl
        nor false = refl
    stay k false s =
        (λ i. not (is_dirty k older && ((same_key-either_way k basis.key ∙ s) i || false)) && (is_dirty k older && not (is_processing k older)))
        ∙ same (is_dirty k older) (is_processing k older)
      where
        same : (d p : Bool) → (not (d && false) && (d && not p)) ≡ ((d && not p) && true)
        same true true = refl
        same true false = refl
        same false p = refl

    wait : (k : Key) (m : Bool) → same_key basis.key k ≡ m → (is_dirty k older && (same_key k basis.key || false)) ≡ true → (is_dirty k older && not (not m && is_processing k older)) ≡ true
    wait k true s e = both (is_dirty k older) (same_key k basis.key || false) e
      where
        both : (d r : Bool) → (d && r) ≡ true → (d && true) ≡ true
        both true r h = refl
        both false r h = h
    wait k false s e = absurd (true≢false (sym e ∙ (λ i. is_dirty k older && ((same_key-either_way k basis.key ∙ s) i || false)) ∙ none (is_dirty k older)))
      where
        none : (d : Bool) → (d && false) ≡ false
        none true = refl
        none false = refl

    last : (d : Bool) → line older ++ cond d (basis.key ∷ []) [] ≡ cond d (line older ++ basis.key ∷ []) (line older)
    last true = refl
    last false = append-nothing (line older)
