-- Each processing key has what the end of its sync needs, whatever call is made.
use Rattle.std.proofs.Common.{◌≡◌, ℕ, suc, ◌+◌, ◌≤◌, ◌<◌, Bool, true, false, cond, not, ◌&&◌, ◌||◌, nat_lt, List, [], ◌∷◌, ◌++◌, length, Some, None, slice_get, refl, sym, ap, ◌∙◌, subst, arith, true≢false}
use Rattle.std.proofs.lemmas.Bool.{or_right}
use Rattle.jc_control.specs.Schedules.{AreKnown, AreSupplied, IsProvided, RoomMoves}
use Rattle.jc_control.specs.ControllerCalls.{all_added, delays_after, noted}
use Rattle.jc_control.specs.declared.controller.Known.{Known}
use Rattle.jc_control.specs.declared.ends.SyncEnd.{SyncEnd}
use Rattle.jc_control.specs.declared.ends.SyncEnd.TheVariants.{Ended, Retry, Gone, Unavailable}
use Rattle.jc_control.proofs.TurnFacts.{added-processing, all_added-processing, got-processing, known_done, known_got, sent-processing}
use Rattle.jc_log.specs.Tables.{puts}
use Rattle.jc_moment.specs.Range.{end_of_moments}
use Rattle.jc_queue.proofs.KeyLists.{is_in-last, is_in-without}
use Rattle.jc_queue.specs.Delayed.{Delayed, RoomedDelays, delayed, due_keys, failed, retried}
use Rattle.jc_queue.specs.Queued.{IsQueue, Queued, RoomedQueue, added, finished, got, has_key, sent_back, without}
use Rattle.jc_types.proofs.KeyFacts.{same_key-eq}
use Rattle.jc_types.specs.declared.objects.KeyNames.{KeyNames as Key}
use Rattle.jc_types.specs.Keys.{same_key}

-- ---- the same keys are processing

module _ (q new : RoomedQueue) (d left : RoomedDelays) (rows : List (Key × Known)) (supplies : List Key) where
  pub provided_as : new.queue.processing ≡ q.queue.processing → length q.queue.processing ≤ left.room → length left.delays.moments + length q.queue.processing ≤ new.room → IsProvided q d rows supplies → IsProvided new left rows supplies
  provided_as same delays queue h =
      let count = ap length same in
      record {
        known = subst (λ keys. AreKnown keys rows) (sym same) h.known;
        supplied = subst (λ keys. AreSupplied keys supplies) (sym same) h.supplied;
        for_delays = omega (arith, count, delays);
        for_queue = omega (arith, count, queue);
      }

  -- Keys that are due have moved.
  pub provided_moved : (now : ℕ) → new.queue ≡ all_added q.queue (due_keys d.delays now) → RoomMoves q d new left → IsProvided q d rows supplies → IsProvided new left rows supplies
  provided_moved now added moves h =
      let delays = h.for_delays in
      let queue = h.for_queue in
      let from = moves.0 in
      let same = moves.1 in
      provided_as (ap (λ (q : Queued). q.processing) added ∙ all_added-processing q.queue (due_keys d.delays now)) (omega (arith, delays, same)) (omega (arith, queue, from)) h

module _ (q new : RoomedQueue) (d : RoomedDelays) (rows : List (Key × Known)) (supplies : List Key) (room : new.room ≡ q.room) (h : IsProvided q d rows supplies) where
  provided_if : new.queue.processing ≡ q.queue.processing → IsProvided new d rows supplies
  provided_if same = let queue = h.for_queue in provided_as q new d d rows supplies same h.for_delays (omega (arith, queue, room)) h

  -- Keys are added, or the first goes to the line's end.
  pub provided_all : (keys : List Key) → new.queue ≡ all_added q.queue keys → IsProvided new d rows supplies
  provided_all keys e = provided_if (ap (λ (q : Queued). q.processing) e ∙ all_added-processing q.queue keys)

  pub provided_added : (k : Key) → new.queue ≡ added q.queue k → IsProvided new d rows supplies
  provided_added k e = provided_if (ap (λ (q : Queued). q.processing) e ∙ added-processing q.queue k)

  pub provided_back : new.queue ≡ sent_back q.queue → IsProvided new d rows supplies
  provided_back e = provided_if (ap (λ (q : Queued). q.processing) e ∙ sent-processing q.queue)

-- Other rows are known.
pub provided_rows : (q : RoomedQueue) (d : RoomedDelays) (rows new : List (Key × Known)) (supplies : List Key) → AreKnown q.queue.processing new → IsProvided q d rows supplies → IsProvided q d new supplies
provided_rows q d rows new supplies known h = record { known = known; supplied = h.supplied; for_delays = h.for_delays; for_queue = h.for_queue }

-- More room.
pub provided_more : (q new : RoomedQueue) (d more : RoomedDelays) (rows : List (Key × Known)) (supplies others : List Key) → new.queue ≡ q.queue → q.room ≤ new.room → more.delays ≡ d.delays →
    d.room ≤ more.room → AreSupplied q.queue.processing others → IsProvided q d rows supplies → IsProvided new more rows others
provided_more q new d more rows supplies others same room delays further supplied h =
    let for_delays = h.for_delays in
    let for_queue = h.for_queue in
    let count = ap (λ (q : Queued). length q.processing) same in
    let moments = ap (λ (d : Delayed). length d.moments) delays in
    record {
      known = subst (λ (q : Queued). AreKnown q.processing rows) (sym same) h.known;
      supplied = subst (λ (q : Queued). AreSupplied q.processing others) (sym same) supplied;
      for_delays = omega (arith, count, further, for_delays);
      for_queue = omega (arith, count, moments, room, for_queue);
    }

-- ---- a sync begins

count-last : (k : Key) (keys : List Key) → length (keys ++ k ∷ []) ≡ length keys + 1
count-last k [] = refl
count-last k (x ∷ keys) = let rest = count-last k keys in omega (arith, rest)

pub provided_got : (q roomy new : RoomedQueue) (d more : RoomedDelays) (rows after : List (Key × Known)) (supplies others : List Key) (k : Key) → Some k ≡ slice_get q.queue.line 0 → roomy.queue
    ≡ q.queue → length d.delays.moments + (length q.queue.processing + 1) ≤ roomy.room → more.delays ≡ d.delays → length q.queue.processing + 1 ≤ more.room → others ≡ supplies ++ k ∷ [] → after
    ≡ noted rows k → new.queue ≡ got roomy.queue → new.room ≡ roomy.room → IsProvided q d rows supplies → IsProvided new more after others
provided_got q roomy new d more rows after supplies others k first same room delays further sets are gets still h =
    let processing : new.queue.processing ≡ q.queue.processing ++ k ∷ [] = ap (λ (q : Queued). q.processing) (gets ∙ ap got same) ∙ got-processing q.queue k first in
    let count : length new.queue.processing ≡ length q.queue.processing + 1 = ap length processing ∙ count-last k q.queue.processing in
    let moments = ap (λ (d : Delayed). length d.moments) delays in
    record {
      known = known_got q.queue new.queue k rows after first h.known are (gets ∙ ap got same);
      supplied = subst (λ more. AreSupplied new.queue.processing more) (sym sets) (subst (λ keys. AreSupplied keys (supplies ++ k ∷ [])) (sym processing) supplied);
      for_delays = omega (arith, count, further);
      for_queue = omega (arith, count, moments, room, still);
    }
  where
    supplied : AreSupplied (q.queue.processing ++ k ∷ []) (supplies ++ k ∷ [])
    supplied j busy = is_in-last j k supplies ∙ by (has_key j q.queue.processing) refl (same_key j k) (sym (is_in-last j k q.queue.processing) ∙ busy)
      where
        by : (p : Bool) → has_key j q.queue.processing ≡ p → (s : Bool) → (p || s) ≡ true → (has_key j supplies || s) ≡ true
        by true busy s t = ap (λ b. b || s) (h.supplied j busy)
        by false busy true t = or_right (has_key j supplies) true refl
        by false busy false t = absurd (true≢false (sym t))

-- ---- a sync ends

-- Another key stays.
stays-without : (j k : Key) (keys : List Key) → same_key k j ≡ false → has_key j keys ≡ true → has_key j (without k keys) ≡ true
stays-without j k [] apart h = absurd (true≢false (sym h))
stays-without j k (x ∷ xs) apart h = by (same_key k x) refl (same_key j x) refl h (stays-without j k xs apart)
  where
    by : (b : Bool) → same_key k x ≡ b → (s : Bool) → same_key j x ≡ s → (s || has_key j xs) ≡ true → (has_key j xs ≡ true → has_key j (without k xs) ≡ true) → has_key j (cond b xs (x ∷ without k xs)) ≡ true
    by true e true s h ih = absurd (true≢false (sym e ∙ ap (λ y. same_key k y) (sym (same_key-eq j x s)) ∙ apart))
    by true e false s h ih = h
    by false e true s h ih = ap (λ b. b || has_key j (without k xs)) s
    by false e false s h ih = ap (λ b. b || has_key j (without k xs)) s ∙ ih h

-- One key fewer.
pub without-count : (k : Key) (keys : List Key) → has_key k keys ≡ true → length (without k keys) + 1 ≡ length keys
without-count k [] h = absurd (true≢false (sym h))
without-count k (x ∷ keys) h = by (same_key k x) h (without-count k keys)
  where
    by : (b : Bool) → (b || has_key k keys) ≡ true → (has_key k keys ≡ true → length (without k keys) + 1 ≡ length keys) → length (cond b keys (x ∷ without k keys)) + 1 ≡ suc (length keys)
    by true h ih = omega arith
    by false h ih = let rest = ih h in omega (arith, rest)

-- One moment more at most.
puts-count : (k : Key) (moment : ℕ) (rows : List (Key × ℕ)) → length (puts same_key rows k moment) ≤ length rows + 1
puts-count k moment [] = omega arith
puts-count k moment (row ∷ rows) = by (same_key k row.0) (puts-count k moment rows)
  where
    by : (b : Bool) → length (puts same_key rows k moment) ≤ length rows + 1 → length (cond b ((row.0, moment) ∷ rows) (row ∷ puts same_key rows k moment)) ≤ suc (length rows) + 1
    by true rest = omega arith
    by false rest = omega (arith, rest)

retried-count : (d : Delayed) (k : Key) (now : ℕ) → length (retried d k now).moments ≤ length d.moments + 1
retried-count d k now = by _ (nat_lt _ end_of_moments)
  where
    by : (moment : ℕ) (b : Bool) → length (cond {A = Delayed} b (delayed (failed d k) k moment) (failed d k)).moments ≤ length d.moments + 1
    by moment true = puts-count k _ d.moments
    by moment false = omega arith

pub ended-count : (d : Delayed) (k : Key) (end : SyncEnd) (now : ℕ) → length (delays_after d k end now).moments ≤ length d.moments + 1
ended-count d k (Ended None) now = omega arith
ended-count d k (Ended (Some moment)) now = puts-count k _ d.moments
ended-count d k Retry now = retried-count d k now
ended-count d k Gone now = omega arith
ended-count d k Unavailable now = retried-count d k now

pub provided_done : (q new : RoomedQueue) (d left : RoomedDelays) (rows : List (Key × Known)) (supplies others : List Key) (k : Key) (end : SyncEnd) (now : ℕ) → IsQueue q.queue →
    has_key k q.queue.processing ≡ true → others ≡ without k supplies → left.delays ≡ delays_after d.delays k end now → d.room ≤ left.room + 1 → new.queue ≡ finished q.queue k → new.room ≡ q.room →
    IsProvided q d rows supplies → IsProvided new left rows others
provided_done q new d left rows supplies others k end now s busy sets delays room done still h =
    let for_delays = h.for_delays in
    let for_queue = h.for_queue in
    let count = ap (λ (q : Queued). length q.processing) done in
    let fewer = without-count k q.queue.processing busy in
    let moments = ap (λ (d : Delayed). length d.moments) delays in
    let more = ended-count d.delays k end now in
    record {
      known = known_done q.queue new.queue k rows h.known done;
      supplied = subst (λ (q : Queued). AreSupplied q.processing others) (sym done) supplied;
      for_delays = omega (arith, count, fewer, room, for_delays);
      for_queue = omega (arith, count, fewer, moments, more, still, for_queue);
    }
  where
    supplied : AreSupplied (without k q.queue.processing) others
    supplied j there = subst (λ more. has_key j more ≡ true) (sym sets) (by (same_key k j) refl (sym (is_in-without j k q.queue.processing s.processing_once) ∙ there))
      where
        by : (b : Bool) → same_key k j ≡ b → (not b && has_key j q.queue.processing) ≡ true → has_key j (without k supplies) ≡ true
        by true e t = absurd (true≢false (sym t))
        by false e t = stays-without j k supplies e (h.supplied j t)

-- The delays have room for the supply of a key that is processing.
pub room_left : (q : RoomedQueue) (d : RoomedDelays) (rows : List (Key × Known)) (supplies : List Key) (k : Key) → has_key k q.queue.processing ≡ true → IsProvided q d rows supplies → 0 < d.room
room_left q d rows supplies k busy h = let fewer = without-count k q.queue.processing busy in let for_delays = h.for_delays in omega (arith, fewer, for_delays)
