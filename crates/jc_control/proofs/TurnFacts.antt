-- What the calls of a controller make of its parts is what the words on them say.
use Rattle.std.proofs.Common.{◌≡◌, ℕ, ◌+◌, ◌≤◌, Bool, true, false, cond, ◌||◌, List, [], ◌∷◌, ◌++◌, length, take, map, Option, Some, None, is_some, slice_get, refl, sym, ap, ◌∙◌, subst, arith, true≢false}
use Rattle.std.specs.List.{IsDistinct}
use Rattle.std.specs.Map.{keys_of, set_value}
use Rattle.std.specs.Prelude.{IfSome}
use Rattle.std.specs.Option.{option_map_or, unwrap_or}
use Rattle.jc_control.specs.Schedules.{AreKnown, ControllerView, known_of, unknown}
use Rattle.jc_control.specs.ControllerCalls.{Beginning, TakesFirst, TakesKey, all_added, basis_of, begun, begun_at, begun_first, begun_unless, behind, first_lag, followed, lag, noted, noted_at, pods_need, unchanged}
use Rattle.jc_control.specs.declared.begins.Begin.TheVariants.{NotSynced, NoKey, Begun}
use Rattle.jc_control.specs.declared.begins.Lag.{Lag}
use Rattle.jc_control.specs.declared.controller.Known.{Known}
use Rattle.jc_queue.proofs.BackFacts.{retracted-added}
use Rattle.jc_queue.proofs.DueFacts.{due_keys-none, due_keys-some, fewer-left, left_after-none, left_after-some, once-left}
use Rattle.jc_queue.proofs.KeyLists.{is_in-last}
use Rattle.jc_queue.proofs.KeySets.{is_in-plus}
use Rattle.jc_queue.proofs.QueueFacts.{first_is_idle}
use Rattle.jc_queue.specs.Delayed.{Delayed, due_key, due_keys, left_after, left_by}
use Rattle.jc_queue.specs.Queued.{IsQueue, Queued, added, finished, got, got_first, has_key, plus_key, retracted, sent_back, sent_back_first, without}
use Rattle.std.proofs.lemmas.Bool.{cond-true, or_right}
use Rattle.jc_types.specs.declared.numbers.Version.{Version}
use Rattle.jc_types.specs.declared.objects.Job.{Job}
use Rattle.jc_types.specs.declared.objects.Kind.TheVariants.{Jobs, Pods}
use Rattle.jc_states.specs.declared.bases.Basis.{Basis}
use Rattle.jc_types.specs.declared.objects.KeyNames.{KeyNames as Key}
use Rattle.jc_types.specs.Keys.{same_key}
use Rattle.jc_log.specs.Tables.{Sets, at, puts}
use Rattle.jc_types.proofs.KeyFacts.{same_key-eq, same_key-itself}
use Rattle.jc_log.proofs.TableFacts.{Sets-puts, set_value-puts}

-- ---- keys are added

-- One key more.
pub all_added-last : {X : Type 0} (key : X → Key) (q : Queued) (xs : List X) (x : X) → all_added q (map key (xs ++ x ∷ [])) ≡ added (all_added q (map key xs)) (key x)
all_added-last key q [] x = refl
all_added-last key q (y ∷ xs) x = all_added-last key (added q (key y)) xs x

pub all_added-next : {X : Type 0} (key : X → Key) (q before after : Queued) (xs : List X) (i next : ℕ) (x : X) → take next xs ≡ take i xs ++ x ∷ [] → before ≡ all_added q (map key (take i xs)) → after
    ≡ added before (key x) → after ≡ all_added q (map key (take next xs))
all_added-next key q before after xs i next x more b a =
    a ∙ ap (λ q. added q (key x)) b ∙ sym (all_added-last key q (take i xs) x) ∙ ap (λ ys. all_added q (map key ys)) (sym more)

-- A key that is added is dirty.
pub added-dirty : (q : Queued) (k : Key) → has_key k (added q k).dirty ≡ true
added-dirty q k = by (has_key k q.dirty) refl
  where
    by : (b : Bool) → has_key k q.dirty ≡ b → has_key k (cond {A = Queued} b q (record { line = cond (has_key k q.processing) q.line (q.line ++ k ∷ []); dirty = plus_key k q.dirty; processing = q.processing })).dirty ≡ true
    by true h = h
    by false h = is_in-plus k k q.dirty ∙ ap (λ b. b || has_key k q.dirty) (same_key-itself k)

-- A key that is the last one changes nothing, where the last one is dirty.
pub added-again : (q : Queued) (last : Option Key) (k : Key) → IfSome last (λ j. has_key j q.dirty ≡ true) → true ≡ option_map_or (λ j. same_key j k) last false → q ≡ added q k
added-again q None k h e = absurd (true≢false e)
added-again q (Some last) k h e =
    let there : has_key k q.dirty ≡ true = ap (λ j. has_key j q.dirty) (sym (same_key-eq last k (sym e))) ∙ h in
    sym (cond-true {A = Queued} (has_key k q.dirty) q (record { line = cond (has_key k q.processing) q.line (q.line ++ k ∷ []); dirty = plus_key k q.dirty; processing = q.processing }) there)

-- Keys that are added change nothing of those that are processing.
pub added-processing : (q : Queued) (k : Key) → (added q k).processing ≡ q.processing
added-processing q k = by (has_key k q.dirty)
  where
    by : (b : Bool) → (cond {A = Queued} b q (record { line = cond (has_key k q.processing) q.line (q.line ++ k ∷ []); dirty = plus_key k q.dirty; processing = q.processing })).processing ≡ q.processing
    by true = refl
    by false = refl

pub all_added-processing : (q : Queued) (keys : List Key) → (all_added q keys).processing ≡ q.processing
all_added-processing q [] = refl
all_added-processing q (k ∷ keys) = all_added-processing (added q k) keys ∙ added-processing q k

pub sent-processing : (q : Queued) → (sent_back q).processing ≡ q.processing
sent-processing q = by q.line
  where
    by : (line : List Key) → (sent_back_first line q).processing ≡ q.processing
    by [] = refl
    by (k ∷ rest) = refl

-- ---- keys that are due

-- What a queue and delays come to.
abbrev pub ComesTo : Queued → Delayed → ℕ → Queued → Delayed → Type 0
ComesTo q d now q₀ d₀ = (all_added q (due_keys d now) ≡ all_added q₀ (due_keys d₀ now)) × (left_after d now ≡ left_after d₀ now) × IsDistinct same_key (keys_of d.moments)

-- One key moves.
pub due-moves : (q new : Queued) (d left : Delayed) (now : ℕ) (k : Key) (q₀ : Queued) (d₀ : Delayed) → ComesTo q d now q₀ d₀ → Some k ≡ due_key d now → left ≡ left_by d (Some k) → new ≡ added q k → ComesTo new left now q₀ d₀
due-moves q new d left now k q₀ d₀ h e l a = (
  ap (λ d. all_added new (due_keys d now)) l ∙ ap (λ q. all_added q (due_keys (left_by d (Some k)) now)) a
      ∙ ap (λ keys. all_added q keys) (sym (due_keys-some d now k h.2 (sym e))) ∙ h.0,
  ap (λ d. left_after d now) l ∙ sym (left_after-some d now k h.2 (sym e)) ∙ h.1,
  subst (λ (d : Delayed). IsDistinct same_key (keys_of d.moments)) (sym l) (once-left d k h.2),
)

pub due-fewer : (d left : Delayed) (now : ℕ) (k : Key) → IsDistinct same_key (keys_of d.moments) → Some k ≡ due_key d now → left ≡ left_by d (Some k) → length left.moments + 1 ≡ length d.moments
due-fewer d left now k once e l = ap (λ (d : Delayed). length d.moments + 1) l ∙ fewer-left d now k once (sym e)

-- No key is due.
pub none-moves : (q : Queued) (d left : Delayed) (now : ℕ) (q₀ : Queued) (d₀ : Delayed) → ComesTo q d now q₀ d₀ → None ≡ due_key d now → left ≡ d → (q ≡ all_added q₀ (due_keys d₀ now)) × (left ≡ left_after d₀ now)
none-moves q d left now q₀ d₀ h e l = (
  sym (ap (λ keys. all_added q keys) (due_keys-none d now (sym e))) ∙ h.0,
  l ∙ sym (left_after-none d now (sym e)) ∙ h.1,
)

-- No key is delayed.
pub none_left : (q : Queued) (d : Delayed) (now : ℕ) (q₀ : Queued) (d₀ : Delayed) → ComesTo q d now q₀ d₀ → length d.moments ≤ 0 → (q ≡ all_added q₀ (due_keys d₀ now)) × (d ≡ left_after d₀ now)
none_left q d now q₀ d₀ h few = by d.moments refl
  where
    by : (rows : List (Key × ℕ)) → d.moments ≡ rows → (q ≡ all_added q₀ (due_keys d₀ now)) × (d ≡ left_after d₀ now)
    by [] e =
        let empty : d ≡ record { moments = []; failures = d.failures } = λ i. record { moments = e i; failures = d.failures } in (
          ap (λ d. all_added q (due_keys d now)) (sym empty) ∙ h.0,
          empty ∙ ap (λ d. left_after d now) (sym empty) ∙ h.1,
        )
    by (row ∷ rows) e = let many = ap length e in absurd (omega (arith, few, many))

-- ---- a delivery that found no memory

-- The key that was added is taken back.
pub taken_back : (old seen : ControllerView) (mid new : Queued) (k : Key) → IsQueue old.schedule.queue → has_key k old.schedule.queue.dirty ≡ false → mid ≡ added old.schedule.queue k → seen
    ≡ record old { schedule = record old.schedule { queue = mid } } → new ≡ retracted seen.schedule.queue k → record seen { schedule = record seen.schedule { queue = new } } ≡ old
taken_back old seen mid new k queue clean m s n =
    (λ i. record seen { schedule = record seen.schedule { queue = n i } })
    ∙ ap (λ (seen : ControllerView). record seen { schedule = record seen.schedule { queue = retracted seen.schedule.queue k } }) s
    ∙ ap (λ mid. record old { schedule = record old.schedule { queue = retracted mid k } }) m
    ∙ ap (λ q. record old { schedule = record old.schedule { queue = q } }) (retracted-added old.schedule.queue k queue clean)

-- ---- rows of what is known

-- A row that is written leaves a row to each key.
pub known_set : (keys : List Key) (rows new : List (Key × Known)) (k : Key) (known : Known) → AreKnown keys rows → Sets same_key rows new k (Some known) → AreKnown keys new
known_set keys rows new k known h sets j busy = ap is_some (sets j) ∙ by (same_key k j)
  where
    by : (b : Bool) → is_some (cond b (Some known) (at same_key rows j)) ≡ true
    by true = refl
    by false = h j busy

-- So does a row that is put.
pub known_put : (keys : List Key) (rows new : List (Key × Known)) (k : Key) (known : Known) → AreKnown keys rows → new ≡ puts same_key rows k known → AreKnown keys new
known_put keys rows new k known h e = known_set keys rows new k known h (λ j. ap (λ rows. at same_key rows j) e ∙ Sets-puts same_key same_key-eq same_key-itself k known rows j)

-- What is made of the value of a key is put in its place.
pub written : (rows : List (Key × Known)) (k : Key) (old new : Known) (make : Known → Known) → at same_key rows k ≡ Some old → new ≡ make old → set_value (same_key k) rows new
    ≡ puts same_key rows k (make (unwrap_or (at same_key rows k) unknown))
written rows k old new make there is =
    set_value-puts same_key k new rows (ap is_some there)
    ∙ ap (λ known. puts same_key rows k known) (is ∙ sym (ap (λ o. make (unwrap_or o unknown)) there))

-- The key that is noted has a row, and so have all that had one.
noted_keeps : (rows : List (Key × Known)) (k j : Key) → is_some (at same_key rows j) ≡ true → is_some (at same_key (noted rows k) j) ≡ true
noted_keeps rows k j h = by (at same_key rows k)
  where
    by : (o : Option Known) → is_some (at same_key (noted_at o rows k) j) ≡ true
    by None = ap is_some (Sets-puts same_key same_key-eq same_key-itself k unknown rows j) ∙ at_test (same_key k j)
      where
        at_test : (b : Bool) → is_some (cond b (Some unknown) (at same_key rows j)) ≡ true
        at_test true = refl
        at_test false = h
    by (Some known) = h

noted_there : (rows : List (Key × Known)) (k : Key) → is_some (at same_key (noted rows k) k) ≡ true
noted_there rows k = by (at same_key rows k) refl
  where
    by : (o : Option Known) → at same_key rows k ≡ o → is_some (at same_key (noted_at o rows k) k) ≡ true
    by None e =
        ap is_some (Sets-puts same_key same_key-eq same_key-itself k unknown rows k
        ∙ ap (λ b. cond b (Some unknown) (at same_key rows k)) (same_key-itself k))
    by (Some known) e = ap is_some e

or-weaker : (a b c : Bool) → (b ≡ true → c ≡ true) → (a || b) ≡ true → (a || c) ≡ true
or-weaker true b c w h = refl
or-weaker false b c w h = w h

in_without : (j k : Key) (keys : List Key) → has_key j (without k keys) ≡ true → has_key j keys ≡ true
in_without j k [] h = h
in_without j k (x ∷ keys) h = by (same_key k x) h (in_without j k keys)
  where
    by : (b : Bool) → has_key j (cond b keys (x ∷ without k keys)) ≡ true → (has_key j (without k keys) ≡ true → has_key j keys ≡ true) → (same_key j x || has_key j keys) ≡ true
    by true h ih = or_right (same_key j x) (has_key j keys) h
    by false h ih = or-weaker (same_key j x) (has_key j (without k keys)) (has_key j keys) ih h

-- A key that is done needs no row.
pub known_done : (q new : Queued) (k : Key) (rows : List (Key × Known)) → AreKnown q.processing rows → new ≡ finished q k → AreKnown new.processing rows
known_done q new k rows known e = subst (λ (q : Queued). AreKnown q.processing rows) (sym e) (λ j busy. known j (in_without j k q.processing busy))

-- ---- a begin

-- The line begins with the key.
pub head_is : (line : List Key) (k : Key) → Some k ≡ slice_get line 0 → (rest : List Key) × (line ≡ k ∷ rest)
head_is [] k e = absurd (true≢false (ap is_some e))
head_is (x ∷ line) k e = (line, ap (λ o. unwrap_or o k ∷ line) (sym e))

-- The key that is got is processing besides.
pub got-processing : (q : Queued) (k : Key) → Some k ≡ slice_get q.line 0 → (got q).processing ≡ q.processing ++ k ∷ []
got-processing q k first = let h = head_is q.line k first in ap (λ line. (got_first line q).processing) h.1

-- The key that is got has a row.
pub known_got : (q new : Queued) (k : Key) (rows after : List (Key × Known)) → Some k ≡ slice_get q.line 0 → AreKnown q.processing rows → after ≡ noted rows k → new ≡ got q → AreKnown new.processing after
known_got q new k rows after first known a n =
    subst (λ some. AreKnown some after) (sym processing) (subst (λ rows. AreKnown (q.processing ++ k ∷ []) rows) (sym a) rows_are)
  where
    processing : new.processing ≡ q.processing ++ k ∷ []
    processing = ap (λ (q : Queued). q.processing) n ∙ got-processing q k first

    rows_are : AreKnown (q.processing ++ k ∷ []) (noted rows k)
    rows_are j busy = by (has_key j q.processing) refl (same_key j k) refl (sym (is_in-last j k q.processing) ∙ busy)
      where
        by : (a : Bool) → has_key j q.processing ≡ a → (b : Bool) → same_key j k ≡ b → (a || b) ≡ true → is_some (at same_key (noted rows k) j) ≡ true
        by true h b s e = noted_keeps rows k j (known j h)
        by false h true s e = ap (λ j. is_some (at same_key (noted rows k) j)) (same_key-eq j k s) ∙ noted_there rows k
        by false h false s e = absurd (true≢false (sym e))

-- The key that is got is processing.
pub got_busy : (q new : Queued) (k : Key) → Some k ≡ slice_get q.line 0 → new ≡ got q → has_key k new.processing ≡ true
got_busy q new k first n =
    let h = head_is q.line k first in
    ap (λ (q : Queued). has_key k q.processing) (n ∙ ap (λ line. got_first line q) h.1)
    ∙ is_in-last k k q.processing ∙ or_right (has_key k q.processing) (same_key k k) (same_key-itself k)

-- No cache is behind, by what was found of the key.
pub lag-none : (c : ControllerView) (k : Key) (known : Known) (job : Option Job) (j p : Version) (found : Option Lag) → known ≡ known_of k c.schedule → job ≡ at same_key c.jobs k
    → found ≡ first_lag (behind Jobs known.floor j) (behind Pods (pods_need known.floor job) p) → found ≡ None → lag k c j p ≡ None
lag-none c k known job j p found is there e none =
    ap (λ (known : Known). first_lag (behind Jobs known.floor j) (behind Pods (pods_need known.floor (at same_key c.jobs k)) p)) (sym is)
    ∙ ap (λ job. first_lag (behind Jobs known.floor j) (behind Pods (pods_need known.floor job) p)) (sym there)
    ∙ sym e ∙ none

-- The answer of a begin is the basis.
pub begun-answer : (c : ControllerView) (now : ℕ) (j p : Version) (k : Key) → Some j ≡ c.schedule.jobs_at → Some p ≡ c.schedule.pods_at → Some k ≡ slice_get c.schedule.queue.line 0 → lag k c j p
    ≡ None → (basis : Basis) → basis ≡ basis_of now c j p k → Begun basis ≡ (begun now c).answer
begun-answer c now j p k jobs pods first none basis e =
    ap (λ b. Begun b) e
    ∙ sym (ap (λ (b : Beginning). b.answer)
    ((λ i. begun_at now c (sym jobs i) (sym pods i))
    ∙ ap (λ line. begun_first now c j p line) (head_is c.schedule.queue.line k first).1
    ∙ ap (λ lag. begun_unless now c j p k lag) none))

-- What holds of each begin holds where a cache has no number, where no key waits, where a cache is behind and
-- where a sync begins.
pub each_begin : (P : Beginning → Type 0) (c : ControllerView) (now : ℕ) → P (unchanged c.schedule NotSynced) → P (unchanged c.schedule NoKey) →
    ((j p : Version) (k : Key) (rest : List Key) (lag : Lag) → c.schedule.queue.line ≡ k ∷ rest → P (begun_unless now c j p k (Some lag)))
    → ((j p : Version) (k : Key) (rest : List Key) → c.schedule.jobs_at ≡ Some j → c.schedule.pods_at ≡ Some p → c.schedule.queue.line ≡ k ∷ rest → lag k c j p ≡ None → P (begun_unless now c j p k None)) → P (begun now c)
each_begin P c now not_synced no_key behind begins = at_numbers c.schedule.jobs_at refl c.schedule.pods_at refl
  where
    at_lag : (j p : Version) (k : Key) (rest : List Key) → c.schedule.jobs_at ≡ Some j → c.schedule.pods_at ≡ Some p → c.schedule.queue.line ≡ k ∷ rest → (o : Option Lag) → lag k c j p ≡ o → P (begun_unless now c j p k o)
    at_lag j p k rest a b l None e = begins j p k rest a b l e
    at_lag j p k rest a b l (Some lag) e = behind j p k rest lag l

    at_line : (j p : Version) → c.schedule.jobs_at ≡ Some j → c.schedule.pods_at ≡ Some p → (line : List Key) → c.schedule.queue.line ≡ line → P (begun_first now c j p line)
    at_line j p a b [] l = no_key
    at_line j p a b (k ∷ rest) l = at_lag j p k rest a b l (lag k c j p) refl

    at_numbers : (jobs : Option Version) → c.schedule.jobs_at ≡ jobs → (pods : Option Version) → c.schedule.pods_at ≡ pods → P (begun_at now c jobs pods)
    at_numbers None a pods b = not_synced
    at_numbers (Some j) a None b = not_synced
    at_numbers (Some j) a (Some p) b = at_line j p a b c.schedule.queue.line refl

-- What is left is what the answer leaves.
pub begun_is : (c : ControllerView) (now : ℕ) → followed c.schedule (begun now c).answer ≡ (begun now c).schedule
begun_is c now = each_begin (λ b. followed c.schedule b.answer ≡ b.schedule) c now refl refl (λ j p k rest lag l. refl) (λ j p k rest a b l e. refl)

-- The key of a sync that begins is the first.
pub begun-first : (c : ControllerView) (now : ℕ) → TakesFirst (begun now c).answer c.schedule.queue.line
begun-first c now = each_begin (λ b. TakesFirst b.answer c.schedule.queue.line) c now tt tt (λ j p k rest lag l. tt) (λ j p k rest a b l e. ap (λ line. slice_get line 0) (sym l))

-- It is processing, and was not before.
pub begun-taken : (c : ControllerView) (now : ℕ) → IsQueue c.schedule.queue → TakesKey (begun now c).answer c.schedule.queue.processing (begun now c).schedule.queue.processing
begun-taken c now s =
    each_begin (λ b. TakesKey b.answer c.schedule.queue.processing b.schedule.queue.processing) c now tt tt (λ j p k rest lag l. tt)
    (λ j p k rest a b l e. (first_is_idle c.schedule.queue s k rest l, got_busy c.schedule.queue (got c.schedule.queue) k (ap (λ line. slice_get line 0) (sym l)) refl))

-- ---- a backoff that is kept as it was
