-- What each event of syncs makes of the registers.
use Rattle.std.proofs.Common.{◌≡◌, ℕ, zero, suc, ◌==◌, Bool, true, false, cond, ◌&&◌, List, [], ◌∷◌, ◌++◌, length, Option, Some, None, is_some, refl, sym, ap, ◌∙◌, subst, arith, true≢false, eqb-true, eq-eqb}
use Rattle.std.specs.Prelude.{find, slice_get, option_and_then}
use Rattle.std.specs.Option.{unwrap_or}
use Rattle.std.proofs.lemmas.Bool.{cond-true, cond-false}
use Rattle.std.proofs.lemmas.List.{append_assoc}
use Rattle.std.specs.List.{AllByRecursion as Each}
use Rattle.jc_types.specs.declared.actions.Fault.{Fault}
use Rattle.jc_types.specs.declared.actions.Fault.TheVariants as fault
use Rattle.jc_types.specs.declared.replies.Answer.{Answer}
use Rattle.jc_types.specs.declared.replies.Answer.TheVariants as answer
use Rattle.jc_plan.specs.Plans.{planned}
use Rattle.jc_asks.specs.declared.asks.Ask.{Ask}
use Rattle.jc_asks.specs.declared.asks.Ask.TheVariants.{WriteFirst, ReleasePod}
use Rattle.jc_types.specs.declared.replies.Request.{Request}
use Rattle.jc_states.specs.UidLists.{AscendsFrom}
use Rattle.jc_asks.specs.Asks.{asks_of, first_written, asks_after, as_request}
use Rattle.jc_asks.specs.Readings.{is_step, next_ask, step_told, steps_of, told_step, with_step}
use Rattle.jc_sync.specs.Leftovers.{IsLeftBy, lets_of}
use Rattle.jc_sync.proofs.ReadFacts.{reads_begun, reads_next, reads_step}
use Rattle.jc_types.specs.declared.objects.Entry.{Entry}
use Rattle.jc_log.specs.Requests.{grown}
use Rattle.jc_log.specs.Acts as does
use Rattle.jc_log.specs.Deeds.{Deed}
use Rattle.jc_log.specs.Writes.{Stored}
use Rattle.jc_log.proofs.WriteFacts.{Stored-from_legal}
use Rattle.jc_ledger.specs.declared.flights.Flight.{Flight}
use Rattle.jc_ledger.specs.EventKinds.{Begins, AppendsNoEntry, began}
use Rattle.jc_ledger.specs.Flights.{Flies}
use Rattle.jc_ledger.specs.Syncs.{Began, began_by, began_of, is_begin, stepper, sync_of}
use Rattle.jc_ledger.specs.Tied.{Tied}
use Rattle.jc_ledger.proofs.FrameFacts.{AllFly-one}
use Rattle.jc_ledger.proofs.SyncFacts.{sync_of-other}
use Rattle.jc_ledger.proofs.QuietFacts.{tied_begun, tied_dropped, tied_quiet, tied_start}
use Rattle.jc_sync.specs.SyncPlaces.{IsAt, IfGoesOn, IsUnder, Under}
use Rattle.jc_sync.specs.AllRegisters.{AreFree, HasSyncs, IsRegister, NoneWritten, Registers, WritesShow, flight_in, flights_in, flights_of_all, freed, put_at, put_worker, register_at, register_of, restarted}
use Rattle.jc_asks.specs.Sends.{sends_of, sent_first}
use Rattle.jc_asks.specs.Steps.{SyncEnd, Next, GoesOn, Ends, Stepped, Sync, as_answer, answered_to, end_given, first_answered, flight_after, flights_of, next_unless, stepped, stepped_at}
use Rattle.jc_sync.proofs.ShownFacts.{shown_stays, stepped_shown}
use Rattle.jc_sync.proofs.StepFacts.{after_basis, stepped_next, stepped_ties}

-- ---- the syncs before and after a register's

same_some : {X : Type 0} {x y : X} → Some x ≡ Some y → x ≡ y
same_some {X} {x} {y} e = ap (λ (o : Option X). elim o [ None ↦ x | Some z ↦ z ]) e

pub record Around (flights : List Flight) (put : Option Sync → List Flight) (old : Option Sync) : Type 0 where
  pub front : List Flight
  pub back : List Flight
  pub is : flights ≡ front ++ (flight_in old ++ back)
  pub with_it : (new : Option Sync) → put new ≡ front ++ (flight_in new ++ back)

around_worker : (w : ℕ) (ws : List (Option Sync)) (old : Option Sync) → slice_get ws w ≡ Some old → Around (flights_in ws) (λ new. flights_in (put_worker w new ws)) old
around_worker w [] old is = absurd (true≢false (sym (ap is_some is)))
around_worker zero (x ∷ ws) old is = record {
  front = [];
  back = flights_in ws;
  is = ap (λ o. flight_in o ++ flights_in ws) (same_some is);
  with_it = λ new. refl;
}
around_worker (suc w) (x ∷ ws) old is =
    let rest = around_worker w ws old is in
    record {
      front = flight_in x ++ rest.front;
      back = rest.back;
      is = ap (λ l. flight_in x ++ l) rest.is ∙ sym (append_assoc (flight_in x) rest.front (flight_in old ++ rest.back));
      with_it = λ new. ap (λ l. flight_in x ++ l) (rest.with_it new) ∙ sym (append_assoc (flight_in x) rest.front (flight_in new ++ rest.back));
    }

pub around : (c w : ℕ) (rs : Registers) (old : Option Sync) → register_at c w rs ≡ Some old → Around (flights_of_all rs) (λ new. flights_of_all (put_at c w new rs)) old
around c w [] old is = absurd (true≢false (sym (ap is_some is)))
around zero w (ws ∷ rs) old is =
    let here = around_worker w ws old is in
    let regroup : (o : Option Sync) → (here.front ++ (flight_in o ++ here.back)) ++ flights_of_all rs ≡ here.front ++ (flight_in o ++ (here.back ++ flights_of_all rs)) =
    λ o. append_assoc here.front (flight_in o ++ here.back) (flights_of_all rs) ∙ ap (λ l. here.front ++ l) (append_assoc (flight_in o) here.back (flights_of_all rs)) in
    record {
      front = here.front;
      back = here.back ++ flights_of_all rs;
      is = ap (λ l. l ++ flights_of_all rs) here.is ∙ regroup old;
      with_it = λ new. ap (λ l. l ++ flights_of_all rs) (here.with_it new) ∙ regroup new;
    }
around (suc c) w (ws ∷ rs) old is =
    let rest = around c w rs old is in
    record {
      front = flights_in ws ++ rest.front;
      back = rest.back;
      is = ap (λ l. flights_in ws ++ l) rest.is ∙ sym (append_assoc (flights_in ws) rest.front (flight_in old ++ rest.back));
      with_it = λ new. ap (λ l. flights_in ws ++ l) (rest.with_it new) ∙ sym (append_assoc (flights_in ws) rest.front (flight_in new ++ rest.back));
    }

-- ---- which register is which

-- A register after a write is the one that was written, or as before.
pub data PutCases (c w d v : ℕ) (new : Option Sync) (rs : Registers) (sync : Sync) : Type 0 where
  Same : d ≡ c → v ≡ w → new ≡ Some sync → PutCases c w d v new rs sync
  Other : (d ≡ c → v ≡ w → ⊥) → register_at d v rs ≡ Some (Some sync) → PutCases c w d v new rs sync

data WorkerCases (w v : ℕ) (new : Option Sync) (ws : List (Option Sync)) (sync : Sync) : Type 0 where
  SameWorker : v ≡ w → new ≡ Some sync → WorkerCases w v new ws sync
  OtherWorker : (v ≡ w → ⊥) → slice_get ws v ≡ Some (Some sync) → WorkerCases w v new ws sync

worker_cases : (w v : ℕ) (new : Option Sync) (ws : List (Option Sync)) (sync : Sync) → slice_get (put_worker w new ws) v ≡ Some (Some sync) → WorkerCases w v new ws sync
worker_cases w v new [] sync h = absurd (true≢false (sym (ap is_some h)))
worker_cases zero zero new (x ∷ ws) sync h = SameWorker refl (same_some h)
worker_cases zero (suc v) new (x ∷ ws) sync h = OtherWorker (λ e. omega (arith, e)) h
worker_cases (suc w) zero new (x ∷ ws) sync h = OtherWorker (λ e. omega (arith, e)) h
worker_cases (suc w) (suc v) new (x ∷ ws) sync h = by (worker_cases w v new ws sync h)
  where
    by : WorkerCases w v new ws sync → WorkerCases (suc w) (suc v) new (x ∷ ws) sync
    by (SameWorker e is) = SameWorker (ap suc e) is
    by (OtherWorker n is) = OtherWorker (λ e. n (omega (arith, e))) is

pub put_cases : (c w d v : ℕ) (new : Option Sync) (rs : Registers) (sync : Sync) → register_at d v (put_at c w new rs) ≡ Some (Some sync) → PutCases c w d v new rs sync
put_cases c w d v new [] sync h = absurd (true≢false (sym (ap is_some h)))
put_cases zero w zero v new (ws ∷ rs) sync h = by (worker_cases w v new ws sync h)
  where
    by : WorkerCases w v new ws sync → PutCases zero w zero v new (ws ∷ rs) sync
    by (SameWorker e is) = Same refl e is
    by (OtherWorker n is) = Other (λ e f. n f) is
put_cases zero w (suc d) v new (ws ∷ rs) sync h = Other (λ e f. omega (arith, e)) h
put_cases (suc c) w zero v new (ws ∷ rs) sync h = Other (λ e f. omega (arith, e)) h
put_cases (suc c) w (suc d) v new (ws ∷ rs) sync h = by (put_cases c w d v new rs sync h)
  where
    by : PutCases c w d v new rs sync → PutCases (suc c) w (suc d) v new (ws ∷ rs) sync
    by (Same e f is) = Same (ap suc e) f is
    by (Other n is) = Other (λ e f. n (omega (arith, e)) f) is

-- ---- whose begin it was

pub began_by-none : (c w : ℕ) (d : Deed) → began_of d.reply ≡ None → began_by c w d ≡ None
began_by-none c w d none = by (is_begin c w d.act)
  where
    by : (b : Bool) → cond b (began_of d.reply) None ≡ None
    by true = none
    by false = refl

-- A begin is its worker's last one.
pub sync_of-begun : (c w : ℕ) (d : Deed) (past : List Deed) (b : Began) → began_by c w d ≡ Some b → sync_of c w (d ∷ past) ≡ Some b
sync_of-begun c w d past b is =
    ap (option_and_then (began_by c w)) (cond-true (is_some (began_by c w d)) (Some d) (find (λ e. is_some (began_by c w e)) past) (ap is_some is)) ∙ is

-- ---- steps

step_began : (now : ℕ) (pending : Option Fault) (log : List Entry) (flight : Flight) (left : List Ask) → began_of (stepped_at now pending log flight left).reply ≡ None
step_began now pending log flight [] = refl
step_began now None log flight (ask ∷ left) = refl
step_began now (Some fault.Drop) log flight (ask ∷ left) = refl
step_began now (Some fault.Lose) log flight (ask ∷ left) = refl

-- The sync keeps its basis.
pub step_basis : (now : ℕ) (pending : Option Fault) (log : List Entry) (flight : Flight) (left : List Ask) → IfGoesOn (stepped_at now pending log flight left).next (λ s. s.flight.basis ≡ flight.basis)
step_basis now pending log flight [] = tt
step_basis now None log flight (ask ∷ left) = by (end_given ask given)
  where
    given : Answer
    given = as_answer (answered_to log now flight ask).reply

    by : (o : Option SyncEnd) → IfGoesOn (next_unless o (record { flight = flight_after ask given flight; left = asks_after ask given left })) (λ s. s.flight.basis ≡ flight.basis)
    by None = after_basis ask given flight
    by (Some end) = tt
step_basis now (Some fault.Drop) log flight (ask ∷ left) = tt
step_basis now (Some fault.Lose) log flight (ask ∷ left) = tt

-- ---- the requests since the begin

steps_of-other : (c w : ℕ) (d : Deed) (past : List Deed) → began_by c w d ≡ None → step_told c w d ≡ None → steps_of c w (d ∷ past) ≡ steps_of c w past
steps_of-other c w d past none untold =
    cond-false (is_some (began_by c w d)) [] (with_step (step_told c w d) (steps_of c w past)) (ap is_some none)
    ∙ ap (λ o. with_step o (steps_of c w past)) untold

step_told-none : (c w : ℕ) (d : Deed) → told_step d.reply ≡ None → step_told c w d ≡ None
step_told-none c w d none = by (is_step c w d.act)
  where
    by : (b : Bool) → cond b (told_step d.reply) None ≡ None
    by true = none
    by false = refl

-- A step goes on with what the plan and the answers tell.
step_reads : (now : ℕ) (pending : Option Fault) (log : List Entry) (flight : Flight) (left : List Ask) (steps : List (Request × Answer)) → AscendsFrom 0 (lets_of (asks_of (planned flight.basis)))
    → IsLeftBy (planned flight.basis) steps left → IfGoesOn (stepped_at now pending log flight left).next (λ s. IsLeftBy (planned flight.basis) (with_step (told_step (stepped_at now pending log flight left).reply) steps) s.left)
step_reads now pending log flight [] steps once r = tt
step_reads now None log flight (ask ∷ left) steps once r = by (end_given ask given)
  where
    given : Answer
    given = as_answer (answered_to log now flight ask).reply

    by : (o : Option SyncEnd) → IfGoesOn (next_unless o (record { flight = flight_after ask given flight; left = asks_after ask given left })) (λ s. IsLeftBy (planned flight.basis) ((as_request ask, given) ∷ steps) s.left)
    by None = reads_step (planned flight.basis) steps ask left given 0 once r
    by (Some end) = tt
step_reads now (Some fault.Drop) log flight (ask ∷ left) steps once r = tt
step_reads now (Some fault.Lose) log flight (ask ∷ left) steps once r = tt

-- ---- the version that is sent

after_sends : (ask : Ask) (given : Answer) (flight : Flight) → (flight_after ask given flight).sends ≡ unwrap_or (first_written (Some ask) given) flight.sends
after_sends WriteFirst given flight = by given
  where
    by : (given : Answer) → (first_answered (planned flight.basis).first given flight).sends ≡ unwrap_or (first_written (Some WriteFirst) given) flight.sends
    by (answer.Written v) = refl
    by other = refl
after_sends (ReleasePod u) given flight = refl
after_sends other given flight = refl

-- A step goes on with the version that its answer gave.
step_sends : (now : ℕ) (pending : Option Fault) (log : List Entry) (flight : Flight) (left : List Ask) (steps : List (Request × Answer)) → next_ask (planned flight.basis) steps ≡ slice_get left 0
    → flight.sends ≡ sends_of flight.basis steps → IfGoesOn (stepped_at now pending log flight left).next (λ s. s.flight.sends ≡ sends_of flight.basis (with_step (told_step (stepped_at now pending log flight left).reply) steps))
step_sends now pending log flight [] steps next s = tt
step_sends now None log flight (ask ∷ left) steps next s = by (end_given ask given)
  where
    given : Answer
    given = as_answer (answered_to log now flight ask).reply

    by : (o : Option SyncEnd) → IfGoesOn (next_unless o (record { flight = flight_after ask given flight; left = asks_after ask given left })) (λ s. s.flight.sends ≡ sends_of flight.basis ((as_request ask, given) ∷ steps))
    by None = after_sends ask given flight ∙ (λ i. unwrap_or (first_written (sym next i) given) (s i))
    by (Some end) = tt
step_sends now (Some fault.Drop) log flight (ask ∷ left) steps next s = tt
step_sends now (Some fault.Lose) log flight (ask ∷ left) steps next s = tt

-- ---- events

-- A register of which the deed does not speak.
kept : (c w : ℕ) (d : Deed) (past : List Deed) (sync : Sync) → began_by c w d ≡ None → step_told c w d ≡ None → IsRegister c w past sync → IsRegister c w (d ∷ past) sync
kept c w d past sync none untold r = record {
  at = r.at;
  reads = subst (λ steps. IsLeftBy (planned sync.flight.basis) steps sync.left) (sym (steps_of-other c w d past none untold)) r.reads;
  once = r.once;
  begun = sync_of-other c w d past none ∙ r.begun;
  sends = r.sends ∙ sym (ap (sends_of sync.flight.basis) (steps_of-other c w d past none untold));
}

-- One that appends nothing, begins no sync and is no step of one.
pub quiet_syncs : (d : Deed) (past : List Deed) (log : List Entry) (rs : Registers) → HasSyncs past log rs → AppendsNoEntry d log → began_of d.reply ≡ None → told_step d.reply ≡ None → HasSyncs (d ∷ past) log rs
quiet_syncs d past log rs h quiet none untold = record {
  tied = tied_quiet d past log (flights_of_all rs) h.tied quiet;
  each = λ c w sync is. kept c w d past sync (began_by-none c w d none) (step_told-none c w d untold) (h.each c w sync is);
  writes = h.writes;
}

-- One that appends an entry, begins no sync and is no step of one, once what ties is shown of it.
pub other_syncs : (d : Deed) (past : List Deed) (log : List Entry) (e : Entry) (rs : Registers) → HasSyncs past log rs
    → Tied (d ∷ past) (e ∷ log) (flights_of_all rs) → began_of d.reply ≡ None → told_step d.reply ≡ None
    → HasSyncs (d ∷ past) (e ∷ log) rs
other_syncs d past log e rs h tied none untold = record {
  tied = tied;
  each = λ c w sync is. kept c w d past sync (began_by-none c w d none) (step_told-none c w d untold) (h.each c w sync is);
  writes = λ c w sync is. shown_stays log (Some e) sync.flight sync.left (h.writes c w sync is);
}

-- A step of the worker's sync.
pub step_syncs : (d : Deed) (past : List Deed) (log : List Entry) (rs : Registers) (c w now : ℕ) (pending : Option Fault) (sync : Sync) → HasSyncs past log rs → register_at c w rs ≡ Some (Some sync)
    → d.act ≡ does.Step c w → d.reply ≡ (stepped now pending log sync).reply → d.length.0 ≡ length (grown log (stepped now pending log sync).entry) → Stored (grown log (stepped now pending log sync).entry)
    → HasSyncs (d ∷ past) (grown log (stepped now pending log sync).entry) (put_at c w (register_of (stepped now pending log sync).next) rs)
step_syncs d past log rs c w now pending sync h is act told_is grew stays = record {
  tied =
      subst (Tied (d ∷ past) (grown log step.entry)) (sym (here.with_it (register_of step.next) ∙ same_flights step.next))
      (stepped_ties d past log here.front here.back sync.flight now (subst (Tied past log) here.is h.tied) pending sync.left mine.at
      (record { reply = told_is; length_is = grew; sync = ap (option_and_then (λ worker. sync_of worker.0 worker.1 past)) (ap stepper act) ∙ mine.begun }) stays);
  each = λ e v other at. by e v other (put_cases c w e v (register_of step.next) rs other at);
  writes = λ e v other at. shown e v other (put_cases c w e v (register_of step.next) rs other at);
}
  where
    step : Stepped
    step = stepped now pending log sync

    here : Around (flights_of_all rs) (λ new. flights_of_all (put_at c w new rs)) (Some sync)
    here = around c w rs (Some sync) is

    mine : IsRegister c w past sync
    mine = h.each c w sync is

    flies : Flies log sync.flight
    flies = AllFly-one log here.front here.back sync.flight (subst (λ l. Each (Flies log) l) here.is h.tied.flying)

    same_flights : (next : Next) → here.front ++ (flight_in (register_of next) ++ here.back) ≡ here.front ++ (flights_of next ++ here.back)
    same_flights (GoesOn sync) = refl
    same_flights (Ends end) = refl

    none : began_of d.reply ≡ None
    none = ap began_of told_is ∙ step_began now pending log sync.flight sync.left

    before : List (Request × Answer)
    before = steps_of c w past

    told-is : step_told c w d ≡ told_step step.reply
    told-is = cond-true (is_step c w d.act) (told_step d.reply) None (ap (is_step c w) act ∙ ap (λ b. b && (w == w)) (eq-eqb c c refl) ∙ eq-eqb w w refl) ∙ ap told_step told_is

    after : steps_of c w (d ∷ past) ≡ with_step (told_step step.reply) before
    after =
        cond-false (is_some (began_by c w d)) [] (with_step (step_told c w d) before) (ap is_some (began_by-none c w d none))
        ∙ ap (λ o. with_step o before) told-is

    goes : (next : Next) → IfGoesOn next (λ s. IsAt s.flight s.left) → IfGoesOn next (λ s. s.flight.basis ≡ sync.flight.basis) → IfGoesOn next (λ s. IsLeftBy (planned sync.flight.basis) (with_step (told_step step.reply) before) s.left)
        → IfGoesOn next (λ s. s.flight.sends ≡ sends_of sync.flight.basis (with_step (told_step step.reply) before)) → (other : Sync) → register_of next ≡ Some other → IsRegister c w (d ∷ past) other
    goes (GoesOn s) at basis reads sends other e =
        subst (λ (x : Sync). IsRegister c w (d ∷ past) x) (same_some e)
        (record {
          at = at;
          reads =
              subst (λ b. IsLeftBy (planned b) (steps_of c w (d ∷ past)) s.left) (sym basis)
              (subst (λ steps. IsLeftBy (planned sync.flight.basis) steps s.left) (sym after) reads);
          once = subst (λ b. AscendsFrom 0 (lets_of (asks_of (planned b)))) (sym basis) mine.once;
          begun = sync_of-other c w d past (began_by-none c w d none) ∙ mine.begun ∙ ap (λ b. Some (began b)) (sym basis);
          sends = sends ∙ (λ i. sends_of (sym basis i) (sym after i));
        })
    goes (Ends end) at basis reads sends other e = absurd (true≢false (sym (ap is_some e)))

    not_its : (e v : ℕ) → (e ≡ c → v ≡ w → ⊥) → ((c == e) && (w == v)) ≡ false
    not_its e v apart = decide (c == e) (w == v) refl refl
      where
        decide : (a b : Bool) → (c == e) ≡ a → (w == v) ≡ b → (a && b) ≡ false
        decide true true p q = absurd (apart (sym (eqb-true c e p)) (sym (eqb-true w v q)))
        decide true false p q = refl
        decide false b p q = refl

    by : (e v : ℕ) (other : Sync) → PutCases c w e v (register_of step.next) rs other → IsRegister e v (d ∷ past) other
    by e v other (Same c_is w_is mine_is) =
        subst (λ x. IsRegister x v (d ∷ past) other) (sym c_is) (subst (λ x. IsRegister c x (d ∷ past) other) (sym w_is)
        (goes step.next (stepped_next log now sync.flight (Stored-from_legal log h.tied.legal) flies pending sync.left mine.at)
        (step_basis now pending log sync.flight sync.left)
        (step_reads now pending log sync.flight sync.left before mine.once mine.reads)
        (step_sends now pending log sync.flight sync.left before
        (reads_next (planned sync.flight.basis) before sync.left mine.reads) mine.sends) other mine_is))
    by e v other (Other apart was) =
        kept e v d past other (began_by-none e v d none)
        (cond-false (is_step e v d.act) (told_step d.reply) None (ap (is_step e v) act ∙ not_its e v apart)) (h.each e v other was)

    shown_after : (next : Next) → IfGoesOn next (λ s. WritesShow (grown log step.entry) s.flight s.left) → (other : Sync) → register_of next ≡ Some other → WritesShow (grown log step.entry) other.flight other.left
    shown_after (GoesOn s) shows other e = subst (λ (x : Sync). WritesShow (grown log step.entry) x.flight x.left) (same_some e) shows
    shown_after (Ends end) shows other e = absurd (true≢false (sym (ap is_some e)))

    shown : (e v : ℕ) (other : Sync) → PutCases c w e v (register_of step.next) rs other → WritesShow (grown log step.entry) other.flight other.left
    shown e v other (Same c_is w_is mine_is) =
        shown_after step.next (stepped_shown log now sync.flight (Stored-from_legal log h.tied.legal) flies pending sync.left mine.at (h.writes c w sync is)) other mine_is
    shown e v other (Other apart was) = shown_stays log step.entry other.flight other.left (h.writes e v other was)

-- A sync begins in a free register.
pub begin_syncs : (d : Deed) (past : List Deed) (log : List Entry) (rs : Registers) (c w : ℕ) (sync : Sync) → HasSyncs past log rs → register_at c w rs ≡ Some None
    → d.act ≡ does.Begin c w → began_of d.reply ≡ Some (began sync.flight.basis) → Begins d log sync.flight
    → IsUnder sync.flight sync.left → sync.left ≡ asks_of (planned sync.flight.basis)
    → AscendsFrom 0 (lets_of (asks_of (planned sync.flight.basis)))
    → sync.flight.sends ≡ sent_first sync.flight.basis.job → HasSyncs (d ∷ past) log (put_at c w (Some sync) rs)
begin_syncs d past log rs c w sync h is act told_is begins under all once sent = record {
  tied =
      subst (Tied (d ∷ past) log) (sym (here.with_it (Some sync)))
      (tied_begun d past log here.front here.back sync.flight (subst (Tied past log) here.is h.tied) begins);
  each = λ e v other it. by e v other (put_cases c w e v (Some sync) rs other it);
  writes = λ e v other it. shown e v other (put_cases c w e v (Some sync) rs other it);
}
  where
    here : Around (flights_of_all rs) (λ new. flights_of_all (put_at c w new rs)) None
    here = around c w rs None is

    eq_itself : (n : ℕ) → (n == n) ≡ true
    eq_itself n = eq-eqb n n refl

    not_its : (e v : ℕ) → (e ≡ c → v ≡ w → ⊥) → ((c == e) && (w == v)) ≡ false
    not_its e v apart = decide (c == e) (w == v) refl refl
      where
        decide : (a b : Bool) → (c == e) ≡ a → (w == v) ≡ b → (a && b) ≡ false
        decide true true p q = absurd (apart (sym (eqb-true c e p)) (sym (eqb-true w v q)))
        decide true false p q = refl
        decide false b p q = refl

    mine : began_by c w d ≡ Some (began sync.flight.basis)
    mine = cond-true (is_begin c w d.act) (began_of d.reply) None (ap (is_begin c w) act ∙ ap (λ b. b && (w == w)) (eq_itself c) ∙ eq_itself w) ∙ told_is

    by : (e v : ℕ) (other : Sync) → PutCases c w e v (Some sync) rs other → IsRegister e v (d ∷ past) other
    by e v other (Same c_is w_is mine_is) =
        subst (λ (x : Sync). IsRegister e v (d ∷ past) x) (same_some mine_is)
        (subst (λ x. IsRegister x v (d ∷ past) sync) (sym c_is) (subst (λ x. IsRegister c x (d ∷ past) sync) (sym w_is) (record {
          at = Under under;
          reads =
              subst (λ steps. IsLeftBy (planned sync.flight.basis) steps sync.left) (sym (cond-true (is_some (began_by c w d)) [] (with_step (step_told c w d) (steps_of c w past)) (ap is_some mine)))
              (subst (IsLeftBy (planned sync.flight.basis) []) (sym all) (reads_begun (planned sync.flight.basis) once));
          once = once;
          begun = sync_of-begun c w d past (began sync.flight.basis) mine;
          sends = sent ∙ ap (sends_of sync.flight.basis) (sym (cond-true (is_some (began_by c w d)) [] (with_step (step_told c w d) (steps_of c w past)) (ap is_some mine)));
        })))
    by e v other (Other apart was) =
        kept e v d past other (cond-false (is_begin e v d.act) (began_of d.reply) None (ap (is_begin e v) act ∙ not_its e v apart))
        (cond-false (is_step e v d.act) (told_step d.reply) None (ap (is_step e v) act)) (h.each e v other was)

    shown : (e v : ℕ) (other : Sync) → PutCases c w e v (Some sync) rs other → WritesShow log other.flight other.left
    shown e v other (Same c_is w_is mine_is) = subst (λ (x : Sync). WritesShow log x.flight x.left) (same_some mine_is) (NoneWritten under begins.written)
    shown e v other (Other apart was) = h.writes e v other was

-- All registers of a controller become free.
flights_in-freed : (ws : List (Option Sync)) → flights_in (freed ws) ≡ []
flights_in-freed [] = refl
flights_in-freed (x ∷ ws) = flights_in-freed ws

pub record Without (flights rest : List Flight) : Type 0 where
  pub front : List Flight
  pub dropped : List Flight
  pub back : List Flight
  pub were : flights ≡ front ++ (dropped ++ back)
  pub are : rest ≡ front ++ back

restart_drops : (c : ℕ) (rs : Registers) → Without (flights_of_all rs) (flights_of_all (restarted c rs))
restart_drops c [] = record { front = []; dropped = []; back = []; were = refl; are = refl }
restart_drops zero (ws ∷ rs) = record {
  front = [];
  dropped = flights_in ws;
  back = flights_of_all rs;
  were = refl;
  are = ap (λ l. l ++ flights_of_all rs) (flights_in-freed ws);
}
restart_drops (suc c) (ws ∷ rs) =
    let rest = restart_drops c rs in
    record {
      front = flights_in ws ++ rest.front;
      dropped = rest.dropped;
      back = rest.back;
      were = ap (λ l. flights_in ws ++ l) rest.were ∙ sym (append_assoc (flights_in ws) rest.front (rest.dropped ++ rest.back));
      are = ap (λ l. flights_in ws ++ l) rest.are ∙ sym (append_assoc (flights_in ws) rest.front rest.back);
    }

none_freed : (v : ℕ) (ws : List (Option Sync)) (sync : Sync) → slice_get (freed ws) v ≡ Some (Some sync) → ⊥
none_freed v [] sync h = true≢false (sym (ap is_some h))
none_freed zero (x ∷ ws) sync h = true≢false (sym (ap is_some (same_some h)))
none_freed (suc v) (x ∷ ws) sync h = none_freed v ws sync h

restart_keeps : (c d v : ℕ) (rs : Registers) (sync : Sync) → register_at d v (restarted c rs) ≡ Some (Some sync) → register_at d v rs ≡ Some (Some sync)
restart_keeps c d v [] sync h = h
restart_keeps zero zero v (ws ∷ rs) sync h = absurd (none_freed v ws sync h)
restart_keeps zero (suc d) v (ws ∷ rs) sync h = h
restart_keeps (suc c) zero v (ws ∷ rs) sync h = h
restart_keeps (suc c) (suc d) v (ws ∷ rs) sync h = restart_keeps c d v rs sync h

pub restart_syncs : (d : Deed) (past : List Deed) (log : List Entry) (rs : Registers) (c : ℕ) → HasSyncs past log rs → AppendsNoEntry d log → began_of d.reply ≡ None → told_step d.reply ≡ None → HasSyncs (d ∷ past) log (restarted c rs)
restart_syncs d past log rs c h quiet none untold =
    let all = quiet_syncs d past log rs h quiet none untold in
    let w = restart_drops c rs in
    record {
      tied = subst (Tied (d ∷ past) log) (sym w.are) (tied_dropped (d ∷ past) log w.front w.dropped w.back (subst (Tied (d ∷ past) log) w.were all.tied));
      each = λ e v sync is. all.each e v sync (restart_keeps c e v rs sync is);
      writes = λ e v sync is. all.writes e v sync (restart_keeps c e v rs sync is);
    }

-- At the start no sync is under way.
pub start_syncs : (rs : Registers) → ((c w : ℕ) (sync : Sync) → register_at c w rs ≡ Some (Some sync) → ⊥) → flights_of_all rs ≡ [] → HasSyncs [] [] rs
start_syncs rs free none = record {
  tied = subst (Tied [] []) (sym none) tied_start;
  each = λ c w sync is. absurd (free c w sync is);
  writes = λ c w sync is. absurd (free c w sync is);
}

no_flights_in : (ws : List (Option Sync)) → Each (λ (register : Option Sync). register ≡ None) ws → flights_in ws ≡ []
no_flights_in [] free = refl
no_flights_in (register ∷ ws) free = ap (λ o. flight_in o ++ flights_in ws) free.0 ∙ no_flights_in ws free.1

no_flights : (rs : Registers) → AreFree rs → flights_of_all rs ≡ []
no_flights [] free = refl
no_flights (ws ∷ rs) free = ap (λ l. l ++ flights_of_all rs) (no_flights_in ws free.0) ∙ no_flights rs free.1

no_worker : (ws : List (Option Sync)) → Each (λ (register : Option Sync). register ≡ None) ws → (w : ℕ) (sync : Sync) → slice_get ws w ≡ Some (Some sync) → ⊥
no_worker [] free w sync is = true≢false (sym (ap is_some is))
no_worker (register ∷ ws) free zero sync is = true≢false (sym (ap is_some (sym free.0 ∙ same_some is)))
no_worker (register ∷ ws) free (suc w) sync is = no_worker ws free.1 w sync is

no_register : (rs : Registers) → AreFree rs → (c w : ℕ) (sync : Sync) → register_at c w rs ≡ Some (Some sync) → ⊥
no_register [] free c w sync is = true≢false (sym (ap is_some is))
no_register (ws ∷ rs) free zero w sync is = no_worker ws free.0 w sync is
no_register (ws ∷ rs) free (suc c) w sync is = no_register rs free.1 c w sync is

-- So where all registers are free.
pub free_syncs : (rs : Registers) → AreFree rs → HasSyncs [] [] rs
free_syncs rs free = start_syncs rs (no_register rs free) (no_flights rs free)
