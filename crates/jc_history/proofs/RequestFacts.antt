-- What the notes tell of the requests of a sync is what the deeds tell, and a step reads no more of its sync.
use Rattle.std.proofs.Common.{◌≡◌, ℕ, zero, suc, ◌==◌, ◌&&◌, Bool, true, false, cond, List, [], ◌∷◌, ◌++◌, length, drop, slice_get, Option, Some, None, is_some, refl, sym, ap, ◌∙◌, true≢false, eqb-true}
use Rattle.std.specs.Option.{option_map, option_or, option_to_list, unwrap_or}
use Rattle.jc_log.specs.Acts as does
use Rattle.jc_control.specs.declared.ends.SyncEnd.{SyncEnd}
use Rattle.jc_control.specs.declared.ends.SyncEnd.TheVariants as how
use Rattle.jc_types.specs.declared.actions.Fault.{Fault}
use Rattle.jc_types.specs.declared.actions.Fault.TheVariants as fault
use Rattle.jc_types.specs.declared.objects.Entry.{Entry}
use Rattle.jc_types.specs.declared.objects.Job.{Job}
use Rattle.jc_types.specs.declared.objects.KeyNames.{KeyNames as Key}
use Rattle.jc_types.specs.declared.objects.Kind.{Kind}
use Rattle.jc_types.specs.declared.replies.Answer.{Answer}
use Rattle.jc_types.specs.declared.replies.Reply.{Reply}
use Rattle.jc_types.specs.declared.replies.Reply.TheVariants as reply
use Rattle.jc_types.specs.declared.replies.Request.{Request}
use Rattle.jc_types.specs.declared.runs.Shape.{Shape}
use Rattle.jc_types.specs.declared.statuses.JobStatus.{JobStatus}
use Rattle.jc_states.specs.declared.bases.Basis.{Basis}
use Rattle.jc_log.specs.Acts.{Act}
use Rattle.jc_log.specs.Deeds.{Deed}
use Rattle.jc_plan.specs.Plans.{planned}
use Rattle.jc_ledger.specs.declared.flights.Flight.{Flight}
use Rattle.jc_ledger.specs.Syncs.{Began as SyncBegun, began_by, began_of, is_begin}
use Rattle.jc_asks.specs.declared.asks.Ask.{Ask}
use Rattle.jc_asks.specs.declared.asks.Ask.TheVariants.{MakePod, MarkPod, LetPodGo, WriteFirst, ReleasePod, WriteSecond}
use Rattle.jc_asks.specs.Readings.{is_step, next_ask, step_told, steps_of, told_step, with_step}
use Rattle.jc_asks.specs.Sends.{sends_of}
use Rattle.jc_asks.specs.Steps.{Sync, answered_to, stepped, stepped_by, written_gives, status_gives}
use Rattle.jc_history.specs.SoFar.{so_far}
use Rattle.jc_history.specs.Diaries.{end_by, moment, notes_taken, notes, on_begin, on_clock, on_delivery, on_list, on_step, restarts, on_lag}
use Rattle.jc_history.specs.Fresh.{basis as basis_at}
use Rattle.jc_history.specs.Lines.{line}
use Rattle.jc_history.specs.Notes.{Note, Asked, Ended, Faulted, newest}
use Rattle.jc_history.specs.Registers.{asks_status, made, register, register_told}
use Rattle.jc_history.specs.Replies.{step_done}
use Rattle.std.proofs.lemmas.Option.{none-some as none_some}

-- ---- what a step reads of its sync

-- The flight with what an answer reads of it.
abbrev bare : Flight → Flight
bare flight = record { basis = flight.basis; written = None; sends = flight.sends; released = [] }

bare_status : (log : List Entry) (flight : Flight) (status : Option JobStatus) → written_gives log flight status ≡ written_gives log (bare flight) status
bare_status log flight None = refl
bare_status log flight (Some status) = by flight.basis.job
  where
    by : (o : Option Job) → status_gives log flight status o ≡ status_gives log (bare flight) status o
    by None = refl
    by (Some job) = refl

bare_answer : (log : List Entry) (now : ℕ) (flight : Flight) (ask : Ask) → answered_to log now flight ask ≡ answered_to log now (bare flight) ask
bare_answer log now flight WriteFirst = bare_status log flight (planned flight.basis).first
bare_answer log now flight WriteSecond = bare_status log flight (planned flight.basis).second
bare_answer log now flight (MakePod index) = refl
bare_answer log now flight (MarkPod u) = refl
bare_answer log now flight (LetPodGo u v) = refl
bare_answer log now flight (ReleasePod u) = refl

same_answer : (log : List Entry) (now : ℕ) (a b : Flight) (ask : Ask) → a.basis ≡ b.basis → a.sends ≡ b.sends → answered_to log now a ask ≡ answered_to log now b ask
same_answer log now a b ask x s = bare_answer log now a ask ∙ (λ i. answered_to log now (record { basis = x i; written = None; sends = s i; released = [] }) ask) ∙ sym (bare_answer log now b ask)

-- Two syncs that an answer reads alike make the same step.
same_step : (log : List Entry) (now : ℕ) (pending : Option Fault) (a b : Sync) → a.flight.basis ≡ b.flight.basis
    → a.flight.sends ≡ b.flight.sends → slice_get a.left 0 ≡ slice_get b.left 0 → step_done (stepped now pending log a)
    ≡ step_done (stepped now pending log b)
same_step log now pending a b x s = by a.left b.left pending
  where
    by : (l m : List Ask) (pending : Option Fault) → slice_get l 0 ≡ slice_get m 0 → step_done (stepped now pending log (record { flight = a.flight; left = l })) ≡ step_done (stepped now pending log (record { flight = b.flight; left = m }))
    by [] [] pending e = refl
    by [] (k ∷ m) pending e = absurd (true≢false (sym (ap is_some e)))
    by (k ∷ l) [] pending e = absurd (true≢false (ap is_some e))
    by (k ∷ l) (j ∷ m) None e =
        ap (λ ask. step_done (stepped_by None a.flight ask l (answered_to log now a.flight ask))) (ap (λ o. unwrap_or o k) e)
        ∙ ap (λ given. step_done (stepped_by None b.flight j m given)) (same_answer log now a.flight b.flight j x s)
    by (k ∷ l) (j ∷ m) (Some fault.Drop) e = ap (λ ask. step_done (stepped_by (Some fault.Drop) a.flight ask l (answered_to log now a.flight ask))) (ap (λ o. unwrap_or o k) e)
    by (k ∷ l) (j ∷ m) (Some fault.Lose) e =
        ap (λ ask. step_done (stepped_by (Some fault.Lose) a.flight ask l (answered_to log now a.flight ask))) (ap (λ o. unwrap_or o k) e)
        ∙ ap (λ given. step_done (stepped_by (Some fault.Lose) b.flight j m given)) (same_answer log now a.flight b.flight j x s)

pub first_of_drop : (n : ℕ) (asks : List Ask) → slice_get (drop n asks) 0 ≡ slice_get asks n
first_of_drop zero [] = refl
first_of_drop zero (x ∷ asks) = refl
first_of_drop (suc n) [] = refl
first_of_drop (suc n) (x ∷ asks) = first_of_drop n asks

-- A step of the register's sync is what the answers so far tell.
pub steps-same : (log : List Entry) (now : ℕ) (pending : Option Fault) (sync : Sync) (steps : List (Request × Answer)) → sync.flight.sends ≡ sends_of sync.flight.basis steps → next_ask (planned sync.flight.basis) steps ≡ slice_get sync.left 0
    → step_done (stepped now pending log (so_far sync.flight.basis steps)) ≡ step_done (stepped now pending log sync)
steps-same log now pending sync steps s e = same_step log now pending (so_far sync.flight.basis steps) sync refl (sym s) (first_of_drop (length steps) _ ∙ e)

-- ---- the requests since the begin

-- The notes tell what the deeds do.
abbrev Tells : ℕ → ℕ → List Deed → List Note → Type 0
Tells c w past some = (basis : Basis) → register w some ≡ Some basis → made w some ≡ steps_of c w past

-- Notes that make nothing of the worker's requests, and keep its register.
record Mute (w : ℕ) (new older : List Note) : Type 0 where
  register_is : (basis : Basis) → register w (new ++ older) ≡ Some basis → register w older ≡ Some basis
  made_is : made w (new ++ older) ≡ made w older

module _ (w : ℕ) (older : List Note) where
  none_new : Mute w [] older
  none_new = record { register_is = λ basis e. e; made_is = refl }

  mute_list : (kind : Kind) (log : List Entry) (r : Reply) → Mute w (on_list kind log r) older
  mute_list kind log (reply.Listed at) = record { register_is = λ basis e. e; made_is = refl }
  mute_list kind log other = none_new

  mute_delivery : (kind : Kind) (log : List Entry) (r : Reply) → Mute w (on_delivery kind log r) older
  mute_delivery kind log (reply.Delivered version) = record { register_is = λ basis e. e; made_is = refl }
  mute_delivery kind log (reply.Expired floor) = record { register_is = λ basis e. e; made_is = refl }
  mute_delivery kind log other = none_new

  mute_clock : (r : Reply) → Mute w (on_clock r) older
  mute_clock (reply.Now moment) = record { register_is = λ basis e. e; made_is = refl }
  mute_clock other = none_new

  mute_back : (keys : List Key) → Mute w (on_lag keys) older
  mute_back [] = none_new
  mute_back (k ∷ keys) = record { register_is = λ basis e. e; made_is = refl }

  mute_if : (b : Bool) (new : List Note) → Mute w new older → Mute w (cond b new []) older
  mute_if true new m = m
  mute_if false new m = none_new

module _ (shape : Shape) (c w : ℕ) (past : List Deed) (log : List Entry) (d : Deed) (ih : Tells c w past (notes shape c past log)) where
  abbrev before : List Note
  before = notes shape c past log

  -- The deed is none of the worker's.
  skips : began_by c w d ≡ None → step_told c w d ≡ None → steps_of c w (d ∷ past) ≡ steps_of c w past
  skips b s = ap (λ o. cond (is_some o) [] (with_step (step_told c w d) (steps_of c w past))) b ∙ ap (λ o. with_step o (steps_of c w past)) s

  passes : (new : List Note) → Mute w new before → began_by c w d ≡ None → step_told c w d ≡ None → (basis : Basis) → register w (new ++ before) ≡ Some basis → made w (new ++ before) ≡ steps_of c w (d ∷ past)
  passes new m b s basis e = m.made_is ∙ ih basis (m.register_is basis e) ∙ sym (skips b s)

  no_begin : (act : Act) → d.act ≡ act → is_begin c w act ≡ false → began_by c w d ≡ None
  no_begin act a q = ap (λ b. cond b (began_of d.reply) None) (ap (is_begin c w) a ∙ q)

  no_step : (act : Act) → d.act ≡ act → is_step c w act ≡ false → step_told c w d ≡ None
  no_step act a q = ap (λ b. cond b (told_step d.reply) None) (ap (is_step c w) a ∙ q)

  -- A begin.
  module _ (controller worker : ℕ) (a : d.act ≡ does.Begin controller worker) where
    begin_told : (r : Reply) → d.reply ≡ r → (x y : Bool) → (controller == c) ≡ x → (worker == w) ≡ y → began_by c w d ≡ cond (x && y) (began_of r) None
    begin_told r e x y p q = (λ i. cond (is_begin c w (a i)) (began_of (e i)) None) ∙ (λ i. cond (p i && q i) (began_of r) None)

    none_if : (y : Bool) → cond {A = Option SyncBegun} (true && y) None None ≡ None
    none_if true = refl
    none_if false = refl

    begin_mine : (r : Reply) → d.reply ≡ r → (controller == c) ≡ true → (basis : Basis)
        → register w (on_begin worker (moment shape past) log before r ++ before) ≡ Some basis
        → made w (on_begin worker (moment shape past) log before r ++ before) ≡ steps_of c w (d ∷ past)
    begin_mine (reply.Begun key jobs_at pods_at) e p basis g = by (worker == w) refl g
      where
        by : (y : Bool) → (worker == w) ≡ y → unwrap_or (option_or (cond y (Some (Some (basis_at before log (moment shape past) key jobs_at pods_at))) None) (newest (register_told w) before)) None ≡ Some basis
            → cond y [] (with_step None (made w before)) ≡ steps_of c w (d ∷ past)
        by true q g = sym (ap (λ o. cond (is_some o) [] (with_step (step_told c w d) (steps_of c w past))) (begin_told _ e true true p q))
        by false q g = ih basis g ∙ sym (skips (begin_told _ e true false p q) (no_step _ a refl))
    begin_mine (reply.Behind kind need have) e p basis g =
        passes (on_lag (line before)) (mute_back w before (line before)) (begin_told _ e true (worker == w) p refl ∙ none_if (worker == w)) (no_step _ a refl) basis g
    begin_mine other e p basis g = passes [] (none_new w before) (begin_told _ e true (worker == w) p refl ∙ none_if (worker == w)) (no_step _ a refl) basis g

    begin_tells : (basis : Basis) → register w
        (cond (controller == c) (on_begin worker (moment shape past) log before d.reply) [] ++ before) ≡ Some basis
        → made w (cond (controller == c) (on_begin worker (moment shape past) log before d.reply) [] ++ before)
        ≡ steps_of c w (d ∷ past)
    begin_tells basis = by (controller == c) refl
      where
        by : (x : Bool) → (controller == c) ≡ x
            → register w (cond x (on_begin worker (moment shape past) log before d.reply) [] ++ before) ≡ Some basis
            → made w (cond x (on_begin worker (moment shape past) log before d.reply) [] ++ before)
            ≡ steps_of c w (d ∷ past)
        by true p = begin_mine d.reply refl p basis
        by false p = passes [] (none_new w before) (begin_told d.reply refl false (worker == w) p refl) (no_step _ a refl) basis

  -- A step.
  module _ (controller worker : ℕ) (a : d.act ≡ does.Step controller worker) where
    step_is : (r : Reply) → d.reply ≡ r → (x y : Bool) → (controller == c) ≡ x → (worker == w) ≡ y → step_told c w d ≡ cond (x && y) (told_step r) None
    step_is r e x y p q = (λ i. cond (is_step c w (a i)) (told_step (e i)) None) ∙ (λ i. cond (p i && q i) (told_step r) None)

    none_step : (y : Bool) → cond {A = Option (Request × Answer)} (true && y) None None ≡ None
    none_step true = refl
    none_step false = refl

    goes : (b : Basis) (asked : Request) (given : Answer) → d.reply ≡ reply.Stepped asked given → (controller == c) ≡ true → (basis : Basis) → register w before ≡ Some basis → made w (Asked worker b asked given ∷ before) ≡ steps_of c w (d ∷ past)
    goes b asked given e p basis g = by (worker == w) refl
      where
        by : (y : Bool) → (worker == w) ≡ y → with_step (cond y (Some (asked, given)) None) (made w before) ≡ steps_of c w (d ∷ past)
        by true q =
            ap (with_step (Some (asked, given))) (ih basis g)
            ∙ sym (ap (λ o. cond (is_some o) [] (with_step (step_told c w d) (steps_of c w past))) (no_begin _ a refl) ∙ ap (λ o. with_step o (steps_of c w past)) (step_is _ e true true p q))
        by false q = ih basis g ∙ sym (skips (no_begin _ a refl) (step_is _ e true false p q))

    kept : (b : Basis) (end : SyncEnd) (older : List Note) (basis : Basis) → register w (Ended worker b end (moment shape past) ∷ older) ≡ Some basis → register w older ≡ Some basis
    kept b end older basis = by (worker == w)
      where
        by : (y : Bool) → unwrap_or (option_or (cond y (Some None) None) (newest (register_told w) older)) None ≡ Some basis → register w older ≡ Some basis
        by true e = absurd (none_some basis e)
        by false e = e

    step_mine : (o : Option Basis) (r : Reply) → register worker before ≡ o → d.reply ≡ r → (controller == c) ≡ true
        → (basis : Basis) → register w (on_step worker (moment shape past) o r ++ before) ≡ Some basis
        → made w (on_step worker (moment shape past) o r ++ before) ≡ steps_of c w (d ∷ past)
    step_mine (Some b) (reply.Stepped asked given) is e p basis g = by (end_by (asks_status asked) given) g
      where
        by : (o : Option SyncEnd) → register w ((option_to_list (option_map (λ end. Ended worker b end (moment shape past)) o) ++ Asked worker b asked given ∷ []) ++ before) ≡ Some basis
            → made w ((option_to_list (option_map (λ end. Ended worker b end (moment shape past)) o) ++ Asked worker b asked given ∷ []) ++ before) ≡ steps_of c w (d ∷ past)
        by None g = goes b asked given e p basis g
        by (Some end) g = goes b asked given e p basis (kept b end (Asked worker b asked given ∷ before) basis g)
    step_mine (Some b) reply.Ended is e p basis g = ih basis (kept b (how.Ended (planned b).next) before basis g) ∙ sym (skips (no_begin _ a refl) (step_is _ e true (worker == w) p refl ∙ none_step (worker == w)))
    step_mine (Some b) other is e p basis g = passes [] (none_new w before) (no_begin _ a refl) (step_is _ e true (worker == w) p refl ∙ none_step (worker == w)) basis g
    step_mine None r is e p basis g = by (worker == w) refl
      where
        by : (y : Bool) → (worker == w) ≡ y → made w before ≡ steps_of c w (d ∷ past)
        by true q = absurd (none_some basis (sym is ∙ ap (λ v. register v before) (eqb-true worker w q) ∙ g))
        by false q = ih basis g ∙ sym (skips (no_begin _ a refl) (step_is _ e true false p q))

    step_tells : (basis : Basis) → register w (cond (controller == c) (on_step worker (moment shape past) (register worker before) d.reply) [] ++ before) ≡ Some basis
        → made w (cond (controller == c) (on_step worker (moment shape past) (register worker before) d.reply) [] ++ before) ≡ steps_of c w (d ∷ past)
    step_tells basis = by (controller == c) refl
      where
        by : (x : Bool) → (controller == c) ≡ x → register w (cond x (on_step worker (moment shape past) (register worker before) d.reply) [] ++ before) ≡ Some basis
            → made w (cond x (on_step worker (moment shape past) (register worker before) d.reply) [] ++ before) ≡ steps_of c w (d ∷ past)
        by true p = step_mine (register worker before) d.reply refl refl p basis
        by false p = passes [] (none_new w before) (no_begin _ a refl) (step_is d.reply refl false (worker == w) p refl) basis

  one_deed : (act : Act) → d.act ≡ act → (basis : Basis)
      → register w (notes_taken c act d.reply (moment shape past) log before ++ before) ≡ Some basis
      → made w (notes_taken c act d.reply (moment shape past) log before ++ before) ≡ steps_of c w (d ∷ past)
  one_deed (does.Begin controller worker) a basis g = begin_tells controller worker a basis g
  one_deed (does.Step controller worker) a basis g = step_tells controller worker a basis g
  one_deed (does.List controller kind) a basis g = passes _ (mute_if w before (controller == c) _ (mute_list w before kind log d.reply)) (no_begin _ a refl) (no_step _ a refl) basis g
  one_deed (does.Deliver controller kind) a basis g = passes _ (mute_if w before (controller == c) _ (mute_delivery w before kind log d.reply)) (no_begin _ a refl) (no_step _ a refl) basis g
  one_deed (does.PutFault controller worker fault) a basis g =
      passes _ (mute_if w before (controller == c) (Faulted worker fault ∷ []) (record { register_is = λ basis e. e; made_is = refl })) (no_begin _ a refl) (no_step _ a refl) basis g
  one_deed (does.Clock add) a basis g = passes _ (mute_clock w before d.reply) (no_begin _ a refl) (no_step _ a refl) basis g
  one_deed other a basis g = passes [] (none_new w before) (no_begin _ a refl) (no_step _ a refl) basis g

-- What the notes tell of the requests of a sync under way is what the deeds tell.
pub made-steps : (shape : Shape) (c w : ℕ) (past : List Deed) (log : List Entry) → Tells c w past (notes shape c past log)
made-steps shape c w [] log basis e = absurd (none_some basis e)
made-steps shape c w (d ∷ past) log basis e = by (restarts c d.act) e (one_deed shape c w past log d (made-steps shape c w past log) d.act refl basis)
  where
    new : List Note
    new = notes_taken c d.act d.reply (moment shape past) log (notes shape c past log) ++ notes shape c past log

    by : (b : Bool) → register w (cond b [] new) ≡ Some basis → (register w new ≡ Some basis → made w new ≡ steps_of c w (d ∷ past)) → made w (cond b [] new) ≡ steps_of c w (d ∷ past)
    by true e more = absurd (none_some basis e)
    by false e more = more e
