-- A sync that saw the last entry of its Job is never told of a conflict at a write of the status: the Job that is there
-- is the one that it saw, or the one that it wrote itself, which would be a later entry.
use Rattle.std.proofs.Common.{◌≡◌, ℕ, ◌+◌, ◌≤◌, ◌==◌, min, Bool, true, false, cond, not, List, [], ◌∷◌, ◌++◌, length, drop, slice_get, Option, Some, None, IfSome, is_some, refl, sym, ap, ◌∙◌, subst, arith, eq-eqb, eqb-true}
use Rattle.std.proofs.Common.{true≢false, ◌⊎◌, inl}
use Rattle.std.specs.List.{AllByRecursion as Each}
use Rattle.std.specs.Option.{option_map, option_or, option_to_list, unwrap_or}
use Rattle.std.proofs.lemmas.Option.{same_Some}
use Rattle.jc_log.specs.Acts as does
use Rattle.jc_control.specs.declared.ends.SyncEnd.{SyncEnd}
use Rattle.jc_control.specs.declared.ends.SyncEnd.TheVariants as how
use Rattle.jc_control.specs.ControllerCalls.{forgets_caches}
use Rattle.jc_types.specs.declared.actions.Fault.{Fault}
use Rattle.jc_types.specs.declared.actions.Fault.TheVariants.{Drop, Lose}
use Rattle.jc_types.specs.declared.numbers.Version.{Version}
use Rattle.jc_types.specs.declared.objects.Entry.{Entry}
use Rattle.jc_types.specs.declared.objects.Entry.TheVariants.{JobPut}
use Rattle.jc_types.specs.declared.objects.Job.{Job}
use Rattle.jc_types.specs.declared.objects.Kind.{Kind}
use Rattle.jc_types.specs.declared.objects.Kind.TheVariants.{Jobs}
use Rattle.jc_types.specs.declared.replies.Answer.{Answer}
use Rattle.jc_types.specs.declared.replies.Answer.TheVariants as answer
use Rattle.jc_types.specs.declared.replies.Reply.{Reply}
use Rattle.jc_types.specs.declared.replies.Reply.TheVariants as reply
use Rattle.jc_types.specs.declared.replies.Request.{Request}
use Rattle.jc_types.specs.declared.statuses.JobStatus.{JobStatus}
use Rattle.jc_types.specs.declared.runs.Shape.{Shape}
use Rattle.jc_types.specs.Equality.{same_status}
use Rattle.jc_types.specs.declared.objects.KeyNames.{KeyNames as Key}
use Rattle.jc_types.specs.Keys.{same_key, same_uid}
use Rattle.jc_types.proofs.KeyFacts.{same_key-eq, same_key-itself}
use Rattle.jc_states.specs.declared.bases.Basis.{Basis}
use Rattle.jc_log.specs.Acts.{Act}
use Rattle.jc_log.specs.Deeds.{Deed}
use Rattle.jc_log.specs.Log.{job_in, next_version, upto}
use Rattle.jc_log.specs.Requests.{accepted, grown, refused, with_status, write_status_at}
use Rattle.jc_log.proofs.WriteFacts.{job_in-key}
use Rattle.jc_plan.specs.Plans.{planned}
use Rattle.jc_ledger.specs.declared.flights.Flight.{Flight}
use Rattle.jc_asks.specs.declared.asks.Ask.{Ask}
use Rattle.jc_asks.specs.declared.asks.Ask.TheVariants.{MakePod, MarkPod, LetPodGo, WriteFirst, ReleasePod, WriteSecond}
use Rattle.jc_asks.specs.Asks.{as_request, first_written, written_version}
use Rattle.jc_asks.specs.Readings.{gone_in, next_ask, requests, with_step}
use Rattle.jc_asks.specs.Sends.{sends_of, sent_first}
use Rattle.jc_asks.specs.Steps.{answered_to, as_answer, status_gives, stepped_at, written_gives}
use Rattle.jc_history.specs.SoFar.{so_far}
use Rattle.jc_history.specs.Bounds.{TellsWithin, IsTold}
use Rattle.jc_history.specs.Delays.{added_by_end, is_retried, tries}
use Rattle.jc_history.specs.Diaries.{end_by, moment, notes, notes_taken, on_begin, on_clock, on_delivery, on_lag, on_list, on_step, restarts}
use Rattle.jc_history.specs.Fresh.{basis as basis_at}
use Rattle.jc_history.specs.Legal.{IsLegal}
use Rattle.jc_history.specs.Lines.{line}
use Rattle.jc_history.specs.Notes.{Note, Began, Asked, Ended, Faulted, newest}
use Rattle.jc_history.specs.Registers.{asks_status, made, pending, register, register_told}
use Rattle.jc_history.specs.Replies.{gives, log_given, reply_given, step_gives, step_with}
use Rattle.jc_history.proofs.DiaryFacts.{legal-told}
use Rattle.jc_history.proofs.LegalFacts.{notes-next}
use Rattle.jc_order.specs.Restless.{AllEndRestless, EndsRestless, FailsIf}
use Rattle.jc_order.proofs.LastFacts.{job-kept, last_told, last-grows, last-job, last-new, tells}
use Rattle.jc_history.proofs.RequestFacts.{first_of_drop as first-of-drop}

-- ---- a step

-- The log after a step, and its reply.
pub step-log : (shape : Shape) (d : Deed) (past : List Deed) (c worker : ℕ) → d.act ≡ does.Step c worker
    → log_given shape (d ∷ past) ≡ grown (log_given shape past) (step_with (notes shape c past (log_given shape past)) (log_given shape past) (moment shape past) worker).entry
unfolding log_given gives
step-log shape d past c worker e = ap (λ act. grown (log_given shape past) (gives shape past (log_given shape past) act).entry) e

pub step-reply : (shape : Shape) (d : Deed) (past : List Deed) (c worker : ℕ) → d.act ≡ does.Step c worker → d.reply ≡ reply_given shape past (log_given shape past) d.act
    → d.reply ≡ (step_with (notes shape c past (log_given shape past)) (log_given shape past) (moment shape past) worker).reply
unfolding gives
step-reply shape d past c worker e r = r ∙ ap (reply_given shape past (log_given shape past)) e

-- ---- its requests

-- The answer tells neither of a conflict nor of a write.
abbrev IsMild : Answer → Type 0
IsMild (answer.Conflict current) = ⊥
IsMild (answer.Written version) = ⊥
IsMild other = Unit {0}

mild-unwritten : (given : Answer) → IsMild given → written_version given ≡ None
mild-unwritten (answer.Written version) mild = absurd mild
mild-unwritten other mild = refl

-- The sync is not tried again for a conflict.
abbrev IsNoRetry : SyncEnd → Type 0
IsNoRetry how.Retry = ⊥
IsNoRetry other = Unit {0}

mild-end : (status : Bool) (given : Answer) → (status ≡ true → IsMild given) → IfSome (end_by status given) IsNoRetry
mild-end true (answer.Conflict current) mild = absurd (mild refl)
mild-end true answer.Unavailable mild = tt
mild-end true answer.NotFound mild = tt
mild-end true other mild = tt
mild-end false answer.Unavailable mild = tt
mild-end false other mild = tt

-- What the reply to a step of a sync says, where it tells of a request: a write of the status is answered mildly, and
-- none is told as written.
abbrev AsksMildly : Basis → List (Request × Answer) → Reply → Type 0
AsksMildly basis steps (reply.Stepped asked given) =
    (asks_status asked ≡ true → IsMild given) × (first_written (next_ask (planned basis) steps) given ≡ None)
AsksMildly basis steps other = Unit {0}

module _ (k : Key) (a : ℕ) where
  -- ---- the log

  -- An entry past the version is not told under the key.
  untold : (e : Entry) (log : List Entry) → last_told Jobs k (e ∷ log) ≤ a → a ≤ length log → tells Jobs k e ≡ false
  untold e log by within = of (tells Jobs k e) refl
    where
      of : (t : Bool) → tells Jobs k e ≡ t → t ≡ false
      of true s = let new = last-new Jobs k e log s in absurd (omega (arith, new, by, within))
      of false s = refl

  last-before : (shape : Shape) (d : Deed) (past : List Deed) → last_told Jobs k (log_given shape (d ∷ past)) ≤ a → last_told Jobs k (log_given shape past) ≤ a
  unfolding log_given
  last-before shape d past = by (gives shape past (log_given shape past) d.act).entry
    where
      by : (o : Option Entry) → last_told Jobs k (grown (log_given shape past) o) ≤ a → last_told Jobs k (log_given shape past) ≤ a
      by None le = le
      by (Some e) le = let grows = last-grows Jobs k e (log_given shape past) in omega (arith, grows, le)

  -- ---- what a step is answered

  module _ (log : List Entry) (now : ℕ) (fault : Option Fault) (basis : Basis) (steps : List (Request × Answer)) (named : same_key basis.key k ≡ true)
      (this : basis.job ≡ job_in k log) (sends : sends_of basis steps ≡ sent_first basis.job) (within : a ≤ length log) where
    abbrev flight : Flight
    flight = (so_far basis steps).flight

    -- A write of the status at the version of the Job that is there.
    status-mild : (job : Job) (version : Version) (status : JobStatus) → job_in k log ≡ Some job → version ≡ job.version
        → last_told Jobs k (grown log (write_status_at log job.uid version status (Some job)).entry) ≤ a → IsMild (as_answer (write_status_at log job.uid version status (Some job)).reply)
    status-mild job version status there same =
        by (same_uid job.uid job.uid) (job.version.0 == version.0) (eq-eqb job.version.0 version.0 (ap (λ (v : Version). v.0) (sym same))) (same_status job.status status)
      where
        told : tells Jobs k (JobPut (with_status log job status)) ≡ true
        told = ap (λ q. same_key q k) (job_in-key k log job there) ∙ same_key-itself k

        by : (u v : Bool) → v ≡ true → (s : Bool)
            → last_told Jobs k (grown log (cond (not u) (refused reply.NotFound) (cond (not v) (refused (reply.Conflict job.version))
            (cond s (refused (reply.Unchanged job.version)) (accepted (reply.Written (next_version log)) (JobPut (with_status log job status)))))).entry) ≤ a
            → IsMild (as_answer (cond (not u) (refused reply.NotFound) (cond (not v) (refused (reply.Conflict job.version))
            (cond s (refused (reply.Unchanged job.version)) (accepted (reply.Written (next_version log)) (JobPut (with_status log job status)))))).reply)
        by false v e s after = tt
        by true false e s after = absurd (true≢false (sym e))
        by true true e true after = tt
        by true true e false after = absurd (true≢false (sym told ∙ untold (JobPut (with_status log job status)) log after within))

    write-mild : (o : Option JobStatus) → last_told Jobs k (grown log (written_gives log flight o).entry) ≤ a → IsMild (as_answer (written_gives log flight o).reply)
    write-mild None after = tt
    write-mild (Some status) after = of basis.job refl after
      where
        of : (o : Option Job) → basis.job ≡ o → last_told Jobs k (grown log (status_gives log flight status o).entry) ≤ a → IsMild (as_answer (status_gives log flight status o).reply)
        of None e after = tt
        of (Some job) e after =
            subst (λ (o : Option Job). last_told Jobs k (grown log (write_status_at log job.uid flight.sends status o).entry) ≤ a → IsMild (as_answer (write_status_at log job.uid flight.sends status o).reply))
            (sym (ap (λ q. job_in q log) (same_key-eq basis.key k named) ∙ sym this ∙ e))
            (status-mild job flight.sends status (sym this ∙ e) (sends ∙ ap sent_first e)) after

    step-mild : last_told Jobs k (grown log (step_gives log now steps fault (Some basis)).entry) ≤ a → AsksMildly basis steps (step_gives log now steps fault (Some basis)).reply
    step-mild = by fault (so_far basis steps).left refl
      where
        next-is : (ask : Ask) (left : List Ask) → (so_far basis steps).left ≡ ask ∷ left → next_ask (planned basis) steps ≡ Some ask
        next-is ask left e = sym (first-of-drop (length steps) (requests (planned basis) (gone_in steps))) ∙ ap (λ asks. slice_get asks 0) e

        one : (ask : Ask) → last_told Jobs k (grown log (answered_to log now flight ask).entry) ≤ a → asks_status (as_request ask) ≡ true → IsMild (as_answer (answered_to log now flight ask).reply)
        one (MakePod index) after s = absurd (true≢false (sym s))
        one (MarkPod u) after s = absurd (true≢false (sym s))
        one (LetPodGo u v) after s = absurd (true≢false (sym s))
        one WriteFirst after s = write-mild (planned basis).first after
        one (ReleasePod u) after s = absurd (true≢false (sym s))
        one WriteSecond after s = write-mild (planned basis).second after

        none-first : (ask : Ask) → last_told Jobs k (grown log (answered_to log now flight ask).entry) ≤ a → first_written (Some ask) (as_answer (answered_to log now flight ask).reply) ≡ None
        none-first WriteFirst after = mild-unwritten (as_answer (written_gives log flight (planned basis).first).reply) (write-mild (planned basis).first after)
        none-first other after = refl

        lost : (ask : Ask) → first_written (Some ask) answer.Unavailable ≡ None
        lost WriteFirst = refl
        lost other = refl

        by : (fault : Option Fault) (left : List Ask) → (so_far basis steps).left ≡ left → last_told Jobs k (grown log (stepped_at now fault log flight left).entry) ≤ a → AsksMildly basis steps (stepped_at now fault log flight left).reply
        by fault [] e after = tt
        by None (ask ∷ left) e after = (one ask after, ap (λ o. first_written o (as_answer (answered_to log now flight ask).reply)) (next-is ask left e) ∙ none-first ask after)
        by (Some Drop) (ask ∷ left) e after = (λ s. tt, ap (λ o. first_written o answer.Unavailable) (next-is ask left e) ∙ lost ask)
        by (Some Lose) (ask ∷ left) e after = (λ s. tt, ap (λ o. first_written o answer.Unavailable) (next-is ask left e) ∙ lost ask)

  -- ---- how the controller stands

  -- No sync of the key that saw the version ended for a conflict.
  abbrev pub TriesNone : Note → Type 0
  TriesNone (Ended w basis end now) = same_key basis.key k ≡ true → a ≤ basis.jobs_at.0 → IsNoRetry end
  TriesNone note = Unit {0}

  -- One that goes on sees the Job as it is, and has written no status yet.
  abbrev Kept : ℕ → Basis → List Note → List Entry → Type 0
  Kept w basis notes log = (basis.jobs_at.0 ≤ length log) × (basis.job ≡ job_in k log) × (sends_of basis (made w notes) ≡ sent_first basis.job)

  abbrev AreKept : List Note → List Entry → Type 0
  AreKept notes log = (w : ℕ) (basis : Basis) → register w notes ≡ Some basis → same_key basis.key k ≡ true → a ≤ basis.jobs_at.0 → Kept w basis notes log

  abbrev Stance : List Note → List Entry → Type 0
  Stance notes log = Each TriesNone notes × AreKept notes log

  no-notes : (log : List Entry) → Stance [] log
  no-notes log = (tt, λ w basis r named saw. absurd (true≢false (sym (ap is_some r))))

  -- The log goes on.
  grow : (notes : List Note) (log : List Entry) (o : Option Entry) → last_told Jobs k (grown log o) ≤ a → Stance notes log → Stance notes (grown log o)
  grow notes log None after h = h
  grow notes log (Some e) after h = (h.0, λ w basis r named saw. one w basis saw (h.1 w basis r named saw))
    where
      one : (w : ℕ) (basis : Basis) → a ≤ basis.jobs_at.0 → Kept w basis notes log → Kept w basis notes (e ∷ log)
      one w basis saw q = let j = q.0 in (omega (arith, j), q.1 ∙ sym (job-kept k e log (untold e log after (omega (arith, saw, j)))), q.2)

  -- ---- notes

  on_list-stands : (kind : Kind) (log : List Entry) (r : Reply) (older : List Note) (new : List Entry) → Stance older new → Stance (on_list kind log r ++ older) new
  on_list-stands kind log (reply.Listed at) older new h = ((tt, h.0), h.1)
  on_list-stands kind log other older new h = h

  on_delivery-stands : (kind : Kind) (log : List Entry) (r : Reply) (older : List Note) (new : List Entry) → Stance older new → Stance (on_delivery kind log r ++ older) new
  on_delivery-stands kind log (reply.Delivered version) older new h = ((tt, h.0), h.1)
  on_delivery-stands kind log (reply.Expired floor) older new h = ((tt, h.0), h.1)
  on_delivery-stands kind log other older new h = h

  on_clock-stands : (r : Reply) (older : List Note) (new : List Entry) → Stance older new → Stance (on_clock r ++ older) new
  on_clock-stands (reply.Now moment) older new h = ((tt, h.0), h.1)
  on_clock-stands other older new h = h

  on_lag-stands : (keys : List Key) (older : List Note) (new : List Entry) → Stance older new → Stance (on_lag keys ++ older) new
  on_lag-stands [] older new h = h
  on_lag-stands (first ∷ keys) older new h = ((tt, h.0), h.1)

  -- A sync begins.
  module _ (log : List Entry) (last : last_told Jobs k log ≤ a) (older : List Note) where
    begun-kept : (worker now : ℕ) (key : Key) (j p : Version) → j.0 ≤ length log → AreKept older log → AreKept (Began worker (basis_at older log now key j p) ∷ older) log
    begun-kept worker now key j p jobs-in kept w one r named saw = by (worker == w) r
      where
        same : basis_at older log now key j p ≡ one → (one.jobs_at.0 ≤ length log) × (one.job ≡ job_in k log)
        same e =
            let mine = same_key-eq key k (ap (λ (x : Basis). same_key x.key k) e ∙ named) in
            let seen = subst (λ (x : Basis). a ≤ x.jobs_at.0) (sym e) saw in
            subst (λ (x : Basis). (x.jobs_at.0 ≤ length log) × (x.job ≡ job_in k log)) e (jobs-in, ap (λ q. job_in q (upto j.0 log)) mine ∙ last-job k log j.0 (omega (arith, last, seen)) jobs-in)

        by : (t : Bool) → unwrap_or (option_or (cond t (Some (Some (basis_at older log now key j p))) None) (newest (register_told w) older)) None ≡ Some one
            → (one.jobs_at.0 ≤ length log) × (one.job ≡ job_in k log) × (sends_of one (cond t [] (made w older)) ≡ sent_first one.job)
        by true e = let q = same (same_Some (basis_at older log now key j p) one e) in (q.0, q.1, refl)
        by false e = kept w one e named saw

    begin-stands : (worker now : ℕ) (r : Reply) → TellsWithin (length log) r → Stance older log → Stance (on_begin worker now log older r ++ older) log
    begin-stands worker now (reply.Begun key j p) told h = ((tt, h.0), begun-kept worker now key j p told.0 h.1)
    begin-stands worker now (reply.Behind kind need have) told h = on_lag-stands (line older) older log h
    begin-stands worker now other told h = h

  -- ---- the notes of a step

  module _ (worker now : ℕ) (basis : Basis) (older : List Note) (log : List Entry) (mine : register worker older ≡ Some basis) where
    -- The sync ends: the others go on.
    ended-kept : (end : SyncEnd) (notes : List Note) → AreKept notes log → AreKept (Ended worker basis end now ∷ notes) log
    ended-kept end notes kept w one r named saw = by (worker == w) r
      where
        by : (t : Bool) → unwrap_or (option_or (cond t (Some None) None) (newest (register_told w) notes)) None ≡ Some one → Kept w one notes log
        by true r = absurd (true≢false (sym (ap is_some r)))
        by false r = kept w one r named saw

    -- A request is answered.
    module _ (asked : Request) (given : Answer)
        (mild : same_key basis.key k ≡ true → a ≤ basis.jobs_at.0 → AsksMildly basis (made worker older) (reply.Stepped asked given)) where
      asked-kept : AreKept older log → AreKept (Asked worker basis asked given ∷ older) log
      asked-kept kept w one r named saw = (q.0, q.1, by (worker == w) refl)
        where
          q : Kept w one older log
          q = kept w one r named saw

          by : (t : Bool) → (worker == w) ≡ t → sends_of one (with_step (cond t (Some (asked, given)) None) (made w older)) ≡ sent_first one.job
          by false e = q.2
          by true e = ap (λ o. unwrap_or o (sends_of one (made w older))) (
              (λ i. first_written (next_ask (planned (is i)) (made (at i) older)) given)
              ∙ (mild (ap (λ (x : Basis). same_key x.key k) (sym is) ∙ named) (subst (λ (x : Basis). a ≤ x.jobs_at.0) is saw)).1
              ) ∙ q.2
            where
              at : w ≡ worker
              at = sym (eqb-true worker w e)

              is : one ≡ basis
              is = same_Some one basis (sym r ∙ ap (λ v. register v older) at ∙ mine)

      asked-stands : Stance older log → Stance (option_to_list (option_map (λ end. Ended worker basis end now) (end_by (asks_status asked) given)) ++ Asked worker basis asked given ∷ older) log
      asked-stands h = by (end_by (asks_status asked) given) (λ named saw. mild-end (asks_status asked) given (mild named saw).0)
        where
          by : (o : Option SyncEnd) → (same_key basis.key k ≡ true → a ≤ basis.jobs_at.0 → IfSome o IsNoRetry)
              → Stance (option_to_list (option_map (λ end. Ended worker basis end now) o) ++ Asked worker basis asked given ∷ older) log
          by None g = ((tt, h.0), asked-kept h.1)
          by (Some end) g = ((g, (tt, h.0)), ended-kept end (Asked worker basis asked given ∷ older) (asked-kept h.1))

  -- A step of the worker.
  module _ (log : List Entry) (now : ℕ) (older : List Note) (worker : ℕ) (fault : Option Fault) where
    step-stands : (o : Option Basis) → register worker older ≡ o → (r : Reply) → r ≡ (step_gives log now (made worker older) fault o).reply
        → last_told Jobs k (grown log (step_gives log now (made worker older) fault o).entry) ≤ a → Stance older log → Stance (on_step worker now o r ++ older) log
    step-stands None mine (reply.Stepped asked given) e after h = h
    step-stands None mine reply.Ended e after h = h
    step-stands None mine other e after h = h
    step-stands (Some basis) mine (reply.Stepped asked given) e after h =
        subst (λ ns. Stance ns log) (joined (option_to_list (option_map (λ end. Ended worker basis end now) (end_by (asks_status asked) given))))
        (asked-stands worker now basis older log mine asked given mild h)
      where
        joined : (front : List Note) → front ++ Asked worker basis asked given ∷ older ≡ (front ++ Asked worker basis asked given ∷ []) ++ older
        joined [] = refl
        joined (note ∷ front) = ap (λ l. note ∷ l) (joined front)

        mild : same_key basis.key k ≡ true → a ≤ basis.jobs_at.0 → AsksMildly basis (made worker older) (reply.Stepped asked given)
        mild named saw =
            let q = h.1 worker basis mine named saw in
            let j = q.0 in
            subst (AsksMildly basis (made worker older)) (sym e) (step-mild log now fault basis (made worker older) named q.1 q.2 (omega (arith, saw, j)) after)
    step-stands (Some basis) mine reply.Ended e after h = ((λ named saw. tt, h.0), ended-kept worker now basis older log mine (how.Ended (planned basis).next) older h.1)
    step-stands (Some basis) mine other e after h = h

  -- ---- all deeds

  grow-deed : (shape : Shape) (d : Deed) (past : List Deed) (some : List Note) → last_told Jobs k (log_given shape (d ∷ past)) ≤ a → Stance some (log_given shape past) → Stance some (log_given shape (d ∷ past))
  unfolding log_given
  grow-deed shape d past some last h = grow some (log_given shape past) (gives shape past (log_given shape past) d.act).entry last h

  module _ (shape : Shape) (c : ℕ) (d : Deed) (past : List Deed) (legal : IsLegal shape (d ∷ past)) (last : last_told Jobs k (log_given shape (d ∷ past)) ≤ a)
      (before : Stance (notes shape c past (log_given shape past)) (log_given shape past)) where
    later : Stance (notes shape c past (log_given shape past)) (log_given shape (d ∷ past))
    later = grow-deed shape d past (notes shape c past (log_given shape past)) last before

    either-stands : (t : Bool) (some : List Note) → Stance (some ++ notes shape c past (log_given shape past)) (log_given shape (d ∷ past)) → Stance (cond t some [] ++ notes shape c past (log_given shape past)) (log_given shape (d ∷ past))
    either-stands true some h = h
    either-stands false some h = later

    act-stands : (act : Act) → d.act ≡ act → Stance (notes_taken c act d.reply (moment shape past) (log_given shape (d ∷ past)) (notes shape c past (log_given shape past)) ++ notes shape c past (log_given shape past)) (log_given shape (d ∷ past))
    act-stands (does.List controller kind) e =
        either-stands (controller == c) (on_list kind (log_given shape (d ∷ past)) d.reply) (on_list-stands kind (log_given shape (d ∷ past)) d.reply (notes shape c past (log_given shape past)) (log_given shape (d ∷ past)) later)
    act-stands (does.Deliver controller kind) e =
        either-stands (controller == c) (on_delivery kind (log_given shape (d ∷ past)) d.reply) (on_delivery-stands kind (log_given shape (d ∷ past)) d.reply (notes shape c past (log_given shape past)) (log_given shape (d ∷ past)) later)
    act-stands (does.Begin controller worker) e =
        either-stands (controller == c) (on_begin worker (moment shape past) (log_given shape (d ∷ past)) (notes shape c past (log_given shape past)) d.reply)
        (begin-stands (log_given shape (d ∷ past)) last (notes shape c past (log_given shape past)) worker (moment shape past) d.reply
        (subst (λ act. IsTold (length (log_given shape (d ∷ past))) act d.reply) e (legal-told shape (d ∷ past) legal).0) later)
    act-stands (does.Step controller worker) e = of (controller == c) refl
      where
        of : (t : Bool) → (controller == c) ≡ t
            → Stance (cond t (on_step worker (moment shape past) (register worker (notes shape c past (log_given shape past))) d.reply) [] ++ notes shape c past (log_given shape past)) (log_given shape (d ∷ past))
        of false s = later
        of true s =
            grow-deed shape d past (on_step worker (moment shape past) (register worker (notes shape c past (log_given shape past))) d.reply ++ notes shape c past (log_given shape past)) last
            (step-stands (log_given shape past) (moment shape past) (notes shape c past (log_given shape past)) worker (pending worker (notes shape c past (log_given shape past)))
            (register worker (notes shape c past (log_given shape past))) refl d.reply (step-reply shape d past c worker is legal.0.reply)
            (subst (λ log. last_told Jobs k log ≤ a) (step-log shape d past c worker is) last) before)
          where
            is : d.act ≡ does.Step c worker
            is = e ∙ ap (λ x. does.Step x worker) (eqb-true controller c s)
    act-stands (does.PutFault controller worker fault) e = either-stands (controller == c) (Faulted worker fault ∷ []) ((tt, later.0), later.1)
    act-stands (does.Clock add) e = on_clock-stands d.reply (notes shape c past (log_given shape past)) (log_given shape (d ∷ past)) later
    act-stands other e = later

  stands : (shape : Shape) (c : ℕ) (deeds : List Deed) → IsLegal shape deeds → last_told Jobs k (log_given shape deeds) ≤ a → Stance (notes shape c deeds (log_given shape deeds)) (log_given shape deeds)
  stands shape c [] legal last = no-notes (log_given shape [])
  stands shape c (d ∷ past) legal last =
      subst (λ ns. Stance ns (log_given shape (d ∷ past))) (sym (notes-next shape c past d legal.1))
      (by (restarts c d.act) (act-stands shape c d past legal last (stands shape c past legal.1 (last-before shape d past last)) d.act refl))
    where
      by : (t : Bool) → Stance (notes_taken c d.act d.reply (moment shape past) (log_given shape (d ∷ past)) (notes shape c past (log_given shape past)) ++ notes shape c past (log_given shape past)) (log_given shape (d ∷ past))
          → Stance (cond t [] (notes_taken c d.act d.reply (moment shape past) (log_given shape (d ∷ past)) (notes shape c past (log_given shape past)) ++ notes shape c past (log_given shape past))) (log_given shape (d ∷ past))
      by true h = no-notes (log_given shape (d ∷ past))
      by false h = h

  -- So in a legal history no sync that saw the last entry of its Job is tried again for a conflict.
  pub none-retried : (shape : Shape) (c : ℕ) (deeds : List Deed) → IsLegal shape deeds → last_told Jobs k (log_given shape deeds) ≤ a → Each TriesNone (notes shape c deeds (log_given shape deeds))
  none-retried shape c deeds legal last = (stands shape c deeds legal last).0

  -- ---- how syncs end

  one-well : (from b : ℕ) → from ≤ a → (note : Note) (older : List Note) → FailsIf k from b note → TriesNone note → EndsRestless k a b note older
  one-well from b le (Ended w basis end now) older f tried = λ named saw p. by end (f named (omega (arith, le, saw)) p) (tried named saw)
    where
      by : (end : SyncEnd) → is_retried end ≡ true → IsNoRetry end → (forgets_caches end ≡ true) ⊎ (is_some (added_by_end end now (min (tries k older + 1) 7)) ≡ true)
      by (how.Ended next) e none = absurd (true≢false (sym e))
      by how.Gone e none = absurd (true≢false (sym e))
      by how.Unavailable e none = inl refl
      by how.Retry e none = absurd none
  one-well from b le other older f tried = tt

  -- Where syncs fail that saw the Job from an earlier version on, none that saw the last of it ends well.
  pub all-well : (from b : ℕ) → from ≤ a → (notes : List Note) → Each (FailsIf k from b) notes → Each TriesNone notes → AllEndRestless k a b notes
  all-well from b le [] f tried = tt
  all-well from b le (note ∷ older) f tried = (one-well from b le note older f.0 tried.0, all-well from b le older f.1 tried.1)
