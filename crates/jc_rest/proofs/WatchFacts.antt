-- How a controller stands towards a key of which nothing is told any more: no sync that saw the last of it ended well,
-- and those that go on have asked nothing yet; or one asked for nothing at all.
use Rattle.std.proofs.Common.{◌≡◌, ◌⊎◌, inl, inr, ℕ, ◌≤◌, ◌==◌, nat_le, Bool, true, false, cond, ◌&&◌, List, [], ◌∷◌, ◌++◌, length, Option, Some, None, is_some, refl, sym, ap, ◌∙◌, subst, arith, eqb-true, leb-true, true≢false}
use Rattle.std.specs.Option.{option_map, option_or, option_to_list, unwrap_or}
use Rattle.std.proofs.lemmas.Bool.{leb-false}
use Rattle.std.proofs.lemmas.Option.{same_Some}
use Rattle.jc_log.specs.Acts as does
use Rattle.jc_control.specs.declared.ends.SyncEnd.{SyncEnd}
use Rattle.jc_control.specs.declared.ends.SyncEnd.TheVariants as how
use Rattle.jc_control.specs.ControllerCalls.{forgets_caches}
use Rattle.jc_types.specs.declared.actions.Fault.{Fault}
use Rattle.jc_types.specs.declared.actions.Fault.TheVariants.{Drop, Lose}
use Rattle.jc_types.specs.declared.numbers.Version.{Version}
use Rattle.jc_types.specs.declared.objects.Entry.{Entry}
use Rattle.jc_types.specs.declared.objects.Job.{Job}
use Rattle.jc_types.specs.declared.objects.Kind.{Kind}
use Rattle.jc_types.specs.declared.objects.Kind.TheVariants.{Jobs, Pods}
use Rattle.jc_types.specs.declared.objects.Pod.{Pod}
use Rattle.jc_types.specs.declared.replies.Answer.{Answer}
use Rattle.jc_types.specs.declared.replies.Answer.TheVariants as answer
use Rattle.jc_types.specs.declared.replies.Reply.{Reply}
use Rattle.jc_types.specs.declared.replies.Reply.TheVariants as reply
use Rattle.jc_types.specs.declared.replies.Request.{Request}
use Rattle.jc_types.specs.declared.statuses.JobStatus.{JobStatus}
use Rattle.jc_types.specs.declared.runs.Shape.{Shape}
use Rattle.jc_types.specs.declared.objects.KeyNames.{KeyNames as Key}
use Rattle.jc_types.specs.Keys.{same_key}
use Rattle.jc_types.proofs.KeyFacts.{same_key-eq}
use Rattle.jc_states.specs.declared.bases.Basis.{Basis}
use Rattle.jc_log.specs.Acts.{Act}
use Rattle.jc_log.specs.Deeds.{Deed}
use Rattle.jc_log.specs.Log.{job_in, pods_under, upto}
use Rattle.jc_log.specs.Requests.{Answered, grown}
use Rattle.jc_log.specs.Writes.{Stored}
use Rattle.jc_plan.specs.Plans.{planned}
use Rattle.jc_idle.specs.Waits.{AsksNothing}
use Rattle.jc_sync.specs.Flight.{Flight}
use Rattle.jc_sync.specs.Ask.{Ask}
use Rattle.jc_sync.specs.Ask.TheVariants.{MakePod, MarkPod, LetPodGo, WriteFirst, ReleasePod, WriteSecond}
use Rattle.jc_sync.specs.Asks.{as_request, asks_of}
use Rattle.jc_sync.specs.Sends.{sent_first}
use Rattle.jc_sync.specs.Steps.{answered_to, as_answer, stepped_at, written_gives}
use Rattle.jc_history.specs.SoFar.{so_far}
use Rattle.jc_history.specs.Bounds.{TellsWithin, IsTold}
use Rattle.jc_history.specs.Diaries.{end_by, moment, notes, notes_taken, on_begin, on_clock, on_delivery, on_lag, on_list, on_step, restarts}
use Rattle.jc_history.specs.Fresh.{basis as basis_at}
use Rattle.jc_history.specs.Legal.{IsLegal}
use Rattle.jc_history.specs.Lines.{line}
use Rattle.jc_history.specs.Notes.{Note, Began, Asked, Ended, Faulted, newest}
use Rattle.jc_history.specs.Registers.{asks_status, backoff, is_first, made, pending, register, register_told, tells_written}
use Rattle.jc_history.specs.Replies.{gives, log_given, step_gives}
use Rattle.jc_sync.specs.Readings.{with_step}
use Rattle.jc_history.proofs.DiaryFacts.{legal-told}
use Rattle.jc_history.proofs.LegalFacts.{notes-next}
use Rattle.jc_order.specs.Restless.{AllEndRestless}
use Rattle.jc_order.proofs.HonestFacts.{longer-log}
use Rattle.jc_order.proofs.LastFacts.{job-kept, last_told, last-grows, last-job, last-new, tells}
use Rattle.jc_order.proofs.RetryFacts.{step-log, step-reply}
use Rattle.jc_rest.proofs.LastFacts.{last-pods, pods-kept}
use Rattle.jc_rest.proofs.NoAskFacts.{asks-empty}
use Rattle.jc_rest.proofs.TellFacts.{ShowsIn, first-shows, written-shows}
use Rattle.jc_sync.proofs.ReadFacts.{with_marks-none as with-none}

-- A plan without requests and without a moment asks for nothing.
asks-nothing : (basis : Basis) → asks_of (planned basis) ≡ [] → (planned basis).next ≡ None → AsksNothing (planned basis)
asks-nothing basis none at = let empty = asks-empty (planned basis) none in record { idles = empty.0; releases = empty.1; next = at }

module _ (k : Key) (job : Job) (pods : List Pod) (a b : ℕ) where
  -- ---- the log

  -- What the log tells under the key it tells by these versions, and from them on the Job and the pods are these.
  pub record IsLastOf (log : List Entry) : Type 0 where
    pub jobs_by : last_told Jobs k log ≤ a
    pub pods_by : last_told Pods k log ≤ b
    pub job_is : a ≤ length log → job_in k log ≡ Some job
    pub pods_are : b ≤ length log → pods_under k log ≡ pods

  -- So an entry past them is not told.
  untold : (kind : Kind) (e : Entry) (log : List Entry) (n : ℕ) → last_told kind k (e ∷ log) ≤ n → n ≤ length log → tells kind k e ≡ false
  untold kind e log n by within = of (tells kind k e) refl
    where
      of : (t : Bool) → tells kind k e ≡ t → t ≡ false
      of true s = let new = last-new kind k e log s in absurd (omega (arith, new, by, within))
      of false s = refl

  last-older : (e : Entry) (log : List Entry) → Stored (e ∷ log) → IsLastOf (e ∷ log) → IsLastOf log
  last-older e log stored h = record {
    jobs_by = let grows = last-grows Jobs k e log in let le = h.jobs_by in omega (arith, grows, le);
    pods_by = let grows = last-grows Pods k e log in let le = h.pods_by in omega (arith, grows, le);
    job_is = λ within. sym (job-kept k e log (untold Jobs e log a h.jobs_by within)) ∙ h.job_is (omega (arith, within));
    pods_are = λ within. sym (pods-kept k e log stored (untold Pods e log b h.pods_by within)) ∙ h.pods_are (omega (arith, within));
  }

  -- What is told is past both.
  shown-late : (log : List Entry) (x : Answered) → ShowsIn k x → IsLastOf (grown log x.entry) → a ≤ length log → b ≤ length log → ⊥
  shown-late log x shows last jobs pods = by shows.kind shows.told
    where
      whole : IsLastOf (shows.entry ∷ log)
      whole = subst (λ o. IsLastOf (grown log o)) shows.is last

      by : (kind : Kind) → tells kind k shows.entry ≡ true → ⊥
      by Jobs t = true≢false (sym t ∙ untold Jobs shows.entry log a whole.jobs_by jobs)
      by Pods t = true≢false (sym t ∙ untold Pods shows.entry log b whole.pods_by pods)

  -- ---- how the controller stands

  -- The sync saw the last of the key.
  abbrev pub Saw : Basis → Type 0
  Saw basis = (same_key basis.key k ≡ true) × (a ≤ basis.jobs_at.0) × (b ≤ basis.pods_at.0)

  -- It sees the Job and the pods as they are, has asked nothing yet, and the backoff of the key is that with which it
  -- began.
  abbrev pub Kept : ℕ → Basis → List Note → ℕ → Type 0
  Kept w basis notes n =
      (basis.job ≡ Some job) × (basis.pods ≡ pods) × (basis.jobs_at.0 ≤ n) × (basis.pods_at.0 ≤ n) × (made w notes ≡ []) × (basis.backoff ≡ backoff k notes)

  abbrev pub AreKept : List Note → ℕ → Type 0
  AreKept notes n = (w : ℕ) (basis : Basis) → register w notes ≡ Some basis → Saw basis → Kept w basis notes n

  -- A sync that saw the Job and the pods as they are asked for nothing, and the backoff is still that with which it
  -- began.
  abbrev pub Rests : List Note → ℕ → Type 0
  Rests notes n = (basis : Basis) × (basis.job ≡ Some job) × (basis.pods ≡ pods) × AsksNothing (planned basis) × (basis.backoff ≡ backoff k notes) × (a ≤ n) × (b ≤ n)

  abbrev pub Stance : List Note → ℕ → Type 0
  Stance notes n = (AllEndRestless k a b notes × AreKept notes n) ⊎ Rests notes n

  grow : (notes : List Note) (m n : ℕ) → m ≤ n → Stance notes m → Stance notes n
  grow notes m n le (inl h) = inl (h.0, λ w basis r s. let q = h.1 w basis r s in let j = q.2 in let p = q.3 in (q.0, q.1, omega (arith, j, le), omega (arith, p, le), q.4, q.5))
  grow notes m n le (inr r) = let j = r.5 in let p = r.6 in inr (r.0, r.1, r.2, r.3, r.4, omega (arith, j, le), omega (arith, p, le))

  no-notes : (n : ℕ) → Stance [] n
  no-notes n = inl (tt, λ w basis r s. absurd (true≢false (sym (ap is_some r))))

  -- ---- notes

  on_list-stands : (kind : Kind) (log : List Entry) (r : Reply) (older : List Note) (n : ℕ) → Stance older n → Stance (on_list kind log r ++ older) n
  on_list-stands kind log (reply.Listed at) older n (inl h) = inl ((tt, h.0), h.1)
  on_list-stands kind log (reply.Listed at) older n (inr h) = inr h
  on_list-stands kind log other older n s = s

  on_delivery-stands : (kind : Kind) (log : List Entry) (r : Reply) (older : List Note) (n : ℕ) → Stance older n → Stance (on_delivery kind log r ++ older) n
  on_delivery-stands kind log (reply.Delivered version) older n (inl h) = inl ((tt, h.0), h.1)
  on_delivery-stands kind log (reply.Delivered version) older n (inr h) = inr h
  on_delivery-stands kind log (reply.Expired floor) older n (inl h) = inl ((tt, h.0), h.1)
  on_delivery-stands kind log (reply.Expired floor) older n (inr h) = inr h
  on_delivery-stands kind log other older n s = s

  on_clock-stands : (r : Reply) (older : List Note) (n : ℕ) → Stance older n → Stance (on_clock r ++ older) n
  on_clock-stands (reply.Now moment) older n (inl h) = inl ((tt, h.0), h.1)
  on_clock-stands (reply.Now moment) older n (inr h) = inr h
  on_clock-stands other older n s = s

  on_lag-stands : (keys : List Key) (older : List Note) (n : ℕ) → Stance older n → Stance (on_lag keys ++ older) n
  on_lag-stands [] older n s = s
  on_lag-stands (first ∷ keys) older n (inl h) = inl ((tt, h.0), h.1)
  on_lag-stands (first ∷ keys) older n (inr h) = inr h

  fault-stands : (w : ℕ) (fault : Fault) (older : List Note) (n : ℕ) → Stance older n → Stance (Faulted w fault ∷ older) n
  fault-stands w fault older n (inl h) = inl ((tt, h.0), h.1)
  fault-stands w fault older n (inr h) = inr h

  -- A sync begins.
  module _ (log : List Entry) (stored : Stored log) (last : IsLastOf log) (older : List Note) where
    begun-kept : (worker now : ℕ) (key : Key) (j p : Version) → j.0 ≤ length log → p.0 ≤ length log → AreKept older (length log) → AreKept (Began worker (basis_at older log now key j p) ∷ older) (length log)
    begun-kept worker now key j p jobs-in pods-in kept w one r saw = by (worker == w) r
      where
        fresh : Basis
        fresh = basis_at older log now key j p

        same : (basis : Basis) → basis_at older log now key j p ≡ basis → Saw basis
            → (basis.job ≡ Some job) × (basis.pods ≡ pods) × (basis.jobs_at.0 ≤ length log) × (basis.pods_at.0 ≤ length log) × (basis.backoff ≡ backoff k older)
        same basis e saw =
            let named = same_key-eq key k (ap (λ (x : Basis). same_key x.key k) e ∙ saw.0) in
            let jobs = subst (λ (x : Basis). a ≤ x.jobs_at.0) (sym e) saw.1 in
            let ends = subst (λ (x : Basis). b ≤ x.pods_at.0) (sym e) saw.2 in
            let jobs_by = last.jobs_by in
            let pods_by = last.pods_by in
            subst (λ (x : Basis). (x.job ≡ Some job) × (x.pods ≡ pods) × (x.jobs_at.0 ≤ length log) × (x.pods_at.0 ≤ length log) × (x.backoff ≡ backoff k older)) e (
              ap (λ q. job_in q (upto j.0 log)) named ∙ last-job k log j.0 (omega (arith, jobs_by, jobs)) jobs-in ∙ last.job_is (omega (arith, jobs, jobs-in)),
              ap (λ q. pods_under q (upto p.0 log)) named ∙ last-pods k log stored p.0 (omega (arith, pods_by, ends)) pods-in ∙ last.pods_are (omega (arith, ends, pods-in)),
              jobs-in,
              pods-in,
              ap (λ q. backoff q older) named,
            )

        by : (t : Bool) → unwrap_or (option_or (cond t (Some (Some (basis_at older log now key j p))) None) (newest (register_told w) older)) None ≡ Some one
            → (one.job ≡ Some job) × (one.pods ≡ pods) × (one.jobs_at.0 ≤ length log) × (one.pods_at.0 ≤ length log) × (cond t [] (made w older) ≡ []) × (one.backoff ≡ backoff k older)
        by true e = let q = same one (same_Some (basis_at older log now key j p) one e) saw in (q.0, q.1, q.2, q.3, refl, q.4)
        by false e = kept w one e saw

    begin-stands : (worker now : ℕ) (r : Reply) → TellsWithin (length log) r → Stance older (length log) → Stance (on_begin worker now log older r ++ older) (length log)
    begin-stands worker now (reply.Begun key j p) told (inl h) = inl ((tt, h.0), begun-kept worker now key j p told.0 told.1 h.1)
    begin-stands worker now (reply.Begun key j p) told (inr h) = inr h
    begin-stands worker now (reply.Behind kind need have) told s = on_lag-stands (line older) older (length log) s
    begin-stands worker now other told s = s

  -- ---- what a step is answered

  -- What the reply to the first step of a sync that saw the last of the key says.
  abbrev pub IfFirst : Basis → Reply → Type 0
  IfFirst basis (reply.Stepped asked given) = given ≡ answer.Unavailable
  IfFirst basis reply.Ended = asks_of (planned basis) ≡ []
  IfFirst basis other = Unit {0}

  -- It does not tell that a status was written.
  abbrev Unwritten : Reply → Type 0
  Unwritten (reply.Stepped asked given) = (asks_status asked && tells_written given) ≡ false
  Unwritten other = Unit {0}

  module _ (log : List Entry) (now : ℕ) (fault : Option Fault) (basis : Basis) (last : IsLastOf log) where
    first-is : Saw basis → basis.job ≡ Some job → basis.pods ≡ pods → basis.jobs_at.0 ≤ length log → basis.pods_at.0 ≤ length log
        → IsLastOf (grown log (step_gives log now [] fault (Some basis)).entry) → IfFirst basis (step_gives log now [] fault (Some basis)).reply
    first-is saw this are jobs-in pods-in after =
        subst (λ left. IsLastOf (grown log (stepped_at now fault log flight left).entry) → IfFirst basis (stepped_at now fault log flight left).reply) (sym (with-none (asks_of (planned basis))))
        (λ after. by fault (asks_of (planned basis)) refl after) after
      where
        flight : Flight
        flight = record { basis = basis; written = None; sends = sent_first basis.job; released = [] }

        jobs : a ≤ length log
        jobs = let le = saw.1 in omega (arith, le, jobs-in)

        ends : b ≤ length log
        ends = let le = saw.2 in omega (arith, le, pods-in)

        by : (fault : Option Fault) (left : List Ask) → asks_of (planned basis) ≡ left
            → IsLastOf (grown log (stepped_at now fault log (record { basis = basis; written = None; sends = sent_first basis.job; released = [] }) left).entry)
            → IfFirst basis (stepped_at now fault log (record { basis = basis; written = None; sends = sent_first basis.job; released = [] }) left).reply
        by fault [] is after = is
        by None (ask ∷ left) is after =
            absurd (shown-late log (answered_to log now (record { basis = basis; written = None; sends = sent_first basis.job; released = [] }) ask)
            (first-shows k log now basis job saw.0 (last.job_is jobs) this (are ∙ sym (last.pods_are ends))
            (record { basis = basis; written = None; sends = sent_first basis.job; released = [] }) refl
            (ap sent_first this) ask left is) after jobs ends)
        by (Some Drop) (ask ∷ left) is after = refl
        by (Some Lose) (ask ∷ left) is after = refl

    -- No status of the key is told as written.
    none-written : (steps : List (Request × Answer)) (asked : Request) (given : Answer) → reply.Stepped asked given ≡ (step_gives log now steps fault (Some basis)).reply
        → IsLastOf (grown log (step_gives log now steps fault (Some basis)).entry) → a ≤ length log → b ≤ length log
        → same_key basis.key k ≡ true → (asks_status asked && tells_written given) ≡ false
    none-written steps asked given e after jobs ends named = of fault (so_far basis steps).left e after
      where
        flight : Flight
        flight = (so_far basis steps).flight

        neither : (b : Bool) → (b && false) ≡ false
        neither true = refl
        neither false = refl

        written : (o : Option JobStatus) → IsLastOf (grown log (written_gives log (so_far basis steps).flight o).entry) → tells_written (as_answer (written_gives log (so_far basis steps).flight o).reply) ≡ false
        written o after = yes (tells_written (as_answer (written_gives log (so_far basis steps).flight o).reply)) refl
          where
            yes : (t : Bool) → tells_written (as_answer (written_gives log (so_far basis steps).flight o).reply) ≡ t → t ≡ false
            yes true s = absurd (shown-late log (written_gives log (so_far basis steps).flight o) (written-shows k log (so_far basis steps).flight o named s) after jobs ends)
            yes false s = refl

        one : (ask : Ask) → IsLastOf (grown log (answered_to log now (so_far basis steps).flight ask).entry) → (asks_status (as_request ask) && tells_written (as_answer (answered_to log now (so_far basis steps).flight ask).reply)) ≡ false
        one (MakePod index) after = refl
        one (MarkPod u) after = refl
        one (LetPodGo u v) after = refl
        one WriteFirst after = written (planned basis).first after
        one (ReleasePod u) after = refl
        one WriteSecond after = written (planned basis).second after

        by : (fault : Option Fault) (left : List Ask) → IsLastOf (grown log (stepped_at now fault log (so_far basis steps).flight left).entry) → Unwritten (stepped_at now fault log (so_far basis steps).flight left).reply
        by fault [] after = tt
        by None (ask ∷ left) after = one ask after
        by (Some Drop) (ask ∷ left) after = neither (asks_status (as_request ask))
        by (Some Lose) (ask ∷ left) after = neither (asks_status (as_request ask))

        of : (fault : Option Fault) (left : List Ask) → reply.Stepped asked given ≡ (stepped_at now fault log (so_far basis steps).flight left).reply
            → IsLastOf (grown log (stepped_at now fault log (so_far basis steps).flight left).entry) → (asks_status asked && tells_written given) ≡ false
        of fault left e after = subst Unwritten (sym e) (by fault left after)

  -- ---- the notes of a step

  module _ (worker now : ℕ) (basis : Basis) (older : List Note) (n : ℕ) (mine : register worker older ≡ Some basis) where
    -- The other workers' syncs are not touched by a request, where the backoff stays.
    asked-others : (asked : Request) (given : Answer) → AreKept older n → (a ≤ n → b ≤ n → backoff k (Asked worker basis asked given ∷ older) ≡ backoff k older)
        → (w : ℕ) (one : Basis) → (worker == w) ≡ false → register w older ≡ Some one → Saw one → Kept w one (Asked worker basis asked given ∷ older) n
    asked-others asked given kept same w one other r saw =
        let q = kept w one r saw in
        let jobs = saw.1 in
        let ends = saw.2 in
        let j = q.2 in
        let p = q.3 in (
          q.0,
          q.1,
          q.2,
          q.3,
          ap (λ t. with_step (cond t (Some (asked, given)) None) (made w older)) other ∙ q.4,
          q.5 ∙ sym (same (omega (arith, jobs, j)) (omega (arith, ends, p))),
        )

    -- Nor by the end of this one.
    ended-others : (end : SyncEnd) (notes : List Note) → ((w : ℕ) (one : Basis) → (worker == w) ≡ false → register w notes ≡ Some one → Saw one → Kept w one notes n) → AreKept (Ended worker basis end now ∷ notes) n
    ended-others end notes others w one r saw = by (worker == w) refl r
      where
        by : (t : Bool) → (worker == w) ≡ t → unwrap_or (option_or (cond t (Some None) None) (newest (register_told w) notes)) None ≡ Some one → Kept w one notes n
        by true e r = absurd (true≢false (sym (ap is_some r)))
        by false e r = others w one e r saw

    -- A request is answered.
    module _ (asked : Request) (given : Answer) (same : a ≤ n → b ≤ n → backoff k (Asked worker basis asked given ∷ older) ≡ backoff k older)
        (fails : Saw basis → Kept worker basis older n → given ≡ answer.Unavailable) where
      goes-kept : AreKept older n → end_by (asks_status asked) given ≡ None → AreKept (Asked worker basis asked given ∷ older) n
      goes-kept kept goes w one r saw = by (worker == w) refl
        where
          -- An answer that is lost ends the sync.
          ends-it : (s : Bool) (x : Answer) → x ≡ answer.Unavailable → end_by s x ≡ None → ⊥
          ends-it s x e g = true≢false (sym (ap (λ y. is_some (end_by s y)) e ∙ lost s) ∙ ap is_some g)
            where
              lost : (s : Bool) → is_some (end_by s answer.Unavailable) ≡ true
              lost true = refl
              lost false = refl

          by : (t : Bool) → (worker == w) ≡ t → Kept w one (Asked worker basis asked given ∷ older) n
          by true e = absurd (ends-it (asks_status asked) given (fails (subst Saw is saw) (kept worker basis mine (subst Saw is saw))) goes)
            where
              is : one ≡ basis
              is = same_Some one basis (sym r ∙ ap (λ v. register v older) (sym (eqb-true worker w e)) ∙ mine)
          by false e = asked-others asked given kept same w one e r saw

      -- The end that is noted is that of a lost answer, where the sync saw the last of the key.
      lost-well : (s : Bool) (x : Answer) (end : SyncEnd) → x ≡ answer.Unavailable → end_by s x ≡ Some end → forgets_caches end ≡ true
      lost-well s x end e g = ap forgets_caches (same_Some end how.Unavailable (sym g ∙ ap (end_by s) e ∙ lost s))
        where
          lost : (s : Bool) → end_by s answer.Unavailable ≡ Some how.Unavailable
          lost true = refl
          lost false = refl

      asked-stands : Stance older n → Stance (option_to_list (option_map (λ end. Ended worker basis end now) (end_by (asks_status asked) given)) ++ Asked worker basis asked given ∷ older) n
      asked-stands (inl h) = by (end_by (asks_status asked) given) refl
        where
          by : (o : Option SyncEnd) → end_by (asks_status asked) given ≡ o → Stance (option_to_list (option_map (λ end. Ended worker basis end now) o) ++ Asked worker basis asked given ∷ older) n
          by None g = inl ((tt, h.0), goes-kept h.1 g)
          by (Some end) g = inl (
            (λ named jobs ends. inl (lost-well (asks_status asked) given end (fails (named, jobs, ends) (h.1 worker basis mine (named, jobs, ends))) g), (tt, h.0)),
            ended-others end (Asked worker basis asked given ∷ older) (λ w one e r saw. asked-others asked given h.1 same w one e r saw),
          )
      asked-stands (inr h) = by (end_by (asks_status asked) given)
        where
          by : (o : Option SyncEnd) → Stance (option_to_list (option_map (λ end. Ended worker basis end now) o) ++ Asked worker basis asked given ∷ older) n
          by None = inr (h.0, h.1, h.2, h.3, h.4 ∙ sym (same h.5 h.6), h.5, h.6)
          by (Some end) = inr (h.0, h.1, h.2, h.3, h.4 ∙ sym (same h.5 h.6), h.5, h.6)

    -- Nothing was left to ask.
    done-stands : (Saw basis → Kept worker basis older n → asks_of (planned basis) ≡ []) → Stance older n → Stance (Ended worker basis (how.Ended (planned basis).next) now ∷ older) n
    done-stands none (inr h) = inr h
    done-stands none (inl h) = by (planned basis).next refl
      where
        others : (end : SyncEnd) → AreKept (Ended worker basis end now ∷ older) n
        others end = ended-others end older (λ w one e r saw. h.1 w one r saw)

        asleep : (planned basis).next ≡ None → (x : Bool) → same_key basis.key k ≡ x → (y : Bool) → nat_le a basis.jobs_at.0 ≡ y → (z : Bool) → nat_le b basis.pods_at.0 ≡ z → Stance (Ended worker basis (how.Ended None) now ∷ older) n
        asleep at true e true f true g =
            let jobs = leb-true a basis.jobs_at.0 f in
            let ends = leb-true b basis.pods_at.0 g in
            let q = h.1 worker basis mine (e, jobs, ends) in
            let j = q.2 in
            let p = q.3 in
            inr (basis, q.0, q.1, asks-nothing basis (none (e, jobs, ends) q) at, q.5, omega (arith, jobs, j), omega (arith, ends, p))
        asleep at false e y f z g = inl ((λ named jobs ends. absurd (true≢false (sym named ∙ e)), h.0), others (how.Ended None))
        asleep at true e false f z g = inl ((λ named jobs ends. absurd (let lt = leb-false a basis.jobs_at.0 f in omega (arith, lt, jobs)), h.0), others (how.Ended None))
        asleep at true e true f false g = inl ((λ named jobs ends. absurd (let lt = leb-false b basis.pods_at.0 g in omega (arith, lt, ends)), h.0), others (how.Ended None))

        by : (o : Option ℕ) → (planned basis).next ≡ o → Stance (Ended worker basis (how.Ended o) now ∷ older) n
        by (Some moment) e = inl ((λ named jobs ends. inr refl, h.0), others (how.Ended (Some moment)))
        by None e = asleep e (same_key basis.key k) refl (nat_le a basis.jobs_at.0) refl (nat_le b basis.pods_at.0) refl

  -- A step of the worker.
  module _ (log : List Entry) (now : ℕ) (older : List Note) (worker : ℕ) (fault : Option Fault) (last : IsLastOf log) where
    step-stands : (o : Option Basis) → register worker older ≡ o → (r : Reply) → r ≡ (step_gives log now (made worker older) fault o).reply
        → IsLastOf (grown log (step_gives log now (made worker older) fault o).entry) → Stance older (length log) → Stance (on_step worker now o r ++ older) (length log)
    step-stands None mine (reply.Stepped asked given) e after s = s
    step-stands None mine reply.Ended e after s = s
    step-stands None mine other e after s = s
    step-stands (Some basis) mine (reply.Stepped asked given) e after s =
        subst (λ ns. Stance ns (length log)) (joined (option_to_list (option_map (λ end. Ended worker basis end now) (end_by (asks_status asked) given))))
        (asked-stands worker now basis older (length log) mine asked given (λ jobs ends. same jobs ends (same_key basis.key k) refl)
        (λ saw q. subst (IfFirst basis) (sym (e ∙ ap (λ steps. (step_gives log now steps fault (Some basis)).reply) q.4))
        (first-is log now fault basis last saw q.0 q.1 q.2 q.3 (subst (λ steps. IsLastOf (grown log (step_gives log now steps fault (Some basis)).entry)) q.4 after))) s)
      where
        joined : (front : List Note) → front ++ Asked worker basis asked given ∷ older ≡ (front ++ Asked worker basis asked given ∷ []) ++ older
        joined [] = refl
        joined (note ∷ front) = ap (λ l. note ∷ l) (joined front)

        same : a ≤ length log → b ≤ length log → (t : Bool) → same_key basis.key k ≡ t
            → cond (t && (asks_status asked && tells_written given && is_first worker basis older)) (planned basis).backoff (backoff k older) ≡ backoff k older
        same jobs ends false s = refl
        same jobs ends true s =
            ap (λ t. cond t (planned basis).backoff (backoff k older))
            (neither (asks_status asked) (tells_written given) (is_first worker basis older) (none-written log now fault basis last (made worker older) asked given e after jobs ends s))
          where
            neither : (x y z : Bool) → (x && y) ≡ false → (x && y && z) ≡ false
            neither false y z h = refl
            neither true false z h = refl
            neither true true z h = absurd (true≢false h)
    step-stands (Some basis) mine reply.Ended e after s =
        done-stands worker now basis older (length log) mine
        (λ saw q. subst (IfFirst basis) (sym (e ∙ ap (λ steps. (step_gives log now steps fault (Some basis)).reply) q.4))
        (first-is log now fault basis last saw q.0 q.1 q.2 q.3 (subst (λ steps. IsLastOf (grown log (step_gives log now steps fault (Some basis)).entry)) q.4 after))) s
    step-stands (Some basis) mine other e after s = s

  -- ---- all deeds

  stored-before : (shape : Shape) (d : Deed) (past : List Deed) → Stored (log_given shape (d ∷ past)) → Stored (log_given shape past)
  unfolding log_given
  stored-before shape d past h = by (gives shape past (log_given shape past) d.act).entry h
    where
      by : (o : Option Entry) → Stored (grown (log_given shape past) o) → Stored (log_given shape past)
      by None h = h
      by (Some e) h = h.1

  last-before : (shape : Shape) (d : Deed) (past : List Deed) → Stored (log_given shape (d ∷ past)) → IsLastOf (log_given shape (d ∷ past)) → IsLastOf (log_given shape past)
  unfolding log_given
  last-before shape d past stored h = by (gives shape past (log_given shape past) d.act).entry stored h
    where
      by : (o : Option Entry) → Stored (grown (log_given shape past) o) → IsLastOf (grown (log_given shape past) o) → IsLastOf (log_given shape past)
      by None stored h = h
      by (Some e) stored h = last-older e (log_given shape past) stored h

  module _ (shape : Shape) (c : ℕ) (d : Deed) (past : List Deed) (legal : IsLegal shape (d ∷ past)) (stored : Stored (log_given shape (d ∷ past))) (last : IsLastOf (log_given shape (d ∷ past)))
      (before : Stance (notes shape c past (log_given shape past)) (length (log_given shape past))) where
    abbrev old : List Note
    old = notes shape c past (log_given shape past)

    abbrev now-log : List Entry
    now-log = log_given shape (d ∷ past)

    later : Stance (notes shape c past (log_given shape past)) (length (log_given shape (d ∷ past)))
    later = grow (notes shape c past (log_given shape past)) (length (log_given shape past)) (length (log_given shape (d ∷ past))) (longer-log shape d past) before

    either : (t : Bool) (some : List Note) → Stance (some ++ notes shape c past (log_given shape past)) (length (log_given shape (d ∷ past))) → Stance (cond t some [] ++ notes shape c past (log_given shape past)) (length (log_given shape (d ∷ past)))
    either true some s = s
    either false some s = later

    act-stands : (act : Act) → d.act ≡ act → Stance
        (notes_taken c act d.reply (moment shape past) (log_given shape (d ∷ past))
        (notes shape c past (log_given shape past)) ++ notes shape c past (log_given shape past))
        (length (log_given shape (d ∷ past)))
    act-stands (does.List controller kind) e =
        either (controller == c) (on_list kind (log_given shape (d ∷ past)) d.reply) (on_list-stands kind (log_given shape (d ∷ past)) d.reply (notes shape c past (log_given shape past)) (length (log_given shape (d ∷ past))) later)
    act-stands (does.Deliver controller kind) e =
        either (controller == c) (on_delivery kind (log_given shape (d ∷ past)) d.reply) (on_delivery-stands kind (log_given shape (d ∷ past)) d.reply (notes shape c past (log_given shape past)) (length (log_given shape (d ∷ past))) later)
    act-stands (does.Begin controller worker) e =
        either (controller == c) (on_begin worker (moment shape past) (log_given shape (d ∷ past)) (notes shape c past (log_given shape past)) d.reply)
        (begin-stands (log_given shape (d ∷ past)) stored last (notes shape c past (log_given shape past)) worker (moment shape past) d.reply
        (subst (λ act. IsTold (length (log_given shape (d ∷ past))) act d.reply) e (legal-told shape (d ∷ past) legal).0) later)
    act-stands (does.Step controller worker) e = of (controller == c) refl
      where
        of : (t : Bool) → (controller == c) ≡ t
            → Stance (cond t (on_step worker (moment shape past) (register worker (notes shape c past (log_given shape past))) d.reply) [] ++ notes shape c past (log_given shape past)) (length (log_given shape (d ∷ past)))
        of false s = later
        of true s =
            grow (on_step worker (moment shape past) (register worker (notes shape c past (log_given shape past)))
            d.reply ++ notes shape c past (log_given shape past)) (length (log_given shape past))
            (length (log_given shape (d ∷ past))) (longer-log shape d past)
            (step-stands (log_given shape past) (moment shape past) (notes shape c past (log_given shape past)) worker (pending worker (notes shape c past (log_given shape past))) (last-before shape d past stored last)
            (register worker (notes shape c past (log_given shape past))) refl d.reply (step-reply shape d past c worker is legal.0.reply) (subst IsLastOf (step-log shape d past c worker is) last) before)
          where
            is : d.act ≡ does.Step c worker
            is = e ∙ ap (λ x. does.Step x worker) (eqb-true controller c s)
    act-stands (does.PutFault controller worker fault) e =
        either (controller == c) (Faulted worker fault ∷ []) (fault-stands worker fault (notes shape c past (log_given shape past)) (length (log_given shape (d ∷ past))) later)
    act-stands (does.Clock add) e = on_clock-stands d.reply (notes shape c past (log_given shape past)) (length (log_given shape (d ∷ past))) later
    act-stands other e = later

  -- So it stands after each legal history.
  pub stands : (shape : Shape) (c : ℕ) (deeds : List Deed) → IsLegal shape deeds → Stored (log_given shape deeds) → IsLastOf (log_given shape deeds)
      → Stance (notes shape c deeds (log_given shape deeds)) (length (log_given shape deeds))
  stands shape c [] legal stored last = no-notes (length (log_given shape []))
  stands shape c (d ∷ past) legal stored last =
      subst (λ ns. Stance ns (length (log_given shape (d ∷ past)))) (sym (notes-next shape c past d legal.1))
      (by (restarts c d.act)
      (act-stands shape c d past legal stored last (stands shape c past legal.1 (stored-before shape d past stored) (last-before shape d past stored last)) d.act refl))
    where
      by : (t : Bool) → Stance (notes_taken c d.act d.reply (moment shape past) (log_given shape (d ∷ past)) (notes shape c past (log_given shape past)) ++ notes shape c past (log_given shape past)) (length (log_given shape (d ∷ past)))
          → Stance (cond t [] (notes_taken c d.act d.reply (moment shape past) (log_given shape (d ∷ past)) (notes shape c past (log_given shape past)) ++ notes shape c past (log_given shape past))) (length (log_given shape (d ∷ past)))
      by true s = no-notes (length (log_given shape (d ∷ past)))
      by false s = s
