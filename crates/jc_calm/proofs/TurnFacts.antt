-- The turns of a settle.
use Rattle.std.proofs.Common.{◌≡◌, ℕ, ◌+◌, ◌<◌, ◌≤◌, ◌==◌, Bool, true, false, ◌&&◌, not, cond, List, [], ◌∷◌, ◌++◌, length, map, drop, Option, Some, None, is_some, refl, sym, ap, ◌∙◌, subst, arith, eq-eqb, append_assoc, ◌⊎◌, inl, inr}
use Rattle.std.specs.Option.{option_or, unwrap_or}
use Rattle.jc_types.specs.declared.actions.Fault.{Fault}
use Rattle.jc_types.specs.declared.actions.Fault.TheVariants.{Drop, Lose}
use Rattle.jc_types.specs.declared.numbers.Uid.{Uid}
use Rattle.jc_types.specs.declared.objects.Entry.{Entry}
use Rattle.jc_types.specs.declared.objects.Entry.TheVariants.{JobPut}
use Rattle.jc_types.specs.declared.objects.Job.{Job}
use Rattle.jc_types.specs.declared.objects.KeyNames.{KeyNames as Key}
use Rattle.jc_types.specs.declared.replies.Answer.{Answer}
use Rattle.jc_types.specs.declared.replies.Answer.TheVariants as answer
use Rattle.jc_types.specs.declared.replies.Reply.{Reply}
use Rattle.jc_types.specs.declared.replies.Reply.TheVariants as reply
use Rattle.jc_types.specs.declared.replies.Request.{Request}
use Rattle.jc_types.specs.declared.replies.Request.TheVariants as request
use Rattle.jc_types.specs.declared.runs.Shape.{Shape}
use Rattle.jc_types.specs.declared.statuses.JobStatus.{JobStatus}
use Rattle.jc_types.specs.Equality.{same_status}
use Rattle.jc_types.proofs.KeyFacts.{same_uid-itself}
use Rattle.jc_types.proofs.ListFacts.{Each-append}
use Rattle.jc_states.specs.declared.bases.Basis.{Basis}
use Rattle.jc_control.specs.declared.ends.SyncEnd.TheVariants as end
use Rattle.jc_log.specs.Acts as does
use Rattle.jc_log.specs.Deeds.{Deed}
use Rattle.jc_log.specs.Log.{job_in, next_version}
use Rattle.jc_log.specs.Requests.{Answered, accepted, grown, refused, with_status, write_status_at}
use Rattle.jc_log.proofs.LogFacts.{upto-all}
use Rattle.jc_plan.specs.Plans.{planned}
use Rattle.jc_plan.specs.Statuses.{first_value}
use Rattle.jc_plan.proofs.PlanFacts.{plan-first}
use Rattle.jc_sync.proofs.PlanFacts.{changed-some}
use Rattle.jc_sync.proofs.ReadFacts.{with_marks-none}
use Rattle.jc_asks.specs.declared.asks.Ask.{Ask}
use Rattle.jc_asks.specs.declared.asks.Ask.TheVariants.{ReleasePod, WriteFirst}
use Rattle.jc_asks.specs.Asks.{as_request, asks_of, last_asks, second_asks}
use Rattle.jc_asks.specs.Readings.{with_step}
use Rattle.jc_asks.specs.Sends.{sent_first}
use Rattle.jc_asks.specs.Steps.{answered_to, as_answer, status_gives, written_gives}
use Rattle.jc_history.specs.SoFar.{so_far}
use Rattle.jc_history.specs.Diaries.{moment, on_step, ticks}
use Rattle.jc_history.specs.Legal.{IsLegal, IsLegalNext}
use Rattle.jc_history.specs.Lines.{line}
use Rattle.jc_history.specs.Notes.{Note, Asked, Began, Ended, newest}
use Rattle.jc_history.specs.Registers.{asks_status, fault_told, made, pending, register}
use Rattle.jc_history.specs.Replies.{diary, log_given}
use Rattle.jc_settle.specs.Serial.{IsAlone}
use Rattle.jc_settle.specs.Settles.{CatchesUp, IsCalm, is_on_the_way, next_of_settle, settled_on}
use Rattle.jc_settle.proofs.CalmFacts.{all-on, caught-legal}
use Rattle.jc_settle.proofs.CatchFacts.{catches-up}
use Rattle.jc_settle.proofs.OnFacts.{next-legal, on-adds, on-some}
use Rattle.jc_calm.specs.SettleTurns.{AsksForAPod, BeginsAlone, EndsAtOnce, MeetsFault, Turn, WritesStatus, WritesNoMore, Asks, Fails, Finds, Writes, WritesAndAsks, asks_for_a_pod, faults_pending}
use Rattle.jc_calm.proofs.FirstFacts.{StepsNext, alone-steps, begun-begins, begun-caches, begun-is-alone, begun-legal, begun-log, begun-made, begun-notes, begun-now, begun-pending, begun-register, seen}
use Rattle.jc_calm.proofs.NowFacts.{ended-pending, faults-less, faults-most, now-same, now-told}
use Rattle.jc_calm.proofs.PlanFacts.{AsksFirst, First, IsLate, Nothing, Pod, asks-first, second-none}
use Rattle.jc_calm.proofs.StepFacts.{all-free, ends-calm, given-at, grew-so, noted, told-so}

-- ---- what is left to ask

drop-none : {A : Type 0} (xs : List A) → drop 0 xs ≡ xs
drop-none [] = refl
drop-none (x ∷ xs) = refl

-- At its begin all that its plan asks.
left-first : (basis : Basis) → (so_far basis []).left ≡ asks_of (planned basis)
left-first basis = drop-none _ ∙ with_marks-none (asks_of (planned basis))

-- Behind the write of its first status the rest.
abbrev wrote : List Entry → List (Request × Answer)
wrote log = (request.Status, answer.Written (next_version log)) ∷ []

left-then : (basis : Basis) (log : List Entry) (ask : Ask) (left : List Ask) → asks_of (planned basis) ≡ ask ∷ left → (so_far basis (wrote log)).left ≡ left
left-then basis log ask left are = ap (drop 1) (with_marks-none (asks_of (planned basis)) ∙ are) ∙ drop-none left

module _ (shape : Shape) (some : 0 < shape.workers) (past : List Deed) (legal : IsLegal shape past)
    (calm : IsCalm shape past) (d : Deed) (c w : ℕ) (k : Key) (rest : List Key) (e : next_of_settle shape past ≡ Some d)
    (lt : c < shape.controllers) (less : w < shape.workers)
    (a : d.act ≡ does.Begin c w) (first : line (diary shape c past) ≡ k ∷ rest) where
  abbrev log : List Entry
  log = log_given shape past

  abbrev now : ℕ
  now = moment shape past

  abbrev basis : Basis
  basis = seen shape past legal calm d c w k rest e lt less a first

  abbrev begun : List Deed
  begun = d ∷ past

  legal-then : IsLegal shape begun
  legal-then = begun-legal shape past legal calm d c w k rest e lt less a first

  log-then : log_given shape begun ≡ log
  log-then = begun-log shape past legal calm d c w k rest e lt less a first

  now-then : moment shape begun ≡ now
  now-then = begun-now shape past legal calm d c w k rest e lt less a first

  alone-then : IsAlone shape begun c w
  alone-then = begun-is-alone shape past legal calm d c w k rest e lt less a first

  register-then : register w (diary shape c begun) ≡ Some basis
  register-then = begun-register shape past legal calm d c w k rest e lt less a first

  notes-then : (x : ℕ) → diary shape x begun ≡ cond (c == x) (Began w basis ∷ []) [] ++ diary shape x past
  notes-then = begun-notes shape past legal calm d c w k rest e lt less a first

  pending-then : (x v : ℕ) → pending v (diary shape x begun) ≡ pending v (diary shape x past)
  pending-then = begun-pending shape past legal calm d c w k rest e lt less a first

  steps : StepsNext shape begun c w
  steps = alone-steps shape some begun c w basis legal-then (begun-caches shape past legal calm d c w k rest e lt less a first) alone-then lt less register-then

  abbrev step : Deed
  step = steps.step

  next-then : IsLegalNext shape begun step
  next-then = next-legal shape begun step steps.next

  after : settled_on shape 2 past ≡ step ∷ begun
  after = on-some shape 1 past d e ∙ on-some shape 0 begun step steps.next

  -- What the step is answered, by the fault and what is left to ask.
  module _ (fault : Option Fault) (left : List Ask) (p : pending w (diary shape c past) ≡ fault) (l : asks_of (planned basis) ≡ left) where
    abbrev given : Answered
    given = given-at log now [] fault basis left

    replied : step.reply ≡ given.reply
    replied =
        told-so shape begun legal-then step next-then c w basis steps.act register-then [] fault left (begun-made shape past legal calm d c w k rest e lt less a first) (pending-then c w ∙ p) (left-first basis ∙ l)
        ∙ (λ i. (given-at (log-then i) (now-then i) [] fault basis left).reply)

    grew : log_given shape (step ∷ begun) ≡ grown log given.entry
    grew =
        grew-so shape begun legal-then step next-then c w basis steps.act register-then [] fault left (begun-made shape past legal calm d c w k rest e lt less a first) (pending-then c w ∙ p) (left-first basis ∙ l)
        ∙ (λ i. grown (log-then i) (given-at (log-then i) (now-then i) [] fault basis left).entry)

  noted-then : (x : ℕ) (said : Reply) → step.reply ≡ said → diary shape x (step ∷ begun) ≡ cond (c == x) (on_step w now (Some basis) said) [] ++ diary shape x begun
  noted-then x said h = noted shape begun legal-then step next-then c w basis steps.act register-then x said h ∙ ap (λ n. cond (c == x) (on_step w n (Some basis) said) [] ++ diary shape x begun) now-then

  now-step : moment shape (step ∷ begun) ≡ now
  now-step = now-same shape step begun (ap ticks steps.act) ∙ now-then

  -- ---- nothing to do

  module _ (none : asks_of (planned basis) ≡ []) (unwritten : (planned basis).first ≡ None) where
    found-reply : step.reply ≡ reply.Ended
    found-reply = by (pending w (diary shape c past)) refl
      where
        by : (fault : Option Fault) → pending w (diary shape c past) ≡ fault → step.reply ≡ reply.Ended
        by fault p = replied fault [] p none

    found-log : log_given shape (step ∷ begun) ≡ log
    found-log = grew (pending w (diary shape c past)) [] refl none

    found-pending : (x v : ℕ) → pending v (diary shape x (step ∷ begun)) ≡ pending v (diary shape x past)
    found-pending x v = ap (pending v) (noted-then x reply.Ended found-reply) ∙ by (c == x) ∙ pending-then x v
      where
        by : (b : Bool) → pending v (cond b (Ended w basis (end.Ended (planned basis).next) now ∷ []) [] ++ diary shape x begun) ≡ pending v (diary shape x begun)
        by true = ended-pending v w basis (planned basis).next now (diary shape x begun)
        by false = refl

    finds : EndsAtOnce shape past c w basis d step
    finds = record {
      asks = none;
      writes = unwritten;
      after = after;
      reply = found-reply;
      log_is = found-log;
      now_is = now-step;
      notes = λ x. noted-then x reply.Ended found-reply ∙ ap (λ older. cond (c == x) (Ended w basis (end.Ended (planned basis).next) now ∷ []) [] ++ older) (notes-then x) ∙ both x (c == x);
      calm = ends-calm shape begun legal-then step next-then c w basis steps.act register-then (begun-caches shape past legal calm d c w k rest e lt less a first) alone-then found-reply (found-log ∙ sym log-then);
      faults = faults-most shape past (step ∷ begun) found-pending;
    }
      where
        both : (x : ℕ) (b : Bool) → cond b (Ended w basis (end.Ended (planned basis).next) now ∷ []) [] ++ (cond b (Began w basis ∷ []) [] ++ diary shape x past)
            ≡ cond b (Ended w basis (end.Ended (planned basis).next) now ∷ Began w basis ∷ []) [] ++ diary shape x past
        both x true = refl
        both x false = refl

  -- ---- a pod

  abbrev asks-pod : (ask : Ask) (left : List Ask) → asks_of (planned basis) ≡ ask ∷ left → asks_status (as_request ask) ≡ false → pending w (diary shape c past) ≡ None → AsksForAPod shape past
  asks-pod ask left are pod p = record {
    events = 1;
    ask = step;
    next = ap (next_of_settle shape) (on-some shape 0 past d e) ∙ steps.next;
    asks = ap asks_for_a_pod (replied None (ask ∷ left) p are) ∙ ap not pod;
  }

  -- ---- a fault

  module _ (fault : Fault) (ask : Ask) (left : List Ask) (p : pending w (diary shape c past) ≡ Some fault) (are : asks_of (planned basis) ≡ ask ∷ left) where
    failed-reply : step.reply ≡ reply.Stepped (as_request ask) answer.Unavailable
    failed-reply = replied (Some fault) (ask ∷ left) p are ∙ by fault
      where
        by : (fault : Fault) → (given-at log now [] (Some fault) basis (ask ∷ left)).reply ≡ reply.Stepped (as_request ask) answer.Unavailable
        by Drop = refl
        by Lose = refl

    abbrev its-end : Note
    its-end = Ended w basis end.Unavailable now

    abbrev failed-notes : List Note
    failed-notes = on_step w now (Some basis) (reply.Stepped (as_request ask) answer.Unavailable)

    -- Each other fault stays pending.
    failed-others : (x v : ℕ) → (pending v (diary shape x (step ∷ begun)) ≡ pending v (diary shape x past)) ⊎ (pending v (diary shape x (step ∷ begun)) ≡ None)
    failed-others x v = by (c == x) (ap (pending v) (noted-then x _ failed-reply)) (w == v)
      where
        by : (b : Bool) → pending v (diary shape x (step ∷ begun))
            ≡ pending v (cond b failed-notes [] ++ diary shape x begun) → Bool
            → (pending v (diary shape x (step ∷ begun)) ≡ pending v (diary shape x past))
            ⊎ (pending v (diary shape x (step ∷ begun)) ≡ None)
        by false h t = inl (h ∙ pending-then x v)
        by true h t = on (w == v) refl
          where
            told : (t : Bool) → (w == v) ≡ t → pending v (diary shape x (step ∷ begun)) ≡ unwrap_or (option_or (cond (t && true) (Some None) None) (newest (fault_told v) (Asked w basis (as_request ask) answer.Unavailable ∷ diary shape x begun))) None
            told t q = h ∙ ap (λ t. unwrap_or (option_or (cond (t && true) (Some None) None) (newest (fault_told v) (Asked w basis (as_request ask) answer.Unavailable ∷ diary shape x begun))) None) q

            on : (t : Bool) → (w == v) ≡ t → (pending v (diary shape x (step ∷ begun)) ≡ pending v (diary shape x past)) ⊎ (pending v (diary shape x (step ∷ begun)) ≡ None)
            on true q = inr (told true q)
            on false q = inl (told false q ∙ pending-then x v)

    failed-own : pending w (diary shape c (step ∷ begun)) ≡ None
    failed-own =
        ap (pending w) (noted-then c _ failed-reply ∙ ap (λ b. cond b failed-notes [] ++ diary shape c begun) (eq-eqb c c refl))
        ∙ ap (λ t. unwrap_or (option_or (cond (t && true) (Some None) None) (newest (fault_told w) (Asked w basis (as_request ask) answer.Unavailable ∷ diary shape c begun))) None) (eq-eqb w w refl)

    failed-free : (x : ℕ) → x < shape.controllers → (v : ℕ) → v < shape.workers → register v (diary shape x (step ∷ begun)) ≡ None
    failed-free =
        all-free shape begun legal-then step next-then c w basis steps.act register-then alone-then end.Unavailable now (Asked w basis (as_request ask) answer.Unavailable ∷ []) (λ v older. refl)
        (λ x. noted-then x _ failed-reply)

    failed-told : CatchesUp shape (step ∷ begun)
    failed-told = catches-up shape some (step ∷ begun) (next-then, legal-then)

    fails : MeetsFault shape past c w d step
    fails = by failed-told
      where
        by : CatchesUp shape (step ∷ begun) → MeetsFault shape past c w d step
        by u = record {
          fault = fault;
          is_pending = p;
          after = after;
          asked = as_request ask;
          reply = failed-reply;
          events = 2 + u.events;
          now_is = ap (moment shape) final ∙ now-told shape u.run (step ∷ begun) u.telling ∙ now-step;
          calm = subst (IsCalm shape) (sym final) (record { caches = u.caches; free = λ x l v m. (u.syncs x v).register_is ∙ failed-free x l v m });
          fewer = subst (λ deeds. faults_pending shape deeds < faults_pending shape past) (sym final)
              (faults-less shape past (u.run ++ step ∷ begun) c w lt less (ap is_some p) ((u.syncs c w).pending_is ∙ failed-own) others);
        }
          where
            final : settled_on shape (2 + u.events) past ≡ u.run ++ step ∷ begun
            final = on-adds shape 2 u.events past ∙ ap (settled_on shape u.events) after ∙ u.are

            others : (x v : ℕ) → (pending v (diary shape x (u.run ++ step ∷ begun)) ≡ pending v (diary shape x past)) ⊎ (pending v (diary shape x (u.run ++ step ∷ begun)) ≡ None)
            others x v = on (failed-others x v)
              where
                on : (pending v (diary shape x (step ∷ begun)) ≡ pending v (diary shape x past)) ⊎ (pending v (diary shape x (step ∷ begun)) ≡ None)
                    → (pending v (diary shape x (u.run ++ step ∷ begun)) ≡ pending v (diary shape x past)) ⊎ (pending v (diary shape x (u.run ++ step ∷ begun)) ≡ None)
                on (inl h) = inl ((u.syncs x v).pending_is ∙ h)
                on (inr h) = inr ((u.syncs x v).pending_is ∙ h)

  -- ---- a status

  module _ (job : Job) (status : JobStatus) (this : basis.job ≡ Some job) (f : (planned basis).first ≡ Some status) (late : IsLate basis)
      (are : asks_of (planned basis) ≡ WriteFirst ∷ last_asks (planned basis).releases (planned basis).second) (p : pending w (diary shape c past) ≡ None) where
    abbrev last : List Ask
    last = last_asks (planned basis).releases (planned basis).second

    there : job_in k log ≡ Some job
    there = sym (ap (job_in k) (upto-all (length log) log (omega arith))) ∙ this

    differs : same_status job.status status ≡ false
    differs = let change = changed-some job.status (first_value job basis) status (sym (plan-first basis job this) ∙ f) in ap (same_status job.status) change.is ∙ change.differs

    abbrev put : Answered
    put = accepted (reply.Written (next_version log)) (JobPut (with_status log job status))

    -- The store takes it.
    put-is : answered_to log now (so_far basis []).flight WriteFirst ≡ put
    put-is =
        ap (written_gives log (so_far basis []).flight) f
        ∙ ap (status_gives log (so_far basis []).flight status) this
        ∙ (λ i. write_status_at log job.uid (sent_first (this i)) status (there i))
        ∙ (λ i. cond {A = Answered} (not (same_uid-itself job.uid i)) (refused reply.NotFound)
        (cond (not (eq-eqb job.version.0 job.version.0 refl i)) (refused (reply.Conflict job.version))
        (cond (differs i) (refused (reply.Unchanged job.version)) put)))

    wrote-reply : step.reply ≡ reply.Stepped request.Status (answer.Written (next_version log))
    wrote-reply = replied None (WriteFirst ∷ last) p are ∙ ap (λ (x : Answered). reply.Stepped request.Status (as_answer x.reply)) put-is

    wrote-log : log_given shape (step ∷ begun) ≡ JobPut (with_status log job status) ∷ log
    wrote-log = grew None (WriteFirst ∷ last) p are ∙ ap (λ (x : Answered). grown log x.entry) put-is

    writes-first : WritesStatus shape past c w basis job status d step
    writes-first = record { no_fault = p; job_is = this; status_is = f; creates = late.creates; marks = late.marks; let_goes = late.let_goes; after = after; reply = wrote-reply; log_is = wrote-log }

    wrote-notes : (x : ℕ) → diary shape x (step ∷ begun) ≡ cond (c == x) (Asked w basis request.Status (answer.Written (next_version log)) ∷ []) [] ++ diary shape x begun
    wrote-notes x = noted-then x _ wrote-reply

    wrote-same : {A : Type 0} (f : List Note → A) → ((older : List Note) → f (Asked w basis request.Status (answer.Written (next_version log)) ∷ older) ≡ f older) → (x : ℕ) → f (diary shape x (step ∷ begun)) ≡ f (diary shape x begun)
    wrote-same f h x = ap f (wrote-notes x) ∙ by (c == x)
      where
        by : (b : Bool) → f (cond b (Asked w basis request.Status (answer.Written (next_version log)) ∷ []) [] ++ diary shape x begun) ≡ f (diary shape x begun)
        by true = h (diary shape x begun)
        by false = refl

    wrote-made : made w (diary shape c (step ∷ begun)) ≡ wrote log
    wrote-made =
        ap (made w) (wrote-notes c ∙ ap (λ b. cond b (Asked w basis request.Status (answer.Written (next_version log)) ∷ []) [] ++ diary shape c begun) (eq-eqb c c refl))
        ∙ (λ i. with_step (cond (eq-eqb w w refl i) (Some (request.Status, answer.Written (next_version log))) None) (begun-made shape past legal calm d c w k rest e lt less a first i))

    -- Once each cache is told of it.
    module _ (u : CatchesUp shape (step ∷ begun)) where
      abbrev told : List Deed
      told = u.run ++ step ∷ begun

      told-legal : IsLegal shape told
      told-legal = caught-legal shape (step ∷ begun) u (next-then, legal-then)

      told-settled : settled_on shape (2 + u.events) past ≡ told
      told-settled = on-adds shape 2 u.events past ∙ ap (settled_on shape u.events) after ∙ u.are

      told-register : (x v : ℕ) → register v (diary shape x told) ≡ register v (diary shape x begun)
      told-register x v = (u.syncs x v).register_is ∙ wrote-same (register v) (λ older. refl) x

      told-own : register w (diary shape c told) ≡ Some basis
      told-own = told-register c w ∙ register-then

      told-alone : IsAlone shape told c w
      told-alone x v l m h = alone-then x v l m (ap is_some (sym (told-register x v)) ∙ h)

      told-pending : (x v : ℕ) → pending v (diary shape x told) ≡ pending v (diary shape x past)
      told-pending x v = (u.syncs x v).pending_is ∙ wrote-same (pending v) (λ older. refl) x ∙ pending-then x v

      told-made : made w (diary shape c told) ≡ wrote log
      told-made = (u.syncs c w).made_is ∙ wrote-made

      told-log : log_given shape told ≡ JobPut (with_status log job status) ∷ log
      told-log = u.log_is ∙ wrote-log

      told-now : moment shape told ≡ now
      told-now = now-told shape u.run (step ∷ begun) u.telling ∙ now-step

      last-steps : StepsNext shape told c w
      last-steps = alone-steps shape some told c w basis told-legal u.caches told-alone lt less told-own

      abbrev more : Deed
      more = last-steps.step

      next-more : IsLegalNext shape told more
      next-more = next-legal shape told more last-steps.next

      module _ (left : List Ask) (l : last ≡ left) where
        last-left : (so_far basis (wrote log)).left ≡ left
        last-left = left-then basis log WriteFirst last are ∙ l

        last-reply : more.reply ≡ (given-at (log_given shape told) (moment shape told) (wrote log) None basis left).reply
        last-reply = told-so shape told told-legal more next-more c w basis last-steps.act told-own (wrote log) None left told-made (told-pending c w ∙ p) last-left

        last-grew : log_given shape (more ∷ told) ≡ grown (log_given shape told) (given-at (log_given shape told) (moment shape told) (wrote log) None basis left).entry
        last-grew = grew-so shape told told-legal more next-more c w basis last-steps.act told-own (wrote log) None left told-made (told-pending c w ∙ p) last-left

      -- It asks for a pod.
      releases-pod : (pod : Uid) (others : List Uid) → (planned basis).releases ≡ pod ∷ others → AsksForAPod shape past
      releases-pod pod others r = record {
        events = 2 + u.events;
        ask = more;
        next = ap (next_of_settle shape) told-settled ∙ last-steps.next;
        asks = ap asks_for_a_pod (last-reply (ReleasePod pod ∷ (map ReleasePod others ++ second_asks (planned basis).second)) (ap (λ uids. last_asks uids (planned basis).second) r));
      }

      -- Or for nothing.
      no-more : (planned basis).releases ≡ [] → WritesNoMore shape past basis job status
      no-more r = record {
        events = 2 + u.events + 1;
        begin = d;
        next = e;
        run = more ∷ (u.run ++ step ∷ []);
        are = final ∙ ap (λ l. more ∷ l) (sym (append_assoc u.run (step ∷ []) begun));
        way = (ap is_on_the_way last-steps.act, Each-append (λ (x : Deed). is_on_the_way x.act ≡ true) u.run (step ∷ []) (all-on shape u.run u.telling) (ap is_on_the_way steps.act, tt));
        releases = r;
        second = s;
        log_is = ap (log_given shape) final ∙ grew-none ∙ told-log;
        now_is = ap (moment shape) final ∙ now-same shape more told (ap ticks last-steps.act) ∙ told-now;
        calm = subst (IsCalm shape) (sym final) (ends-calm shape told told-legal more next-more c w basis last-steps.act told-own u.caches told-alone ends grew-none);
        faults = subst (λ deeds. faults_pending shape deeds ≤ faults_pending shape past) (sym final) (faults-most shape past (more ∷ told) ended-same);
      }
        where
          s : (planned basis).second ≡ None
          s = second-none basis r

          left-none : last ≡ []
          left-none = λ i. last_asks (r i) (s i)

          ends : more.reply ≡ reply.Ended
          ends = last-reply [] left-none

          grew-none : log_given shape (more ∷ told) ≡ log_given shape told
          grew-none = last-grew [] left-none

          final : settled_on shape (2 + u.events + 1) past ≡ more ∷ told
          final = on-adds shape (2 + u.events) 1 past ∙ ap (settled_on shape 1) told-settled ∙ on-some shape 0 told more last-steps.next

          ended-same : (x v : ℕ) → pending v (diary shape x (more ∷ told)) ≡ pending v (diary shape x past)
          ended-same x v = ap (pending v) (noted shape told told-legal more next-more c w basis last-steps.act told-own x reply.Ended ends) ∙ by (c == x) ∙ told-pending x v
            where
              by : (b : Bool) → pending v (cond b (Ended w basis (end.Ended (planned basis).next) (moment shape told) ∷ []) [] ++ diary shape x told) ≡ pending v (diary shape x told)
              by true = ended-pending v w basis (planned basis).next (moment shape told) (diary shape x told)
              by false = refl

    writes : Turn shape past
    writes = by (planned basis).releases refl (catches-up shape some (step ∷ begun) (next-then, legal-then))
      where
        by : (releases : List Uid) → (planned basis).releases ≡ releases → CatchesUp shape (step ∷ begun) → Turn shape past
        by [] r u = Writes c w basis job status d step (begun-begins shape past legal calm d c w k rest e lt less a first) writes-first (no-more u r)
        by (pod ∷ others) r u = WritesAndAsks c w basis job status d step (begun-begins shape past legal calm d c w k rest e lt less a first) writes-first (releases-pod u pod others r) (let n = ap length r in omega (arith, n))

  -- ---- which

  pub begins-turn : Turn shape past
  begins-turn = by (asks-first basis) (pending w (diary shape c past)) refl
    where
      begins : BeginsAlone shape past c w basis d
      begins = begun-begins shape past legal calm d c w k rest e lt less a first

      by : AsksFirst basis → (fault : Option Fault) → pending w (diary shape c past) ≡ fault → Turn shape past
      by (Nothing none unwritten) fault p = Finds c w basis d step begins (finds none unwritten)
      by (Pod ask left are pod some_pod) None p = Asks c w basis d begins p (asks-pod ask left are pod p) refl some_pod
      by (Pod ask left are pod some_pod) (Some fault) p = Fails c w basis d step begins (fails fault ask left p are)
      by (First job status this f late are) None p = writes job status this f late are p
      by (First job status this f late are) (Some fault) p = Fails c w basis d step begins (fails fault WriteFirst _ p are)
