-- What has ended stays as it is.
use Rattle.std.proofs.Common.{◌≡◌, ℕ, ◌≤◌, Bool, true, false, ◌&&◌, List, [], ◌∷◌, length, Option, Some, None, is_some, refl, sym, ap, ◌∙◌, subst, true≢false, arith, ◌⊎◌, inl, inr, nat_lt, ltb-true, ltb-false}
use Rattle.std.proofs.lemmas.Bool.{cond-true}
use Rattle.jc_ledger.proofs.OwnFacts.{own-is, owner-key}
use Rattle.jc_plan.specs.Plans.{planned}
use Rattle.jc_types.specs.declared.numbers.Uid.{Uid}
use Rattle.jc_types.specs.declared.numbers.Version.{Version}
use Rattle.jc_types.specs.declared.objects.Entry.{Entry}
use Rattle.jc_types.specs.declared.objects.Entry.TheVariants.{JobPut, JobGone, PodPut, PodGone}
use Rattle.jc_types.specs.declared.objects.Job.{Job}
use Rattle.jc_types.specs.declared.objects.Kind.{Kind}
use Rattle.jc_types.specs.declared.objects.Pod.{Pod}
use Rattle.jc_types.specs.declared.replies.Answer.TheVariants as answer
use Rattle.jc_types.specs.declared.statuses.JobStatus.{JobStatus}
use Rattle.jc_types.specs.declared.runs.Shape.{Shape}
use Rattle.jc_states.specs.declared.bases.Basis.{Basis}
use Rattle.jc_log.specs.Requests.{grown}
use Rattle.jc_states.specs.Bases.{own_pods}
use Rattle.jc_states.specs.Conditions.{has_end}
use Rattle.jc_log.specs.Deeds.{Deed}
use Rattle.jc_types.specs.declared.objects.KeyNames.{KeyNames as Key}
use Rattle.jc_types.specs.Keys.{same_key, same_uid}
use Rattle.jc_log.specs.Log.{Live, Never, is_born, is_job_of, is_never, job_in, life, pods_of, pods_under, upto}
use Rattle.jc_log.specs.Writes.{Legal, Stored, Writes}
use Rattle.jc_types.proofs.KeyFacts.{same_key-itself, same_uid-eq, same_uid-itself}
use Rattle.jc_log.proofs.BirthFacts.{life_is_interval}
use Rattle.jc_log.proofs.LogFacts.{upto-all, upto-fixed}
use Rattle.jc_log.proofs.WriteFacts.{Stored-from_legal, is_born-more, job_in-born, persists}
use Rattle.jc_asks.specs.declared.asks.Ask.{Ask}
use Rattle.jc_bounds.specs.RequestKinds.{next_by_kind, ask_gives}
use Rattle.jc_history.specs.Diaries.{moment, notes}
use Rattle.jc_history.specs.Legal.{IsLegal}
use Rattle.jc_history.specs.Notes.{Note}
use Rattle.jc_history.specs.Numbers.{number}
use Rattle.jc_history.specs.Registers.{HaveOwnKeys, made, register}
use Rattle.jc_history.specs.Replies.{gives, log_given}
use Rattle.jc_history.proofs.LegalFacts.{legal-fit}
use Rattle.jc_history.proofs.RegisterFacts.{fit-apart}
use Rattle.jc_bounds.specs.Bounded.{IsBounded}
use Rattle.jc_bounds.specs.Final.{AlwaysHaveIndexTotals, IsClosed, KnowsEnds}
use Rattle.jc_bounds.specs.KeptEnds.{IsLeftAlone, HasNothingOpen, StatusesStand}
use Rattle.jc_bounds.specs.Work.{is_work}
use Rattle.jc_bounds.proofs.Appends.{Appends, First, Idly, Makes, Second}
use Rattle.jc_bounds.proofs.BoundFacts.{legal-bounded, legal-within}
use Rattle.jc_bounds.proofs.EndFacts.{current-there, entry-is, entry-own, legal-final, neat-past, unended}
use Rattle.jc_bounds.proofs.EntryFacts.{closed-now, old-job}
use Rattle.jc_bounds.proofs.FitFacts.{head-of, legal-before, no-more}
use Rattle.jc_bounds.proofs.OrderFacts.{is_quiet}
use Rattle.jc_bounds.proofs.Turns.{Noted, Restarted, Still, Stepped, Stopped, Turn, Wrote, turn, Began, Finished}
use Rattle.std.proofs.lemmas.Option.{same_Some as some_is}

-- The Job's own pods of its key are all that were made for it.
own-of : (log : List Entry) (k : Key) (job : Job) → Legal log → job_in k log ≡ Some job → (b : Basis) → own_pods job (pods_under k log) ≡ pods_of job.uid log
own-of log k job legal is b =
    own-is log (record b { key = k; job = Some job; pods = pods_under k log; jobs_at = record { 0 = length log }; pods_at = record { 0 = length log } }) job legal
    (record { jobs_at = omega arith; pods_at = omega arith; job = sym is ∙ ap (job_in k) (sym (upto-all (length log) log (omega arith))); pods = ap (pods_under k) (sym (upto-all (length log) log (omega arith))) }) refl
    ∙ ap (pods_of job.uid) (upto-all (length log) log (omega arith))

a-basis : Key → Basis
a-basis k = record { key = k; job = None; pods = []; jobs_at = record { 0 = 0 }; pods_at = record { 0 = 0 }; now = 0; backoff = record { failures = 0; last = None } }

module _ (now : ℕ) (log : List Entry) (old : List Note) (stored : Stored log) (neat : AlwaysHaveIndexTotals log)
    (bounded : IsBounded log old) (h : KnowsEnds log old) (apart : HaveOwnKeys old)
    (within : (kind : Kind) (m : Version) → number kind old ≡ Some m → m.0 ≤ length log) (k : Key) (job : Job)
    (there : job_in k log ≡ Some job) (end : has_end job.status.conditions ≡ true) where
  -- ---- its status

  idle-status : (e : Entry) → Writes log e → is_work k e log ≡ false → (new : Job) → job_in k (e ∷ log) ≡ Some new → new.uid ≡ job.uid → new.status ≡ job.status
  idle-status e w idle new is same =
      let o = old-job e log w stored k idle new is (inr (ap (λ u. is_born u log) same ∙ job_in-born k log job there)) in
      o.status ∙ ap (λ (j : Job). j.status) (some_is o.job job (sym o.there ∙ there))

  asked-status : (w : ℕ) (b : Basis) (ask : Ask) → register w old ≡ Some b → next_by_kind (planned b) (made w old)
      ≡ Some ask → (e : Entry) → Writes log e → (ask_gives log now b (made w old) ask).entry ≡ Some e → (new : Job)
      → job_in k (e ∷ log) ≡ Some new → new.uid ≡ job.uid → new.status ≡ job.status
  asked-status w b ask r next e wr is new now_there same = at (is_work k e log) refl
    where
      loud : (seen : Job) → b.job ≡ Some seen → (current : Job) → job_in seen.key log ≡ Some current → current.uid ≡ seen.uid → is_quiet ask ≡ false → b.key ≡ k → ⊥
      loud seen seen_there current cur uid q bk =
          let here = current-there log stored neat old bounded h apart within w b ask answer.Unavailable now r next seen seen_there current cur in
          true≢false (sym end ∙ ap (λ (j : Job). has_end j.status.conditions)
          (sym (some_is current job (sym here ∙ ap (λ q. job_in q log) bk ∙ there)))
          ∙ (unended log stored neat old bounded h apart within w b ask answer.Unavailable now r next seen current
          seen_there here uid q).0)

      by : Appends log (planned b) b.job ask e → b.key ≡ k → is_work k e log ≡ true → new.status ≡ job.status
      by (Idly q idle) bk work = absurd (true≢false (sym work ∙ idle k))
      by (Makes seen pod index a seen_there s owner uid) bk work = ap (λ (j : Job). j.status) (some_is new job (sym now_there ∙ ap (λ x. job_in k (x ∷ log)) s ∙ there))
      by (First seen status a seen_there first s) bk work = absurd (loud seen seen_there s.current s.there s.uid (ap is_quiet a) bk)
      by (Second seen status a seen_there second s) bk work = absurd (loud seen seen_there s.current s.there s.uid (ap is_quiet a) bk)

      at : (t : Bool) → is_work k e log ≡ t → new.status ≡ job.status
      at false t = idle-status e wr t new now_there same
      at true t = by (entry-is log stored neat old bounded h apart within w b ask answer.Unavailable now r next e is) (entry-own log stored neat old bounded h apart within w b ask answer.Unavailable now r next e is k t) t

  same-status : (log' : List Entry) → log' ≡ log → (new : Job) → job_in k log' ≡ Some new → new.status ≡ job.status
  same-status log' l new is = ap (λ (j : Job). j.status) (some_is new job (sym is ∙ ap (job_in k) l ∙ there))

  asked-any : (w : ℕ) (b : Basis) (ask : Ask) → register w old ≡ Some b → next_by_kind (planned b) (made w old)
      ≡ Some ask → (o : Option Entry) → (o ≡ None) ⊎ (o ≡ (ask_gives log now b (made w old) ask).entry)
      → Stored (grown log o) → (new : Job) → job_in k (grown log o) ≡ Some new → new.uid ≡ job.uid → new.status
      ≡ job.status
  asked-any w b ask r next None from s new is same = same-status log refl new is
  asked-any w b ask r next (Some e) (inl n) s new is same = absurd (true≢false (ap is_some n))
  asked-any w b ask r next (Some e) (inr n) s new is same = asked-status w b ask r next e s.0 (sym n) new is same

  turn-status : (log' : List Entry) (notes' : List Note) → Stored log' → Turn now log old log' notes' → (new : Job) → job_in k log' ≡ Some new → new.uid ≡ job.uid → new.status ≡ job.status
  turn-status log' notes' s (Still l n) new is same = same-status log' l new is
  turn-status log' notes' s (Restarted l n) new is same = same-status log' l new is
  turn-status log' notes' s (Noted note l n news) new is same = same-status log' l new is
  turn-status log' notes' s (Wrote e l n idle) new is same = idle-status e (subst Stored l s).0 (idle k) new (sym (ap (job_in k) l) ∙ is) same
  turn-status log' notes' s (Began w q j p jobs pods fresh free l n) new is same = same-status log' l new is
  turn-status log' notes' s (Stepped w b ask given o r next answer from l n) new is same = asked-any w b ask r next o (inr from) (subst Stored l s) new (sym (ap (job_in k) l) ∙ is) same
  turn-status log' notes' s (Stopped w b ask given o e r next from lost l n) new is same = asked-any w b ask r next o from (subst Stored l s) new (sym (ap (job_in k) l) ∙ is) same
  turn-status log' notes' s (Finished w b r l n) new is same = same-status log' l new is

  -- ---- its pods

  module _ (pod : Pod) (born : life pod.uid log ≡ Never) (key : pod.owner ≡ k) (uid : pod.owner_uid ≡ job.uid) where
    works : is_work k (PodPut pod) log ≡ true
    works = ap (λ o. same_key o k && is_never (life pod.uid log)) key ∙ ap (λ t. t && is_never (life pod.uid log)) (same_key-itself k) ∙ ap is_never born

    asked-none : (w : ℕ) (b : Basis) (ask : Ask) → register w old ≡ Some b → next_by_kind (planned b) (made w old) ≡ Some ask → (ask_gives log now b (made w old) ask).entry ≡ Some (PodPut pod) → ⊥
    asked-none w b ask r next is = by (entry-is log stored neat old bounded h apart within w b ask answer.Unavailable now r next (PodPut pod) is)
      where
        bk : b.key ≡ k
        bk = entry-own log stored neat old bounded h apart within w b ask answer.Unavailable now r next (PodPut pod) is k works

        no_job : Entry → Bool
        no_job (JobPut j) = false
        no_job other = true

        by : Appends log (planned b) b.job ask (PodPut pod) → ⊥
        by (Idly q idle) = true≢false (sym works ∙ idle k)
        by (Makes seen put index a seen_there s owner of) =
            let one : pod ≡ put = ap (λ (x : Entry). elim x [ JobPut j ↦ pod | PodPut p ↦ p | JobGone j ↦ pod | PodGone p ↦ pod ]) s in
            true≢false (sym end ∙ (unended log stored neat old bounded h apart within w b ask answer.Unavailable now r next seen job seen_there (ap (λ q. job_in q log) bk ∙ there) (sym uid ∙ ap (λ (p : Pod). p.owner_uid) one ∙ of) (ap is_quiet a)).0)
        by (First seen status a seen_there first s) = true≢false (ap no_job s.is)
        by (Second seen status a seen_there second s) = true≢false (ap no_job s.is)

    asked-no : (w : ℕ) (b : Basis) (ask : Ask) → register w old ≡ Some b → next_by_kind (planned b) (made w old) ≡ Some ask → (o : Option Entry) → (o ≡ None) ⊎ (o ≡ (ask_gives log now b (made w old) ask).entry) → (PodPut pod ∷ log) ≡ grown log o → ⊥
    asked-no w b ask r next None from x = no-more (PodPut pod) log x
    asked-no w b ask r next (Some e) (inl n) x = true≢false (ap is_some n)
    asked-no w b ask r next (Some e) (inr n) x = asked-none w b ask r next (sym n ∙ ap Some (sym (head-of (PodPut pod) e log x)))

    turn-unmade : (log' : List Entry) (notes' : List Note) → log' ≡ PodPut pod ∷ log → Turn now log old log' notes' → ⊥
    turn-unmade log' notes' g (Still l n) = no-more (PodPut pod) log (sym g ∙ l)
    turn-unmade log' notes' g (Restarted l n) = no-more (PodPut pod) log (sym g ∙ l)
    turn-unmade log' notes' g (Noted note l n news) = no-more (PodPut pod) log (sym g ∙ l)
    turn-unmade log' notes' g (Wrote e l n idle) = true≢false (sym works ∙ ap (λ x. is_work k x log) (head-of (PodPut pod) e log (sym g ∙ l)) ∙ idle k)
    turn-unmade log' notes' g (Began w q j p jobs pods fresh free l n) = no-more (PodPut pod) log (sym g ∙ l)
    turn-unmade log' notes' g (Stepped w b ask given o r next answer from l n) = asked-no w b ask r next o (inr from) (sym g ∙ l)
    turn-unmade log' notes' g (Stopped w b ask given o e r next from lost l n) = asked-no w b ask r next o from (sym g ∙ l)
    turn-unmade log' notes' g (Finished w b r l n) = no-more (PodPut pod) log (sym g ∙ l)

-- The key under which the pod is made.
made-key : (log : List Entry) (pod : Pod) (k : Key) (job : Job) → Legal (PodPut pod ∷ log) → job_in k log ≡ Some job → pod.owner_uid ≡ job.uid → pod.owner ≡ k
made-key log pod k job legal there uid =
    let all = upto-all (length (PodPut pod ∷ log)) (PodPut pod ∷ log) (omega arith) in
    owner-key k (length (PodPut pod ∷ log)) (length (PodPut pod ∷ log)) (PodPut pod ∷ log) job pod legal (ap (job_in k) all ∙ there)
    (ap (life pod.uid) all ∙ cond-true (same_uid pod.uid pod.uid) (Live pod) (life pod.uid log) (same_uid-itself pod.uid)) uid

-- A Job that has ended has nothing open.
pub final-shut : (log : List Entry) (notes : List Note) → Legal log → KnowsEnds log notes → (k : Key) (job : Job) → job_in k log ≡ Some job → has_end job.status.conditions ≡ true → HasNothingOpen log job
final-shut log notes legal h k job there end =
    let fin = h.finished k job there end in
    record { final = fin.final; closed = subst IsClosed (own-of log k job legal there (a-basis k)) (closed-now log k job fin) }

-- **What has ended stays as it is.**
pub legal-keeps : (shape : Shape) (past : List Deed) (d : Deed) → shape.controllers ≡ 1 → IsLegal shape (d ∷ past) → Legal (log_given shape (d ∷ past)) → AlwaysHaveIndexTotals (log_given shape (d ∷ past))
    → (k : Key) (job : Job) → job_in k (log_given shape past) ≡ Some job → has_end job.status.conditions ≡ true → IsLeftAlone (log_given shape past) (log_given shape (d ∷ past)) k job
legal-keeps shape past d one h legal neat k job there end =
    let before = legal-before shape past d legal in
    let stored = Stored-from_legal (log_given shape past) before in
    let old_neat = neat-past shape past d neat in
    let bounded = legal-bounded shape past one h.1 stored in
    let final = legal-final shape past one h.1 stored old_neat in
    let apart = fit-apart (notes shape 0 past (log_given shape past)) (legal-fit shape 0 past h.1) in
    record {
      unmade = λ pod grows born uid. turn-unmade (moment shape past) (log_given shape past) (notes shape 0 past (log_given shape past)) stored old_neat bounded final apart (legal-within shape 0 past h.1) k job there end pod born
          (made-key (log_given shape past) pod k job (subst Legal grows legal) there uid) uid (log_given shape (d ∷ past)) (notes shape 0 (d ∷ past) (log_given shape (d ∷ past))) grows (turn shape past d one h);
      status = turn-status (moment shape past) (log_given shape past) (notes shape 0 past (log_given shape past)) stored old_neat bounded final apart (legal-within shape 0 past h.1) k job there end
          (log_given shape (d ∷ past)) (notes shape 0 (d ∷ past) (log_given shape (d ∷ past))) (Stored-from_legal (log_given shape (d ∷ past)) legal) (turn shape past d one h);
    }

-- ---- at each later version

record Found (u : Uid) (o : Option Job) : Type 0 where
  pub job : Job
  pub is : o ≡ Some job
  pub uid : job.uid ≡ u

job-there : (u : Uid) (k : Key) (o : Option Job) → is_job_of u o ≡ true → Found u o
job-there u k None h = absurd (true≢false (sym h))
job-there u k (Some job) h = record { job = job; is = refl; uid = same_uid-eq job.uid u h }

stands-more : (e : Entry) (log : List Entry) → Stored (e ∷ log) → StatusesStand log
    → ((k : Key) (job : Job) → job_in k log ≡ Some job → has_end job.status.conditions ≡ true → (new : Job)
    → job_in k (e ∷ log) ≡ Some new → new.uid ≡ job.uid → new.status ≡ job.status) → StatusesStand (e ∷ log)
stands-more e log s h keep = λ m k old new was end is same. by m k old new was end is same (nat_lt (length log) m) refl
  where
    by : (m : ℕ) (k : Key) (old new : Job) → job_in k (upto m (e ∷ log)) ≡ Some old → has_end old.status.conditions ≡ true → job_in k (e ∷ log) ≡ Some new → new.uid ≡ old.uid → (t : Bool) → nat_lt (length log) m ≡ t → new.status ≡ old.status
    by m k old new was end is same true t =
        let lt = ltb-true (length log) m t in
        ap (λ (j : Job). j.status) (some_is new old (sym is ∙ ap (job_in k) (sym (upto-all m (e ∷ log) (omega (arith, lt)))) ∙ was))
    by m k old new was end is same false t =
        let le = ltb-false (length log) m t in
        let born = job_in-born k (upto m (e ∷ log)) old was in
        let all = upto-all (length (e ∷ log)) (e ∷ log) (omega arith) in
        let mid = upto-fixed (length log) e log (omega arith) ∙ upto-all (length log) log (omega arith) in
        let now : is_job_of old.uid (job_in k (upto (length (e ∷ log)) (e ∷ log))) ≡ true = ap (λ l. is_job_of old.uid (job_in k l)) all ∙ ap (is_job_of old.uid) is ∙ ap (λ u. same_uid u old.uid) same ∙ same_uid-itself old.uid in
        let grown_born : is_born old.uid (upto (length log) (e ∷ log)) ≡ true = persists Writes (λ l. is_born old.uid l ≡ true) (λ e older w rest b. is_born-more old.uid e older b) m (length log) (e ∷ log) s le born in
        let there = life_is_interval old.uid k (length log) (length (e ∷ log)) (e ∷ log) s (omega arith) grown_born now in
        let f = job-there old.uid k (job_in k log) (sym (ap (λ l. is_job_of old.uid (job_in k l)) mid) ∙ there) in
        let before = h m k old f.job (sym (ap (job_in k) (upto-fixed m e log le)) ∙ was) end f.is f.uid in
        keep k f.job f.is (ap (λ (s : JobStatus). has_end s.conditions) before ∙ end) new is (same ∙ sym f.uid) ∙ before

pub legal-stands : (shape : Shape) (deeds : List Deed) → shape.controllers ≡ 1 → IsLegal shape deeds →
    ((past : List Deed) → IsLegal shape past → Legal (log_given shape past) × AlwaysHaveIndexTotals (log_given shape past)) → StatusesStand (log_given shape deeds)
unfolding log_given
legal-stands shape [] one h all = λ m k old new was end is same. absurd (true≢false (sym (ap is_some is)))
legal-stands shape (d ∷ past) one h all = by (legal-stands shape past one h.1 all) (gives shape past (log_given shape past) d.act).entry (Stored-from_legal (log_given shape (d ∷ past)) (all (d ∷ past) h).0)
    (λ k job there end. (legal-keeps shape past d one h (all (d ∷ past) h).0 (all (d ∷ past) h).1 k job there end).status)
  where
    by : StatusesStand (log_given shape past) → (o : Option Entry) → Stored (grown (log_given shape past) o)
        → ((k : Key) (job : Job) → job_in k (log_given shape past) ≡ Some job → has_end job.status.conditions ≡ true
        → (new : Job) → job_in k (grown (log_given shape past) o) ≡ Some new → new.uid ≡ job.uid → new.status
        ≡ job.status) → StatusesStand (grown (log_given shape past) o)
    by before None s keep = before
    by before (Some e) s keep = stands-more e (log_given shape past) s before keep
