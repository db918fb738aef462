-- A pod that a sync makes fits.
use Rattle.std.proofs.Common.{◌≡◌, ℕ, ◌+◌, ◌<◌, ◌≤◌, Bool, true, false, cond, not, ◌&&◌, List, [], ◌∷◌, length, filter, Option, Some, None, IfSome, is_some, refl, sym, ap, ◌∙◌, subst, true≢false, arith, ◌⊎◌, inl, inr}
use Rattle.jc_ledger.specs.Flights.{IsBasisOf}
use Rattle.jc_ledger.proofs.OwnFacts.{own-is}
use Rattle.jc_states.specs.Pods.{ending_pods, is_tracked_active, tracked_active_pods, is_active, is_final, is_marked, is_open, is_tracked}
use Rattle.jc_plan.specs.Plans.{planned, planned_for}
use Rattle.jc_plan.specs.Statuses.{wants_in}
use Rattle.jc_types.specs.declared.objects.Entry.{Entry}
use Rattle.jc_types.specs.declared.objects.Entry.TheVariants.{JobPut, JobGone, PodPut, PodGone}
use Rattle.jc_types.specs.declared.objects.Job.{Job}
use Rattle.jc_types.specs.declared.objects.Pod.{Pod}
use Rattle.jc_types.specs.declared.runs.Shape.{Shape}
use Rattle.jc_types.specs.declared.specifications.Replacement.TheVariants.{FailedOnly}
use Rattle.jc_states.specs.declared.bases.Basis.{Basis}
use Rattle.jc_log.specs.Acts as does
use Rattle.jc_log.specs.Acts.{Act}
use Rattle.jc_log.specs.Requests.{grown}
use Rattle.jc_states.specs.Bases.{is_own, own_pods}
use Rattle.jc_log.specs.Deeds.{Deed}
use Rattle.jc_types.specs.declared.objects.KeyNames.{KeyNames as Key}
use Rattle.jc_types.specs.Keys.{same_key, same_uid}
use Rattle.jc_log.specs.Log.{Never, is_never, life, pods_in, pods_of, pods_under, upto}
use Rattle.jc_log.specs.Writes.{Legal, Stored, Writes}
use Rattle.jc_states.specs.ObjectChanges.{PodStep}
use Rattle.jc_types.proofs.KeyFacts.{same_key-itself}
use Rattle.jc_types.proofs.ListFacts.{filter_filter}
use Rattle.jc_log.proofs.LogFacts.{upto-all}
use Rattle.jc_log.proofs.WriteFacts.{Stored-from_legal}
use Rattle.jc_asks.specs.declared.asks.Ask.{Ask}
use Rattle.jc_asks.specs.declared.asks.Ask.TheVariants.{MakePod}
use Rattle.jc_asks.specs.Steps.{make_gives}
use Rattle.jc_bounds.specs.RequestKinds.{next_by_kind, ask_gives}
use Rattle.jc_history.specs.Diaries.{moment, notes}
use Rattle.jc_history.specs.Legal.{IsLegal, IsOfShape}
use Rattle.jc_history.specs.Notes.{Note}
use Rattle.jc_history.specs.Registers.{made, register}
use Rattle.jc_history.specs.Replies.{gives, log_given}
use Rattle.jc_bounds.specs.Bounded.{IsBounded}
use Rattle.jc_bounds.specs.Fitting.{IsMade, is_tracked_open}
use Rattle.jc_bounds.specs.Work.{is_birth, is_work, pods_made}
use Rattle.jc_bounds.proofs.AskEntries.{ask-makes, is_make, makes-first}
use Rattle.jc_bounds.proofs.BoundFacts.{legal-bounded}
use Rattle.jc_plan.proofs.PlanBounds.{creates-fit, creates-fit_ending}
use Rattle.std.proofs.lemmas.Bool.{and_parts, and_from as both}
use Rattle.jc_bounds.proofs.Turns.{Began, Finished, Noted, Restarted, Still, Stepped, Stopped, Turn, Wrote, turn}
use Rattle.jc_bounds.proofs.StepperFacts.{newest_worker, stepper}
use Rattle.jc_history.proofs.LegalFacts.{notes-next}
use Rattle.jc_bounds.proofs.WorkFacts.{bit, count-entry, count-since, put-few}
use Rattle.std.proofs.lemmas.Option.{same_Some as some_is}

-- ---- what a pod loses for good

module _ (old new : Pod) (step : PodStep old new) where
  pub open-lasts : is_open new ≡ true → is_open old ≡ true
  open-lasts h = by (is_final old.phase) refl
    where
      by : (b : Bool) → is_final old.phase ≡ b → not b ≡ true
      by true e = absurd (true≢false (sym h ∙ ap (λ p. not (is_final p)) (step.phase e) ∙ ap not e))
      by false e = refl

  pub tracked-lasts : is_tracked new ≡ true → is_tracked old ≡ true
  tracked-lasts h = by old.tracked refl
    where
      by : (b : Bool) → old.tracked ≡ b → b ≡ true
      by true e = refl
      by false e = absurd (true≢false (sym h ∙ step.untracked e))

  unmarked-lasts : not (is_marked new) ≡ true → not (is_marked old) ≡ true
  unmarked-lasts h = by (is_marked old) refl
    where
      by : (b : Bool) → is_marked old ≡ b → not b ≡ true
      by true e = absurd (true≢false (sym h ∙ ap (λ m. not (is_some m)) (step.marked e) ∙ ap not e))
      by false e = refl

  pub active-lasts : is_tracked_active new ≡ true → is_tracked_active old ≡ true
  active-lasts h =
      let a = (and_parts (is_active new) (is_tracked new) h).0 in
      both (is_active old) (is_tracked old)
      (both (is_open old) (not (is_marked old)) (open-lasts ((and_parts (is_open new) (not (is_marked new)) a).0)) (unmarked-lasts ((and_parts (is_open new) (not (is_marked new)) a).1)))
      (tracked-lasts ((and_parts (is_active new) (is_tracked new) h).1))

  pub tracked_open-lasts : is_tracked_open new ≡ true → is_tracked_open old ≡ true
  tracked_open-lasts h = both (is_open old) (is_tracked old) (open-lasts ((and_parts (is_open new) (is_tracked new) h).0)) (tracked-lasts ((and_parts (is_open new) (is_tracked new) h).1))

-- ---- a Job's own pods

-- Those of the key that were made for the Job, and pass the test.
abbrev pub mine : Key → Job → (Pod → Bool) → Pod → Bool
mine k job test p = (same_key p.owner k && is_own job p) && test p

pub mine-is : (k : Key) (job : Job) (test : Pod → Bool) (log : List Entry) → filter test (own_pods job (pods_under k log)) ≡ filter (mine k job test) (pods_in log)
mine-is k job test log =
    ap (filter test) (filter_filter (is_own job) (λ p. same_key p.owner k) (pods_in log)) ∙ filter_filter test (λ p. same_key p.owner k && is_own job p) (pods_in log)

mine-keyed : (k : Key) (job : Job) (test : Pod → Bool) (p : Pod) → mine k job test p ≡ true → same_key p.owner k ≡ true
mine-keyed k job test p h = (and_parts (same_key p.owner k) (is_own job p) ((and_parts (same_key p.owner k && is_own job p) (test p) h).0)).0

mine-lasts : (k : Key) (job : Job) (test : Pod → Bool) → ((old new : Pod) → PodStep old new → test new ≡ true → test old ≡ true) → (old new : Pod) → PodStep old new → mine k job test new ≡ true → mine k job test old ≡ true
mine-lasts k job test lasts old new step h =
    let key = ap (λ o. same_key o k) (sym step.owner) in
    let own = ap (λ u. same_uid u job.uid) (sym step.owner_uid) in
    let both_new = (and_parts (same_key new.owner k && is_own job new) (test new) h).0 in
    both (same_key old.owner k && is_own job old) (test old)
    (both (same_key old.owner k) (is_own job old) (key ∙ (and_parts (same_key new.owner k) (is_own job new) both_new).0) (own ∙ (and_parts (same_key new.owner k) (is_own job new) both_new).1))
    (lasts old new step ((and_parts (same_key new.owner k && is_own job new) (test new) h).1))

module _ (k : Key) (job : Job) (test : Pod → Bool) (lasts : (old new : Pod) → PodStep old new → test new ≡ true → test old ≡ true) where
  -- Of them no more pass than passed at a version and were made since.
  pub own-since : (m : ℕ) (log : List Entry) → Stored log → length (filter test (own_pods job (pods_under k log))) + pods_made k (upto m log) ≤ length (filter test (own_pods job (pods_under k (upto m log)))) + pods_made k log
  own-since m log stored =
      let since = count-since (mine k job test) k (mine-keyed k job test) (mine-lasts k job test lasts) m log stored in
      let a = ap length (mine-is k job test log) in
      let b = ap length (mine-is k job test (upto m log)) in
      omega (arith, since, a, b)

  pub own-entry : (e : Entry) (log : List Entry) → Writes log e → length (filter test (own_pods job (pods_under k (e ∷ log)))) + pods_made k log ≤ length (filter test (own_pods job (pods_under k log))) + pods_made k (e ∷ log)
  own-entry e log w =
      let one = count-entry (mine k job test) k (mine-keyed k job test) (mine-lasts k job test lasts) e log w in
      let a = ap length (mine-is k job test (e ∷ log)) in
      let b = ap length (mine-is k job test log) in
      omega (arith, one, a, b)

-- A pod that was made for another Job changes nothing.
pub own-other : (k : Key) (job : Job) (test : Pod → Bool) (pod : Pod) (log : List Entry) → is_own job pod ≡ false → length (filter test (own_pods job (pods_under k (PodPut pod ∷ log)))) ≤ length (filter test (own_pods job (pods_under k log)))
own-other k job test pod log other =
    let a = ap length (mine-is k job test (PodPut pod ∷ log)) in
    let b = ap length (mine-is k job test log) in
    omega (arith, a, b, put-few (mine k job test) pod (pods_in log), ap bit none)
  where
    none : mine k job test pod ≡ false
    none = by (same_key pod.owner k) (is_own job pod) (test pod) other
      where
        by : (a b c : Bool) → b ≡ false → ((a && b) && c) ≡ false
        by true true c h = absurd (true≢false h)
        by true false c h = refl
        by false b c h = refl

-- They are all that were made for the Job.
pub own-now : (log : List Entry) (b : Basis) (job : Job) → Legal log → IsBasisOf log b → b.job ≡ Some job → own_pods job (pods_under b.key log) ≡ pods_of job.uid log
own-now log b job legal is there =
    own-is log (record b { pods = pods_under b.key log; pods_at = record { 0 = length log } }) job legal
    (record { jobs_at = is.jobs_at; pods_at = omega arith; job = is.job; pods = ap (pods_under b.key) (sym (upto-all (length log) log (omega arith))) }) there
    ∙ ap (pods_of job.uid) (upto-all (length log) log (omega arith))

-- ---- the bound

pub plan-creates : (b : Basis) (job : Job) → b.job ≡ Some job → (planned b).creates ≡ (wants_in job b).creates
unfolding planned
plan-creates b job there = ap (λ o. (planned_for b o).creates) there

open-few : (own : List Pod) → length (filter is_tracked_open own) ≤ length (tracked_active_pods own) + length (ending_pods own)
open-few [] = omega arith
open-few (p ∷ own) = by (is_open p) (is_marked p) (is_tracked p) (open-few own)
  where
    by : (o m t : Bool) → length (filter is_tracked_open own) ≤ length (tracked_active_pods own) + length (ending_pods own)
        → length (cond (o && t) (p ∷ filter is_tracked_open own) (filter is_tracked_open own)) ≤ length
        (cond ((o && not m) && t) (p ∷ tracked_active_pods own) (tracked_active_pods own)) + length
        (cond (o && m) (p ∷ ending_pods own) (ending_pods own))
    by true true true h = omega (arith, h)
    by true true false h = omega (arith, h)
    by true false true h = omega (arith, h)
    by true false false h = omega (arith, h)
    by false m t h = omega (arith, h)

module _ (log : List Entry) (old : List Note) (legal : Legal log) (h : IsBounded log old) (w : ℕ) (b : Basis)
    (r : register w old ≡ Some b) (index : Option ℕ)
    (next : next_by_kind (planned b) (made w old) ≡ Some (MakePod index)) (job : Job) (there : b.job ≡ Some job) where
  few : length (made w old) < length (wants_in job b).creates
  few = subst (λ (cs : List (Option ℕ)). length (made w old) < length cs) (plan-creates b job there) (makes-first (planned b) (made w old) index next)

  seen-pods : (test : Pod → Bool) → ((old new : Pod) → PodStep old new → test new ≡ true → test old ≡ true) → length (filter test (pods_of job.uid log)) + 1 ≤ length (filter test (own_pods job b.pods)) + length (wants_in job b).creates
  seen-pods test lasts =
      let f = h.flights w b r in
      let m = f.made in
      let c = ap length (plan-creates b job there) in
      let since = own-since b.key job test lasts b.pods_at.0 log (Stored-from_legal log legal) in
      let now = ap (λ ps. length (filter test ps)) (own-now log b job legal f.basis there) in
      let then = ap (λ ps. length (filter test (own_pods job ps))) f.basis.pods in
      omega (arith, m, c, since, now, then, few)

  pub active-fits : length (filter is_tracked_active (pods_of job.uid log)) < job.spec.parallelism
  active-fits = omega (arith, seen-pods is_tracked_active active-lasts, creates-fit job b (omega (arith, few)))

  pub open-fits : job.spec.replacement ≡ FailedOnly → length (filter is_tracked_open (pods_of job.uid log)) < job.spec.parallelism
  open-fits only = omega (arith, seen-pods is_tracked_open tracked_open-lasts, creates-fit_ending job b (omega (arith, few)) only, open-few (own_pods job b.pods))

-- ---- in a turn

pub no-more : (e : Entry) (log : List Entry) → (e ∷ log) ≡ log → ⊥
no-more e log h = let l = ap length h in absurd (omega (arith, l))

pub head-of : (e f : Entry) (log : List Entry) → (e ∷ log) ≡ (f ∷ log) → e ≡ f
head-of e f log h = ap (λ (l : List Entry). elim l [ [] ↦ e | x ∷ xs ↦ x ]) h

module _ (shape : Shape) (act : Act) (of_shape : IsOfShape shape act) (now : ℕ) (log : List Entry) (old : List Note) (legal : Legal log) (h : IsBounded log old) (pod : Pod) (new-born : life pod.uid log ≡ Never) where
  works : is_work pod.owner (PodPut pod) log ≡ true
  works = ap (λ l. same_key pod.owner pod.owner && is_never l) new-born ∙ ap (λ t. t && true) (same_key-itself pod.owner)

  asked-fits : (w : ℕ) (b : Basis) (ask : Ask) → act ≡ does.Step 0 w → register w old ≡ Some b → next_by_kind (planned b) (made w old) ≡ Some ask → (ask_gives log now b (made w old) ask).entry ≡ Some (PodPut pod) → IsMade shape act log old pod
  asked-fits w b ask step r next e = by (is_make ask) refl
    where
      makes : (a : Ask) → next_by_kind (planned b) (made w old) ≡ Some a → is_make a ≡ true → (ask_gives log now b (made w old) a).entry ≡ Some (PodPut pod) → IsMade shape act log old pod
      makes (MakePod index) next t e = of b.job refl e
        where
          of : (o : Option Job) → b.job ≡ o → (make_gives log index now o).entry ≡ Some (PodPut pod) → IsMade shape act log old pod
          of (Some job) there e = record {
            worker = w;
            within = (subst (IsOfShape shape) step of_shape).1;
            step = step;
            basis = b;
            job = job;
            begun = r;
            there = there;
            owner = sym (ap (λ (x : Entry). elim x [ JobPut j ↦ j.uid | PodPut p ↦ p.owner_uid | JobGone j ↦ j.uid | PodGone p ↦ p.owner_uid ]) (some_is _ _ e));
            active = active-fits log old legal h w b r index next job there;
            ending = open-fits log old legal h w b r index next job there;
          }
          of None there e = absurd (true≢false (sym (ap is_some e)))
      makes other next t e = absurd (true≢false (sym t))

      by : (t : Bool) → is_make ask ≡ t → IsMade shape act log old pod
      by true t = makes ask next t e
      by false t = absurd (true≢false (sym works ∙ subst (λ x. IfSome x (λ e. (k : Key) → is_birth k e log ≡ false)) e (ask-makes log now b (made w old) ask t) pod.owner))

  pub turn-fits : (log' : List Entry) (new : List Note) → log' ≡ PodPut pod ∷ log → ((w : ℕ) → length old < length new → newest_worker new ≡ Some w → act ≡ does.Step 0 w) → Turn now log old log' new → IsMade shape act log old pod
  turn-fits log' new g acts (Still l n) = absurd (no-more (PodPut pod) log (sym g ∙ l))
  turn-fits log' new g acts (Restarted l n) = absurd (no-more (PodPut pod) log (sym g ∙ l))
  turn-fits log' new g acts (Noted note l n news) = absurd (no-more (PodPut pod) log (sym g ∙ l))
  turn-fits log' new g acts (Wrote e l n idle) = absurd (true≢false (sym works ∙ ap (λ x. is_work pod.owner x log) (head-of (PodPut pod) e log (sym g ∙ l)) ∙ idle pod.owner))
  turn-fits log' new g acts (Began w k j p jobs pods fresh free l n) = absurd (no-more (PodPut pod) log (sym g ∙ l))
  turn-fits log' new g acts (Stepped w b ask given o r next answer from l n) = asked-fits w b ask (acts w (let long = ap length n in omega (arith, long)) (ap newest_worker n)) r next (sym from ∙ entry-of o (sym g ∙ l))
    where
      entry-of : (o : Option Entry) → (PodPut pod ∷ log) ≡ grown log o → o ≡ Some (PodPut pod)
      entry-of None x = absurd (no-more (PodPut pod) log x)
      entry-of (Some e) x = ap Some (sym (head-of (PodPut pod) e log x))
  turn-fits log' new g acts (Stopped w b ask given o end r next from lost l n) = by o from (sym g ∙ l)
    where
      by : (o : Option Entry) → (o ≡ None) ⊎ (o ≡ (ask_gives log now b (made w old) ask).entry) → (PodPut pod ∷ log) ≡ grown log o → IsMade shape act log old pod
      by None f x = absurd (no-more (PodPut pod) log x)
      by (Some e) (inl f) x = absurd (true≢false (ap is_some f))
      by (Some e) (inr f) x = asked-fits w b ask (acts w (let long = ap length n in omega (arith, long)) (ap newest_worker n)) r next (sym f ∙ ap Some (sym (head-of (PodPut pod) e log x)))
  turn-fits log' new g acts (Finished w b r l n) = absurd (no-more (PodPut pod) log (sym g ∙ l))

pub legal-before : (shape : Shape) (past : List Deed) (d : Deed) → Legal (log_given shape (d ∷ past)) → Legal (log_given shape past)
unfolding log_given
legal-before shape past d all = by (gives shape past (log_given shape past) d.act).entry all
  where
    by : (o : Option Entry) → Legal (grown (log_given shape past) o) → Legal (log_given shape past)
    by None s = s
    by (Some e) s = s.1

-- **Each pod that is made fits.**
pub legal-fits : (shape : Shape) (past : List Deed) (d : Deed) (pod : Pod) → shape.controllers ≡ 1 → IsLegal shape (d ∷ past) → Legal (log_given shape (d ∷ past))
    → log_given shape (d ∷ past) ≡ PodPut pod ∷ log_given shape past → life pod.uid (log_given shape past) ≡ Never → IsMade shape d.act (log_given shape past) (notes shape 0 past (log_given shape past)) pod
legal-fits shape past d pod one h legal grows born =
    let before = legal-before shape past d legal in
    turn-fits shape d.act h.0.within (moment shape past) (log_given shape past) (notes shape 0 past (log_given shape past)) before (legal-bounded shape past one h.1 (Stored-from_legal (log_given shape past) before)) pod born
    (log_given shape (d ∷ past)) (notes shape 0 (d ∷ past) (log_given shape (d ∷ past))) grows
    (subst (λ new. (w : ℕ) → length (notes shape 0 past (log_given shape past)) < length new → newest_worker new ≡ Some w → d.act ≡ does.Step 0 w) (sym (notes-next shape 0 past d h.1))
    (stepper d.act d.reply (moment shape past) (log_given shape (d ∷ past)) (notes shape 0 past (log_given shape past))))
    (turn shape past d one h)
