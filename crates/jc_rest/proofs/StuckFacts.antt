-- No Job is stuck at rest: a key of which nothing is told any more is busy, or its last sync asked for nothing.
use Rattle.std.proofs.Common.{◌≡◌, inl, inr, ℕ, ◌<◌, ◌≤◌, Bool, true, false, cond, not, ◌&&◌, ◌||◌, List, [], ◌∷◌, filter, length, Option, Some, None, is_some, option_and_then, option_map, refl, sym, ap, ◌∙◌, subst, arith, true≢false}
use Rattle.std.proofs.Common.{nat_lt, ltb-true}
use Rattle.std.specs.List.{AllByRecursion as Each, Contains, list_any}
use Rattle.std.specs.Option.{option_or}
use Rattle.std.proofs.lemmas.Bool.{and_parts}
use Rattle.jc_types.specs.declared.actions.End.{End}
use Rattle.jc_types.specs.declared.objects.KeyNames.{KeyNames as Key}
use Rattle.jc_types.specs.Keys.{same_key, same_uid}
use Rattle.jc_types.proofs.ListFacts.{Each-both}
use Rattle.std.proofs.lemmas.List.Elements.{All-contains_itself, recursion_from_All}
use Rattle.jc_plan.specs.Backoffs.{opening}
use Rattle.jc_history.specs.Notes.{newest}
use Rattle.std.proofs.lemmas.Bool.{ltb-false}
use Rattle.jc_types.specs.declared.objects.Job.{Job}
use Rattle.jc_types.specs.declared.objects.Kind.{Kind}
use Rattle.jc_types.specs.declared.objects.Kind.TheVariants.{Jobs, Pods}
use Rattle.jc_types.specs.declared.objects.Pod.{Pod}
use Rattle.jc_types.specs.declared.runs.Shape.{Shape}
use Rattle.jc_states.specs.declared.bases.Basis.{Basis}
use Rattle.jc_states.specs.Bases.{own_pods}
use Rattle.jc_states.specs.Conditions.{has_end}
use Rattle.jc_states.specs.PodLists.{IsRising}
use Rattle.jc_types.specs.ValidSpecs.{IsValidSpec}
use Rattle.jc_states.proofs.PodListFacts.{rises_filter}
use Rattle.jc_control.specs.ControllerCalls.{told}
use Rattle.jc_states.specs.Pods.{is_active, is_ending, is_pending, is_marked, is_open, is_tracked, is_tracked_active}
use Rattle.jc_log.specs.Deeds.{Deed}
use Rattle.jc_log.specs.Log.{entry_at, job_in, pods_in, pods_of, pods_under, upto}
use Rattle.jc_log.specs.Writes.{Legal, Stored}
use Rattle.jc_log.proofs.LogFacts.{upto-all}
use Rattle.jc_log.proofs.PodFacts.{pods_in-rises}
use Rattle.jc_log.proofs.WriteFacts.{Stored-from_legal}
use Rattle.jc_sync.proofs.OwnFacts.{own-is}
use Rattle.jc_idle.proofs.WaitFacts.{waits}
use Rattle.jc_idle.specs.Waits.{HasEnough, Waits, ForActive, ForEnding, ForEver, ForResume, ForRoom}
use Rattle.jc_history.specs.Available.{is_quiescent}
use Rattle.jc_history.specs.Diaries.{moment, notes}
use Rattle.jc_history.specs.Legal.{IsLegal}
use Rattle.jc_history.specs.Nodes.{NodeAct, Stop, Start, Again, Finish, act_with, is_again, act_on, fate, pod_end}
use Rattle.jc_history.specs.Registers.{backoff, register}
use Rattle.jc_history.specs.Replies.{log_given}
use Rattle.jc_history.proofs.LegalFacts.{legal-fit}
use Rattle.jc_order.specs.Rest.{HasNothingToDo}
use Rattle.jc_order.specs.Restless.{AllEndRestless, HasCacheSeen, point}
use Rattle.jc_order.proofs.ForgetFacts.{never-begins, notes-none}
use Rattle.jc_order.proofs.RestFacts.{at-rest}
use Rattle.jc_order.proofs.RestlessFacts.{not-busy}
use Rattle.jc_runs.specs.Machines.{AllAskValid}
use Rattle.jc_rest.specs.Stuck.{IsWaiting, HasEnded, IsOpen, IsSuspended, MayRunNone, HasPods, IsHeldBack, is_sure}
use Rattle.jc_rest.proofs.HistoryFacts.{Stay}
use Rattle.jc_runs.proofs.LegalRuns.{Machine, legal_run}
use Rattle.jc_order.proofs.LastFacts.{last_told, last-job, last-told_at, last-within}
use Rattle.jc_rest.proofs.PlainFacts.{TellsFrom, plain}
use Rattle.jc_rest.proofs.StandFacts.{job-listed, last-put}
use Rattle.jc_rest.proofs.WatchFacts.{IsLastOf, Stance, stands}
use Rattle.jc_rest.proofs.SureFacts.{sure-busy}

module _ (stay : Stay) (shape : Shape) (deeds : List Deed) (legal : IsLegal shape deeds) (valid : AllAskValid deeds) (working : 0 < shape.workers)
    (quiet : is_quiescent shape deeds (log_given shape deeds) ≡ true) (c : ℕ) (within : c < shape.controllers)
    (k : Key) (job : Job) (there : job_in k (log_given shape deeds) ≡ Some job) where
  -- What a sync that saw the last of the key, asked for nothing and named no moment says of the Job.
  module _ (basis : Basis) (sees : basis.job ≡ Some job) (own : own_pods job basis.pods ≡ pods_of job.uid (log_given shape deeds))
      (same : basis.backoff ≡ backoff k (notes shape c deeds (log_given shape deeds))) where
    -- Nothing befalls a pod at rest.
    pub node-left : Each (λ pod. act_on (fate deeds) pod ≡ None) (pods_of job.uid (log_given shape deeds))
    node-left = kept (pods_in (log_given shape deeds)) (at-rest shape deeds legal working quiet).node
      where
        with-pod : Pod → NodeAct → Pod × NodeAct
        with-pod pod act = (pod, act)

        rest-of : List Pod → Option (Pod × NodeAct)
        rest-of pods = newest (λ pod. option_map (with-pod pod) (act_on (fate deeds) pod)) pods

        none : (pod : Pod) (o : Option NodeAct) (rest : Option (Pod × NodeAct)) → option_or (option_map (with-pod pod) o) rest ≡ None → (o ≡ None) × (rest ≡ None)
        none pod None rest e = (refl, e)
        none pod (Some act) rest e = absurd (true≢false (ap is_some e))

        kept : (pods : List Pod) → rest-of pods ≡ None → Each (λ pod. act_on (fate deeds) pod ≡ None) (filter (λ pod. same_uid pod.owner_uid job.uid) pods)
        kept [] e = tt
        kept (p ∷ pods) e = by (same_uid p.owner_uid job.uid) (none p (act_on (fate deeds) p) (rest-of pods) e) (kept pods (none p (act_on (fate deeds) p) (rest-of pods) e).1)
          where
            by : (b : Bool) → (act_on (fate deeds) p ≡ None) × (rest-of pods ≡ None) → Each (λ pod. act_on (fate deeds) pod ≡ None) (filter (λ pod. same_uid pod.owner_uid job.uid) pods)
                → Each (λ pod. act_on (fate deeds) pod ≡ None) (cond b (p ∷ filter (λ pod. same_uid pod.owner_uid job.uid) pods) (filter (λ pod. same_uid pod.owner_uid job.uid) pods))
            by true n more = (n.0, more)
            by false n more = more

    -- An active pod that nothing befalls has no end.
    endless : (pod : Pod) → is_active pod ≡ true → act_on (fate deeds) pod ≡ None → pod_end (fate deeds) pod ≡ None
    endless pod active none = by (is_open pod) (is_marked pod) (pod_end (fate deeds) pod) active none
      where
        by : (o m : Bool) (end : Option End) → (o && not m) ≡ true → cond (not o) None (cond m (Some Stop) (act_with pod end)) ≡ None → end ≡ None
        by true false None a n = refl
        by true false (Some end) a n = absurd (some (is_pending pod.phase) (is_again pod end) n)
          where
            some : (x y : Bool) → cond x (Some Start) (cond y (Some Again) (Some (Finish end))) ≡ None → ⊥
            some true y n = true≢false (ap is_some n)
            some false true n = true≢false (ap is_some n)
            some false false n = true≢false (ap is_some n)
        by true true end a n = absurd (true≢false (sym a))
        by false m end a n = absurd (true≢false (sym a))

    -- A marked open pod is stopped.
    unending : (pod : Pod) → is_ending pod ≡ true → act_on (fate deeds) pod ≡ None → ⊥
    unending pod ending none = by (is_open pod) (is_marked pod) (act_with pod (pod_end (fate deeds) pod)) ending none
      where
        by : (o m : Bool) (rest : Option NodeAct) → (o && m) ≡ true → cond (not o) None (cond m (Some Stop) rest) ≡ None → ⊥
        by true true rest a n = true≢false (ap is_some n)
        by true false rest a n = true≢false (sym a)
        by false m rest a n = true≢false (sym a)

    -- The first pod that passes.
    first : (test : Pod → Bool) (P : Pod → Type 0) (pods : List Pod) → list_any test pods ≡ true → Each P pods → (pod : Pod) × (test pod ≡ true) × P pod
    first test P [] h all = absurd (true≢false (sym h))
    first test P (p ∷ pods) h all = by (test p) refl h (first test P pods)
      where
        by : (b : Bool) → test p ≡ b → (b || list_any test pods) ≡ true → (list_any test pods ≡ true → Each P pods → (pod : Pod) × (test pod ≡ true) × P pod) → (pod : Pod) × (test pod ≡ true) × P pod
        by true e h ih = (p, e, all.0)
        by false e h ih = ih h all.1

    found : (test : Pod → Bool) (P : Pod → Type 0) (pods : List Pod) → list_any test pods ≡ true → Each P pods → (pod : Pod) × (Contains pods pod) × (test pod ≡ true) × P pod
    found test P pods h all =
        let one = first test (λ pod. Contains pods pod × P pod) pods h (Each-both (λ pod. Contains pods pod) P pods (recursion_from_All (λ pod. Contains pods pod) pods (All-contains_itself pods)) all) in
        (one.0, one.2.0, one.1, one.2.1)

    -- Its own pods are as the log has them.
    enough : HasEnough job (own_pods job basis.pods) → HasEnough job (pods_of job.uid (log_given shape deeds))
    enough h = subst (HasEnough job) own h

    pub waiting : Waits job basis → IsWaiting deeds (backoff k (notes shape c deeds (log_given shape deeds))) (log_given shape deeds) job
    waiting (ForResume unsettled suspended) = IsOpen unsettled (IsSuspended suspended)
    waiting (ForRoom unsettled none) = IsOpen unsettled (MayRunNone none)
    waiting (ForActive unsettled has h) =
        let one = found is_tracked_active (λ pod. act_on (fate deeds) pod ≡ None) (pods_of job.uid (log_given shape deeds)) (ap (list_any is_tracked_active) (sym own) ∙ h) node-left in
        let active = (and_parts (is_active one.0) (is_tracked one.0) one.2).0 in
        IsOpen unsettled (HasPods (enough has) one.0 one.1 active (endless one.0 active one.3))
    waiting (ForEnding h) =
        let one = found is_ending (λ pod. act_on (fate deeds) pod ≡ None) (pods_of job.uid (log_given shape deeds)) (ap (list_any is_ending) (sym own) ∙ h) node-left in
        absurd (unending one.0 one.2 one.3)
    waiting (ForEver unsettled second is past) = IsOpen unsettled (IsHeldBack second (ap opening (sym same) ∙ is) past)

  machine : Machine shape deeds
  machine = legal_run stay shape deeds legal valid

  legal-log : Legal (log_given shape deeds)
  legal-log = subst Legal machine.run.log_is machine.run.syncs.tied.legal

  stored : Stored (log_given shape deeds)
  stored = Stored-from_legal (log_given shape deeds) legal-log

  -- The last entries of the Job and of the pods.
  last : IsLastOf k job (pods_under k (log_given shape deeds)) (last_told Jobs k (log_given shape deeds)) (last_told Pods k (log_given shape deeds)) (log_given shape deeds)
  last = record { jobs_by = omega arith; pods_by = omega arith; job_is = λ within. there; pods_are = λ within. refl }

  told-from : TellsFrom k (last_told Jobs k (log_given shape deeds)) (last_told Pods k (log_given shape deeds)) (log_given shape deeds)
  told-from = record {
    listed = λ n from to. job-listed k (upto n (log_given shape deeds)) job (last-job k (log_given shape deeds) n from to ∙ there);
    told_at = told-at;
  }
    where
      told-at : (kind : Kind) → 0 < point kind (last_told Jobs k (log_given shape deeds))
          (last_told Pods k (log_given shape deeds))
          → point kind (last_told Jobs k (log_given shape deeds)) (last_told Pods k (log_given shape deeds)) ≤ length
          (log_given shape deeds)
          → option_and_then (told kind) (entry_at (point kind (last_told Jobs k (log_given shape deeds)) (last_told Pods k (log_given shape deeds))) (log_given shape deeds)) ≡ Some k
      told-at Jobs some within = last-told_at Jobs k (log_given shape deeds) some
      told-at Pods some within = last-told_at Pods k (log_given shape deeds) some

  -- The specification of the Job is valid.
  valid-spec : IsValidSpec job.spec
  valid-spec =
      let put = last-put k job (log_given shape deeds) there in
      machine.run.plannable.valid put.from job (ap (entry_at put.from) machine.run.log_is ∙ put.is)

  -- The Job's own pods among those of its key are all that were made for it.
  own-all : own_pods job (pods_under k (log_given shape deeds)) ≡ pods_of job.uid (log_given shape deeds)
  own-all =
      own-is (log_given shape deeds) whole job legal-log
      (record {
        jobs_at = omega arith;
        pods_at = omega arith;
        job = sym
            (ap (job_in k) (upto-all (length (log_given shape deeds)) (log_given shape deeds) (omega arith)) ∙ there);
        pods =
            ap (pods_under k) (sym (upto-all (length (log_given shape deeds)) (log_given shape deeds) (omega arith)));
      }) refl
      ∙ ap (pods_of job.uid) (upto-all (length (log_given shape deeds)) (log_given shape deeds) (omega arith))
    where
      -- What a sync would see that began now.
      whole : Basis
      whole = record {
        key = k;
        job = Some job;
        pods = pods_under k (log_given shape deeds);
        jobs_at = record { 0 = length (log_given shape deeds) };
        pods_at = record { 0 = length (log_given shape deeds) };
        now = moment shape deeds;
        backoff = backoff k (notes shape c deeds (log_given shape deeds));
      }

  rising : IsRising (pods_under k (log_given shape deeds))
  rising = rises_filter 0 (λ pod. same_key pod.owner k) (pods_in (log_given shape deeds)) (pods_in-rises (log_given shape deeds))

  free : (w : ℕ) → register w (notes shape c deeds (log_given shape deeds)) ≡ None
  free w = by (nat_lt w shape.workers) refl
    where
      by : (t : Bool) → nat_lt w shape.workers ≡ t → register w (notes shape c deeds (log_given shape deeds)) ≡ None
      by true s = ((at-rest shape deeds legal working quiet).each c within).registers w (ltb-true w shape.workers s)
      by false s = never-begins w _ (notes-none shape w (ltb-false w shape.workers s) c deeds (log_given shape deeds) legal)

  -- Where no sync that saw the last of the key ended well, the key is busy.
  well-busy : AllEndRestless k (last_told Jobs k (log_given shape deeds)) (last_told Pods k (log_given shape deeds)) (notes shape c deeds (log_given shape deeds)) → is_sure k (notes shape c deeds (log_given shape deeds)) ≡ true → ⊥
  well-busy well sure =
      not-busy k (last_told Jobs k (log_given shape deeds)) (last_told Pods k (log_given shape deeds)) (notes shape c deeds (log_given shape deeds)) (legal-fit shape c deeds legal) idle.line free idle.delays
      (sure-busy k (last_told Jobs k (log_given shape deeds)) (last_told Pods k (log_given shape deeds)) (notes shape c deeds (log_given shape deeds)) (legal-fit shape c deeds legal)
      (plain k (last_told Jobs k (log_given shape deeds)) (last_told Pods k (log_given shape deeds)) shape c deeds legal told-from well) sure
      (subst (λ o. HasCacheSeen o (last_told Jobs k (log_given shape deeds))) (sym (idle.caches Jobs)) (last-within Jobs k (log_given shape deeds)))
      (subst (λ o. HasCacheSeen o (last_told Pods k (log_given shape deeds))) (sym (idle.caches Pods)) (last-within Pods k (log_given shape deeds))))
    where
      idle : HasNothingToDo (notes shape c deeds (log_given shape deeds)) (log_given shape deeds) shape.workers
      idle = (at-rest shape deeds legal working quiet).each c within

  pub not-stuck : is_sure k (notes shape c deeds (log_given shape deeds)) ≡ true → IsWaiting deeds (backoff k (notes shape c deeds (log_given shape deeds))) (log_given shape deeds) job
  not-stuck sure = by (has_end job.status.conditions) refl
    where
      stance : has_end job.status.conditions ≡ false
          → Stance k job (pods_under k (log_given shape deeds)) (last_told Jobs k (log_given shape deeds)) (last_told Pods k (log_given shape deeds)) (notes shape c deeds (log_given shape deeds)) (length (log_given shape deeds))
          → IsWaiting deeds (backoff k (notes shape c deeds (log_given shape deeds))) (log_given shape deeds) job
      stance unended (inl h) = absurd (well-busy h.0 sure)
      stance unended (inr r) =
          waiting r.0 r.1 (ap (own_pods job) r.2 ∙ own-all) r.4
          (waits job r.0 r.1 (subst IsRising (sym r.2) rising) valid-spec unended r.3)

      by : (e : Bool) → has_end job.status.conditions ≡ e → IsWaiting deeds (backoff k (notes shape c deeds (log_given shape deeds))) (log_given shape deeds) job
      by true e = HasEnded e
      by false e =
          stance e
          (stands k job (pods_under k (log_given shape deeds)) (last_told Jobs k (log_given shape deeds)) (last_told Pods k (log_given shape deeds)) shape c deeds legal stored last)
