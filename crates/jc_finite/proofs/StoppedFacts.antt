-- In a settle each active pod that fails and is restarted has its Job, if it was so of those that were there when it began, and
-- of what syncs under way could make: no Job goes, and a sync that begins sees the Job that is there.
use Rattle.std.proofs.Common.{◌≡◌, ◌⊎◌, inl, inr, ℕ, zero, suc, ◌-◌, ◌<◌, true, false, List, ◌∷◌, length, Option, Some, None, is_some, IfSome, refl, sym, ap, ◌∙◌, subst, arith, true≢false}
use Rattle.std.specs.List.{AllByRecursion as Each}
use Rattle.std.specs.Option.{option_map_or}
use Rattle.jc_types.proofs.KeyFacts.{same_uid-itself}
use Rattle.jc_types.proofs.ListFacts.{Each-both, Each-weaker}
use Rattle.jc_types.specs.declared.objects.KeyNames.{KeyNames as Key}
use Rattle.jc_types.specs.Keys.{same_uid}
use Rattle.jc_types.specs.declared.actions.End.{End}
use Rattle.jc_types.specs.declared.objects.Entry.{Entry}
use Rattle.jc_types.specs.declared.objects.Entry.TheVariants.{JobPut, JobGone, PodPut, PodGone}
use Rattle.jc_types.specs.declared.objects.Job.{Job}
use Rattle.jc_types.specs.declared.objects.Pod.{Pod}
use Rattle.jc_types.specs.declared.runs.Shape.{Shape}
use Rattle.jc_types.specs.declared.runs.Sys.{Sys}
use Rattle.jc_types.specs.declared.runs.Sys.TheVariants as sys
use Rattle.jc_types.specs.declared.specifications.Restart.{Restart}
use Rattle.jc_types.specs.declared.specifications.Template.{Template}
use Rattle.jc_states.specs.ObjectChanges.{JobStep, PodStep}
use Rattle.jc_log.specs.Acts as does
use Rattle.jc_log.specs.Acts.{Act}
use Rattle.jc_log.specs.Deeds.{Deed, act_of_system}
use Rattle.jc_log.specs.Log.{Live, job_in, life, living, pod_in, pods_in}
use Rattle.jc_log.specs.Requests.{grown}
use Rattle.jc_log.specs.Writes.{Stored}
use Rattle.jc_log.proofs.LogFacts.{upto-all}
use Rattle.jc_log.proofs.WriteFacts.{Stored-from_legal, job_in-key, life-uid}
use Rattle.jc_runs.specs.Basis.{Basis}
use Rattle.jc_runs.specs.Diaries.{moment}
use Rattle.jc_runs.specs.Legal.{IsLegal, IsOfShape}
use Rattle.jc_runs.specs.Machines.{AllAskValid}
use Rattle.jc_runs.specs.Replies.{gives, log_given}
use Rattle.jc_runs.proofs.LegalRuns.{legal_run}
use Rattle.jc_counted.proofs.CountedFacts.{Stay}
use Rattle.jc_counted.proofs.PolicyFacts.{CreatesSuch, pods-have}
use Rattle.jc_settle.specs.Comes.{Acts, Begins, Comes, Delivers, Lists, Steps, Ticks}
use Rattle.jc_settle.specs.Serial.{is_begin_of_any}
use Rattle.jc_settle.specs.Settles.{next_of_settle, settled_on, with_next}
use Rattle.jc_settle.proofs.ComesFacts.{first-comes}
use Rattle.jc_settle.proofs.OnFacts.{IsNext, next-is, next-legal, on-some}
use Rattle.jc_settle.proofs.SerialFacts.{only}
use Rattle.jc_remaining.specs.Decisions.{restarts_on_failure}
use Rattle.jc_remaining.specs.Nodes.{end_at, fate, first_container, pod_end}
use Rattle.jc_remaining.specs.Remaining.{ends_of}
use Rattle.jc_remaining.proofs.OnwardFacts.{on-says}
use Rattle.jc_restarts.specs.Restarts.{HasItsJob, IsPresent, MayMakePods, deletes}
use Rattle.jc_restarts.proofs.MadeFacts.{Kept, Made, MadeByStep, PutBy, PutsSuch, Stays, has-still, job-stays, pods-then, puts-by, there-still}
use Rattle.jc_counted.proofs.CountedFacts.{was-active}
use Rattle.jc_restarts.proofs.SawFacts.{made-before, saw-step, sync-saw}
use Rattle.jc_restarts.proofs.StandFacts.{none-gone}
use Rattle.jc_finite.specs.Finite.{CountSuccesses, FailsUnderItsJob, MakesUnderItsJob, StopInTheEnd, SuccessesCount, SucceedAll}
use Rattle.jc_finite.proofs.SuccessFacts.{HasOne, Succeeds, each-on, none-deletes, pod-found-has, pod-has, pods-some}

module _ (fates : Key → Option (List End)) (shape : Shape) where
  -- What fails and is restarted has its Job, and so has what is made yet.
  pub record AreStopped (past : List Deed) : Type 0 where
    pub pods : Each (FailsUnderItsJob fates (log_given shape past)) (pods_in (log_given shape past))
    pub syncs : (basis : Basis) → MayMakePods shape past basis → MakesUnderItsJob fates (log_given shape past) basis

  module _ (stay : Stay) (some : 0 < shape.workers) where
    stored-at : (deeds : List Deed) → IsLegal shape deeds → AllAskValid deeds → Stored (log_given shape deeds)
    stored-at deeds legal valid = let m = legal_run stay shape deeds legal valid in subst Stored m.run.log_is (Stored-from_legal m.log m.run.syncs.tied.legal)

    -- ---- one event more

    module _ (past : List Deed) (legal : IsLegal shape past) (valid : AllAskValid past) (h : AreStopped past) (d : Deed) (e : next_of_settle shape past ≡ Some d) where
      abbrev log : List Entry
      log = log_given shape past

      abbrev new : List Entry
      new = log_given shape (d ∷ past)

      abbrev put : Option Entry
      put = (gives shape past (log_given shape past) d.act).entry

      next : IsNext shape past d
      next = next-is shape past d e

      act-is : act_of_system next.comes ≡ d.act
      act-is = ap (λ (y : Deed). y.act) next.is

      then-legal : IsLegal shape (d ∷ past)
      then-legal = (next-legal shape past d e, legal)

      then-valid : AllAskValid (d ∷ past)
      then-valid = subst AllAskValid (on-some shape 0 past d e) ((on-says shape 1 past).valid valid)

      grew : log_given shape (d ∷ past) ≡ grown (log_given shape past) (gives shape past (log_given shape past) d.act).entry
      unfolding log_given
      grew = refl

      stored : Stored (grown log put)
      stored = subst Stored grew (stored-at (d ∷ past) then-legal then-valid)

      stays : (k : Key) (job : Job) → job_in k log ≡ Some job → Stays new k job
      stays k job there = subst (λ l. Stays l k job) (sym grew) (job-stays log put k job stored (none-gone k shape past log d.act (ap (deletes k) (sym act-is) ∙ none-deletes k next.comes)) there)

      -- ---- its pods

      abbrev Such : Pod → Type 0
      Such pod = FailsUnderItsJob fates new pod

      old-such : (pod : Pod) → FailsUnderItsJob fates log pod → FailsUnderItsJob fates new pod
      old-such pod was active policy end fated failing = has-still log new stays pod (was active policy end fated failing)

      kept-such : (old pod : Pod) → life pod.uid log ≡ Live old → PodStep old pod → FailsUnderItsJob fates new pod
      kept-such old pod live step active policy end fated failing = record {
        job = its.job;
        there = ap (λ k. job_in k new) step.owner ∙ its.there;
        own = ap (λ u. same_uid u its.job.uid) step.owner_uid ∙ its.own;
        policy = its.policy ∙ sym step.restart;
      }
        where
          there : pod_in old.uid log ≡ Some old
          there = ap (λ u. pod_in u log) (life-uid pod.uid log old live) ∙ ap living live

          same-end : pod_end fates pod ≡ pod_end fates old
          same-end = λ i. option_map_or (end_at (step.serial i)) (fates (step.owner i)) None

          its : HasItsJob new old
          its =
              has-still log new stays old
              (pod-found-has (FailsUnderItsJob fates log) log old h.pods there (was-active old pod step active) (sym (ap restarts_on_failure step.restart) ∙ policy) end (sym same-end ∙ fated) failing)

      made-such : (pod : Pod) → MadeByStep shape past d.act pod → FailsUnderItsJob fates new pod
      made-such pod m active policy end fated failing = by (h.syncs m.made.basis may m.made.job m.made.saw (ap restarts_on_failure (sym m.made.restart) ∙ policy))
        where
          within : (m.controller < shape.controllers) × (m.worker < shape.workers)
          within = subst (IsOfShape shape) m.is (next-legal shape past d e).within

          may : MayMakePods shape past m.made.basis
          may = record { controller = m.controller; within = within.0; worker = m.worker; below = within.1; busy = m.made.busy; left = m.made.left }

          step : (there : IsPresent log m.made.job) → JobStep m.made.job there.now
          step there = saw-step log m.made.basis m.made.job (stored-at past legal valid) (sync-saw shape past m.made.basis may) m.made.saw there

          by : SucceedAll (ends_of fates m.made.job.key) ⊎ IsPresent log m.made.job → HasItsJob new pod
          by (inl all) = absurd (true≢false (sym failing ∙ (pod-has Succeeds fates pod (subst (λ k. SucceedAll (ends_of fates k)) (sym m.made.owner) all) end fated).0))
          by (inr there) =
              has-still log new stays pod
              (record {
                job = there.now;
                there = ap (λ k. job_in k log) m.made.owner ∙ there.there;
                own = (λ i. same_uid (m.made.owner_uid i) (there.uid i)) ∙ same_uid-itself m.made.job.uid;
                policy = ap (λ (t : Template). t.restart) (step there).template ∙ sym m.made.restart;
              })

      such-put : (pod : Pod) → PutBy shape past d.act pod → FailsUnderItsJob fates new pod
      such-put pod (Kept old live step) = kept-such old pod live step
      such-put pod (Made m) = made-such pod m

      all-such : Each (FailsUnderItsJob fates (log_given shape (d ∷ past))) (pods_in (log_given shape (d ∷ past)))
      all-such =
          subst (λ l. Each Such (pods_in l)) (sym grew)
          (pods-then Such log put (by put (puts-by shape past d.act put refl stored)) (Each-weaker (FailsUnderItsJob fates log) Such old-such (pods_in log) h.pods))
        where
          by : (o : Option Entry) → IfSome o (PutsSuch (PutBy shape past d.act)) → IfSome o (PutsSuch Such)
          by None p = tt
          by (Some (JobPut job)) p = tt
          by (Some (JobGone job)) p = tt
          by (Some (PodPut pod)) p = such-put pod p
          by (Some (PodGone pod)) p = tt

      -- ---- its syncs

      module _ (basis : Basis) (may : MayMakePods shape (d ∷ past) basis) (job : Job) (saw : basis.job ≡ Some job) (policy : restarts_on_failure job.spec.template.restart ≡ true) where
        abbrev Fine : List Entry → Type 0
        Fine l = SucceedAll (ends_of fates job.key) ⊎ IsPresent l job

        moved : Fine (log_given shape past) → Fine (log_given shape (d ∷ past))
        moved (inl all) = inl all
        moved (inr there) = inr (there-still log new stays job there)

        before : is_begin_of_any d.act ≡ false → Fine (log_given shape (d ∷ past))
        before n = moved (h.syncs basis (made-before shape past d basis legal n may) job saw policy)

        no-begin : (x y : Sys) → act_of_system x ≡ d.act → x ≡ y → is_begin_of_any (act_of_system y) ≡ false → is_begin_of_any d.act ≡ false
        no-begin x y a is n = ap is_begin_of_any (sym a ∙ ap act_of_system is) ∙ n

        seen : (k : Key) → job_in k log ≡ Some job → IsPresent log job
        seen k is = record { now = job; there = ap (λ q. job_in q log) (job_in-key k log job is) ∙ is; uid = refl }

        of : (x : Sys) → act_of_system x ≡ d.act → Comes shape past (log_given shape past) x → Fine (log_given shape (d ∷ past))
        of x a (Lists c kind lt is n) = before (no-begin x (sys.List c kind) a is refl)
        of x a (Delivers c kind version lt is n less) = before (no-begin x (sys.Deliver c kind) a is refl)
        of x a (Steps up c w begun lt less is r) = before (no-begin x (sys.Step c w) a is refl)
        of x a (Begins up free c w k rest lt is first) =
            let act : d.act ≡ does.Begin c w = sym a ∙ ap act_of_system is in
            let less = (subst (IsOfShape shape) act (next-legal shape past d e).within).1 in
            let it = only shape past legal d (next-legal shape past d e) up free c w k rest lt less act first may.controller may.worker basis may.within may.below may.busy in
            moved (inr (seen k (sym (ap (job_in k) (upto-all (length log) log (omega arith))) ∙ ap (λ (b : Basis). b.job) it.2 ∙ saw)))
        of x a (Acts up free none step is s) = before (no-begin x sys.Node a is refl)
        of x a (Ticks up free none idle due is s) = before (no-begin x (sys.Clock (due - moment shape past)) a is refl)

        fine : Fine (log_given shape (d ∷ past))
        fine = of next.comes act-is (first-comes shape past next.comes legal some next.first)

      then-stopped : AreStopped (d ∷ past)
      then-stopped = record { pods = all-such; syncs = fine }

    -- ---- all events

    pub on-stopped : (n : ℕ) (past : List Deed) → IsLegal shape past → AllAskValid past → AreStopped past → AreStopped (settled_on shape n past)
    on-stopped zero past legal valid h = h
    on-stopped (suc n) past legal valid h = let one = by (next_of_settle shape past) refl in on-stopped n (with_next (next_of_settle shape past) past) one.0 one.1 one.2
      where
        by : (o : Option Deed) → next_of_settle shape past ≡ o → IsLegal shape (with_next o past) × AllAskValid (with_next o past) × AreStopped (with_next o past)
        by None e = (legal, valid, h)
        by (Some d) e = (then-legal past legal valid h d e, then-valid past legal valid h d e, then-stopped past legal valid h d e)

-- ---- the pods of a settle

-- The pod has a container. Where its containers are restarted after a failure, no success of its key has more restarts than are
-- counted; and while it is active and its end is a failure, the Job that it was made for is there.
pub record ComesOrHas (fates : Key → Option (List End)) (log : List Entry) (pod : Pod) : Type 0 where
  pub some : is_some (first_container pod.containers) ≡ true
  pub counts : restarts_on_failure pod.restart ≡ true → CountSuccesses (ends_of fates pod.owner)
  pub has : FailsUnderItsJob fates log pod

module _ (stay : Stay) (shape : Shape) (some : 0 < shape.workers) (past : List Deed) (legal : IsLegal shape past) (valid : AllAskValid past) (stops : StopInTheEnd shape past) where
  -- What is so of the key and the policy of each Job.
  abbrev Counting : Key → Restart → Type 0
  Counting key restart = restarts_on_failure restart ≡ true → CountSuccesses (ends_of (fate past) key)

  system-counts : (x : Sys) → SuccessesCount (fate past) (act_of_system x)
  system-counts (sys.List c kind) = tt
  system-counts (sys.Deliver c kind) = tt
  system-counts (sys.Begin c w) = tt
  system-counts (sys.Step c w) = tt
  system-counts sys.Node = tt
  system-counts (sys.Clock add) = tt

  count-such : (act : Act) → SuccessesCount (fate past) act → CreatesSuch Counting act
  count-such (does.Create key spec) h = h
  count-such other h = tt

  module _ (events : ℕ) where
    abbrev now : List Deed
    now = settled_on shape events past

    abbrev then : List Entry
    then = log_given shape (settled_on shape events past)

    counting : Each (λ (pod : Pod). Counting pod.owner pod.restart) (pods_in (log_given shape (settled_on shape events past)))
    counting =
        pods-have Counting shape now
        (Each-weaker (λ (d : Deed). SuccessesCount (fate past) d.act) (λ (d : Deed). CreatesSuch Counting d.act) (λ d. count-such d.act) now (each-on shape (SuccessesCount (fate past)) system-counts events past stops.counts))

    stopped : AreStopped (fate past) shape (settled_on shape events past)
    stopped = on-stopped (fate past) shape stay some events past legal valid (record { pods = stops.pods; syncs = stops.syncs })

    pub pods-come : Each (ComesOrHas (fate past) (log_given shape (settled_on shape events past))) (pods_in (log_given shape (settled_on shape events past)))
    pods-come =
        Each-weaker (λ (pod : Pod). HasOne pod × (Counting pod.owner pod.restart × FailsUnderItsJob (fate past) then pod)) (ComesOrHas (fate past) then)
        (λ pod h. record { some = h.0; counts = h.1.0; has = h.1.1 }) (pods_in then)
        (Each-both HasOne (λ (pod : Pod). Counting pod.owner pod.restart × FailsUnderItsJob (fate past) then pod) (pods_in then) (pods-some shape now ((on-says shape events past).valid valid))
        (Each-both (λ (pod : Pod). Counting pod.owner pod.restart) (FailsUnderItsJob (fate past) then) (pods_in then) counting stopped.pods))
