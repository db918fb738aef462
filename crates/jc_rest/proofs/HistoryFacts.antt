-- At rest no ended pod of a Job that is there is forgotten.
use Rattle.std.proofs.Common.{◌≡◌, ℕ, ◌≤◌, ◌<◌, ◌==◌, Bool, true, false, cond, ◌&&◌, List, [], ◌∷◌, ◌++◌, length, slice_get, Option, Some, None, IfSome, is_some, refl, sym, ap, ◌∙◌, subst, arith, eqb-true, true≢false}
use Rattle.std.specs.List.{AllByRecursion as Each}
use Rattle.std.specs.Option.{option_map, option_to_list, unwrap_or, option_map_or}
use Rattle.std.proofs.lemmas.Bool.{and_from}
use Rattle.jc_log.specs.Acts as does
use Rattle.jc_control.specs.declared.ends.SyncEnd.{SyncEnd}
use Rattle.jc_types.specs.declared.actions.Fault.{Fault}
use Rattle.jc_types.specs.declared.actions.SpecChange.{SpecChange}
use Rattle.jc_types.specs.declared.numbers.Uid.{Uid}
use Rattle.jc_types.specs.declared.objects.Entry.{Entry}
use Rattle.jc_types.specs.declared.objects.Job.{Job}
use Rattle.jc_types.specs.declared.objects.Pod.{Pod}
use Rattle.jc_types.specs.declared.replies.Reply.{Reply}
use Rattle.jc_types.specs.declared.replies.Reply.TheVariants as reply
use Rattle.jc_types.specs.declared.runs.Shape.{Shape}
use Rattle.jc_types.specs.declared.specifications.JobSpec.{JobSpec}
use Rattle.jc_types.specs.declared.objects.KeyNames.{KeyNames as Key}
use Rattle.jc_types.specs.Keys.{same_key, same_uid}
use Rattle.jc_types.proofs.KeyFacts.{same_key-eq, same_key-itself, same_uid-itself}
use Rattle.jc_types.proofs.ListFacts.{Each-both, Each-weaker, Each-append as each-append}
use Rattle.jc_states.specs.declared.bases.Basis.{Basis}
use Rattle.jc_states.specs.Pods.{is_final}
use Rattle.jc_types.specs.ValidSpecs.{IsValidSpec}
use Rattle.jc_log.specs.Acts.{Act}
use Rattle.jc_log.specs.Deeds.{Deed}
use Rattle.jc_log.specs.Log.{Live, job_in, life, living, pods_of, upto}
use Rattle.jc_log.specs.Requests.{changed_spec, grown, update_refusal}
use Rattle.jc_log.specs.Writes.{Legal, Stored}
use Rattle.jc_log.proofs.WriteFacts.{Stored-from_legal}
use Rattle.jc_log.proofs.LogFacts.{upto-all, upto-fixed}
use Rattle.jc_log.proofs.PodFacts.{pods_of-live, pods_of-owned}
use Rattle.jc_sync.specs.Ask.{Ask}
use Rattle.jc_sync.specs.Flight.{Flight}
use Rattle.jc_sync.specs.Flights.{Flies}
use Rattle.jc_sync.specs.SyncPlaces.{IsAt}
use Rattle.jc_sync.specs.Once.{AllJustified}
use Rattle.jc_sync.proofs.FrameFacts.{AllFly-one}
use Rattle.jc_sync.proofs.OwnFacts.{owner-key}
use Rattle.jc_sync.specs.Steps.{Sync, stepped_at}
use Rattle.jc_sync.specs.AllRegisters.{WritesShow, flights_of_all, put_at, register_at}
use Rattle.jc_sync.proofs.RegisterFacts.{Around, around}
use Rattle.jc_history.specs.Available.{is_quiescent}
use Rattle.jc_history.specs.Diaries.{end_by, moment, notes, notes_taken, on_begin, on_clock, on_delivery, on_lag, on_list, on_step, restarts}
use Rattle.jc_history.specs.Delays.{is_retried}
use Rattle.jc_history.specs.Legal.{IsLegal, IsLegalNext}
use Rattle.jc_history.specs.Lines.{line}
use Rattle.jc_history.specs.Notes.{Note, Asked, Ended}
use Rattle.jc_history.specs.Registers.{asks_status, register}
use Rattle.jc_history.specs.Replies.{gives, log_given}
use Rattle.jc_history.proofs.DiaryFacts.{either}
use Rattle.jc_history.proofs.LegalFacts.{notes-next}
use Rattle.jc_order.specs.Restless.{FailsIf, has_forgotten, is_forgotten}
use Rattle.jc_order.proofs.ForgetFacts.{no-rest}
use Rattle.jc_runs.specs.Machines.{AllAskValid, IsTeam}
use Rattle.jc_runs.specs.Teams.{registers_of, stride_at}
use Rattle.jc_runs.proofs.CountedFacts.{justified}
use Rattle.jc_runs.proofs.LegalRuns.{Machine, There, given, legal_run, team, there, within}
use Rattle.jc_runs.proofs.ListFacts.{register_there}
use Rattle.jc_runs.proofs.StepRuns.{step_gives-at}
use Rattle.jc_rest.specs.Both.{AreThere, FailsAfter}
use Rattle.jc_rest.specs.LetGo.{EndedAreLetGo, IsLetGoOnceEnded}
use Rattle.jc_rest.specs.Lost.{AreLostWell}
use Rattle.jc_rest.proofs.EndFacts.{step-fails}
use Rattle.jc_rest.proofs.LostFacts.{lost-well}
use Rattle.jc_rest.proofs.StandFacts.{Standing, standing}

-- ---- what stood before

-- What stands of a log stood of it before each of its entries.
abbrev pub StoodEarlier : (List Entry → Type 0) → Type 0
StoodEarlier Stood = (e : Entry) (log : List Entry) → Stood (e ∷ log) → Stood log

stood-before : (Stood : List Entry → Type 0) → StoodEarlier Stood → (shape : Shape) (d : Deed) (past : List Deed) → Stood (log_given shape (d ∷ past)) → Stood (log_given shape past)
unfolding log_given
stood-before Stood older shape d past h = by (gives shape past (log_given shape past) d.act).entry h
  where
    by : (o : Option Entry) → Stood (grown (log_given shape past) o) → Stood (log_given shape past)
    by None h = h
    by (Some e) h = older e (log_given shape past) h

there-older : (k : Key) (job : Job) (u : Uid) (a b : ℕ) → StoodEarlier (AreThere k job u a b)
there-older k job u a b e log h = record {
  stays = λ n low high. ap (job_in k) (sym (upto-fixed n e log high)) ∙ h.stays n low (omega (arith, high));
  pod = λ n low high. ap (has_forgotten k job.uid u) (sym (upto-fixed n e log high)) ∙ h.pod n low (omega (arith, high));
}

-- Where it stands of the log, no step ends a sync that saw both but as one that failed.
abbrev pub MustFail : Key → ℕ → ℕ → (List Entry → Type 0) → Type 0
MustFail k a b Stood =
    (log : List Entry) → Stored log → Stood log → (now : ℕ) (flight : Flight) → Flies log flight
    → flight.basis.key ≡ k → a ≤ flight.basis.jobs_at.0 → b ≤ flight.basis.pods_at.0
    → (pending : Option Fault) (left : List Ask) → IsAt flight left → WritesShow log flight left → FailsAfter (stepped_at now pending log flight left).reply

-- ---- the notes of a step

module _ (k : Key) (a b : ℕ) where
  abbrev pub AllFail : List Note → Type 0
  AllFail some = Each (FailsIf k a b) some

  -- What the reply to a step of a sync that saw both is.
  abbrev IfSaw : Basis → Reply → Type 0
  IfSaw basis r = same_key basis.key k ≡ true → a ≤ basis.jobs_at.0 → b ≤ basis.pods_at.0 → FailsAfter r

  step-notes : (w now : ℕ) (o : Option Basis) (r : Reply) → ((basis : Basis) → o ≡ Some basis → IfSaw basis r) → AllFail (on_step w now o r)
  step-notes w now (Some basis) (reply.Stepped asked given) f = by (end_by (asks_status asked) given) (f basis refl)
    where
      by : (o : Option SyncEnd) → (same_key basis.key k ≡ true → a ≤ basis.jobs_at.0 → b ≤ basis.pods_at.0 → IfSome o (λ end. is_retried end ≡ true))
          → AllFail (option_to_list (option_map (λ end. Ended w basis end now) o) ++ Asked w basis asked given ∷ [])
      by None g = (tt, tt)
      by (Some end) g = (g, (tt, tt))
  step-notes w now (Some basis) reply.Ended f = (λ s x y. absurd (f basis refl s x y), tt)
  step-notes w now o other f = tt

  -- Those of every other act.
  other-notes : (c : ℕ) (act : Act) (r : Reply) (now : ℕ) (log : List Entry) (older : List Note)
      → ((w : ℕ) → act ≡ does.Step c w → (basis : Basis) → register w older ≡ Some basis → IfSaw basis r) → AllFail (notes_taken c act r now log older)
  other-notes c (does.List controller kind) r now log older f = either (FailsIf k a b) (controller == c) _ (by r)
    where
      by : (r : Reply) → AllFail (on_list kind log r)
      by (reply.Listed at) = (tt, tt)
      by other = tt
  other-notes c (does.Deliver controller kind) r now log older f = either (FailsIf k a b) (controller == c) _ (by r)
    where
      by : (r : Reply) → AllFail (on_delivery kind log r)
      by (reply.Delivered version) = (tt, tt)
      by (reply.Expired floor) = (tt, tt)
      by other = tt
  other-notes c (does.Begin controller worker) r now log older f = either (FailsIf k a b) (controller == c) _ (by r)
    where
      sent : (some : List Key) → AllFail (on_lag some)
      sent [] = tt
      sent (key ∷ rest) = (tt, tt)

      by : (r : Reply) → AllFail (on_begin worker now log older r)
      by (reply.Begun key jobs_at pods_at) = (tt, tt)
      by (reply.Behind kind need have) = sent (line older)
      by other = tt
  other-notes c (does.Step controller worker) r now log older f = by (controller == c) refl
    where
      by : (t : Bool) → (controller == c) ≡ t → AllFail (cond t (on_step worker now (register worker older) r) [])
      by false s = tt
      by true s = step-notes worker now (register worker older) r (f worker (ap (λ x. does.Step x worker) (eqb-true controller c s)))
  other-notes c (does.PutFault controller worker fault) r now log older f = either (FailsIf k a b) (controller == c) _ (tt, tt)
  other-notes c (does.Clock add) r now log older f = by r
    where
      by : (r : Reply) → AllFail (on_clock r)
      by (reply.Now moment) = (tt, tt)
      by other = tt
  other-notes c other r now log older f = tt

-- ---- a deed of a machine

module _ (shape : Shape) (past : List Deed) (d : Deed) (legal : IsLegalNext shape past d) (m : Machine shape past) (k : Key) (a b : ℕ) (Stood : List Entry → Type 0) (must : MustFail k a b Stood)
    (stand : Stood (log_given shape past)) (c w : ℕ) (e : d.act ≡ does.Step c w) where
  of_shape : (c < shape.controllers) × (w < shape.workers)
  of_shape = within shape past d legal m (does.Step c w) e

  one : There shape past d legal m m.teams c
  one = team shape past d legal m c of_shape.0

  its : IsTeam shape past m.log c one.one
  its = m.run.each c one.one one.is

  -- The sync of the register, where one is.
  at-sync : (sync : Sync) → slice_get one.one.registers w ≡ Some (Some sync) → (fault : Option Fault) → (basis : Basis) → sync.flight.basis ≡ basis → IfSaw k a b basis (stepped_at m.now fault m.log sync.flight sync.left).reply
  at-sync sync mine fault basis same named jobs pods =
      must m.log (Stored-from_legal m.log m.run.syncs.tied.legal) (subst Stood (sym m.run.log_is) stand) m.now sync.flight flies
      (ap (λ (x : Basis). x.key) same ∙ same_key-eq basis.key k named)
      (subst (λ (x : Basis). a ≤ x.jobs_at.0) (sym same) jobs) (subst (λ (x : Basis). b ≤ x.pods_at.0) (sym same) pods)
      fault sync.left (m.run.syncs.each c w sync at).at (m.run.syncs.writes c w sync at)
    where
      at : register_at c w (registers_of m.teams) ≡ Some (Some sync)
      at = register_there m.teams c one.one one.one one.is w (Some sync) mine

      flies : Flies m.log sync.flight
      flies = fly (around c w (registers_of m.teams) (Some sync) at)
        where
          fly : Around (flights_of_all (registers_of m.teams)) (λ new. flights_of_all (put_at c w new (registers_of m.teams))) (Some sync) → Flies m.log sync.flight
          fly x = AllFly-one m.log x.front x.back sync.flight (subst (λ l. Each (Flies m.log) l) x.is m.run.syncs.tied.flying)

  told-fails : (basis : Basis) → register w (notes shape c past (log_given shape past)) ≡ Some basis → IfSaw k a b basis d.reply
  told-fails basis is named jobs pods = by r.one r.is
    where
      r : There shape past d legal m one.one.registers w
      r = there shape past d legal m one.one.registers w (let count = its.count in let working = of_shape.1 in omega (arith, count, working))

      f : There shape past d legal m one.one.faults w
      f = there shape past d legal m one.one.faults w (let count = its.faults in let working = of_shape.1 in omega (arith, count, working))

      gave : (o : Option Sync) → slice_get one.one.registers w ≡ Some o
          → d.reply ≡ (stride_at m.log m.now f.one one.one.con.schedule o).reply
      gave o q =
          (given shape past d legal m (does.Step c w) (record { reply = (stride_at m.log m.now f.one one.one.con.schedule o).reply; entry = (stride_at m.log m.now f.one one.one.con.schedule o).entry }) e
          (step_gives-at shape past m.log m.teams m.fates m.now m.run c one.one one.is w f.one f.is o q)).told

      its-basis : (o : Option Sync) → slice_get one.one.registers w ≡ Some o → option_map (λ (s : Sync). s.flight.basis) o ≡ Some basis
      its-basis o q = sym (its.workers.syncs w o q) ∙ ap (λ log. register w (notes shape c past log)) m.run.log_is ∙ is

      by : (o : Option Sync) → slice_get one.one.registers w ≡ Some o → FailsAfter d.reply
      by None q = absurd (true≢false (sym (ap is_some (its-basis None q))))
      by (Some sync) q =
          subst FailsAfter (sym (gave (Some sync) q))
          (at-sync sync q f.one basis (ap (λ x. unwrap_or x basis) (its-basis (Some sync) q)) named jobs pods)

-- ---- all notes

-- An update that is allowed leaves a valid specification.
abbrev pub Stay : Type 0
Stay = (spec : JobSpec) (change : SpecChange) → IsValidSpec spec → update_refusal spec change ≡ None → IsValidSpec (changed_spec spec change)

module _ (stay : Stay) (shape : Shape) (k : Key) (a b : ℕ) (Stood : List Entry → Type 0) (older : StoodEarlier Stood) (must : MustFail k a b Stood) where
  pub all-fail : (c : ℕ) (deeds : List Deed) → IsLegal shape deeds → AllAskValid deeds → Stood (log_given shape deeds) → AllFail k a b (notes shape c deeds (log_given shape deeds))
  all-fail c [] legal valid stand = tt
  all-fail c (d ∷ past) legal valid stand =
      subst (AllFail k a b) (sym (notes-next shape c past d legal.1))
      (by (restarts c d.act) (all-fail c past legal.1 valid.1 (stood-before Stood older shape d past stand)))
    where
      old : List Note
      old = notes shape c past (log_given shape past)

      new-notes : AllFail k a b (notes_taken c d.act d.reply (moment shape past) (log_given shape (d ∷ past)) old)
      new-notes =
          other-notes k a b c d.act d.reply (moment shape past) (log_given shape (d ∷ past)) old
          (λ w e. told-fails shape past d legal.0 (legal_run stay shape past legal.1 valid.1) k a b Stood must (stood-before Stood older shape d past stand) c w e)

      by : (t : Bool) → AllFail k a b old → AllFail k a b (cond t [] (notes_taken c d.act d.reply (moment shape past) (log_given shape (d ∷ past)) old ++ old))
      by true more = tt
      by false more = each-append (FailsIf k a b) _ _ new-notes more

-- ---- at rest

module _ (stay : Stay) (shape : Shape) (deeds : List Deed) (legal : IsLegal shape deeds) (valid : AllAskValid deeds) (some : 0 < shape.controllers) (working : 0 < shape.workers)
    (quiet : is_quiescent shape deeds (log_given shape deeds) ≡ true) where
  not-both : (k : Key) (job : Job) (u : Uid) → job_in k (log_given shape deeds) ≡ Some job → has_forgotten k job.uid u (log_given shape deeds) ≡ true → ⊥
  not-both k job u its p =
      no-rest shape deeds legal working quiet 0 some k job.uid u both.together
      (all-fail stay shape k both.together.job_from both.together.pod_from (AreThere k job u both.together.job_from both.together.pod_from)
      (there-older k job u both.together.job_from both.together.pod_from) (step-fails k job u both.together.job_from both.together.pod_from)
      0 deeds legal valid (record { stays = both.stays; pod = both.together.pod_since }))
    where
      both : Standing k job u (log_given shape deeds)
      both = standing k job u (log_given shape deeds) its p

  legal-log : Legal (log_given shape deeds)
  legal-log = let m = legal_run stay shape deeds legal valid in subst Legal m.run.log_is m.run.syncs.tied.legal

  pub none-forgotten : (k : Key) (job : Job) → job_in k (log_given shape deeds) ≡ Some job → EndedAreLetGo job (log_given shape deeds)
  none-forgotten k job its =
      Each-weaker (λ pod. (life pod.uid log ≡ Live pod) × (pod.owner_uid ≡ job.uid)) IsLetGoOnceEnded (λ pod h. one pod h.0 h.1) (pods_of job.uid log)
      (Each-both (λ pod. life pod.uid log ≡ Live pod) (λ pod. pod.owner_uid ≡ job.uid) (pods_of job.uid log) (pods_of-live job.uid log) (pods_of-owned job.uid log))
    where
      log : List Entry
      log = log_given shape deeds

      whole : upto (length log) log ≡ log
      whole = upto-all (length log) log (omega arith)

      one : (pod : Pod) → life pod.uid log ≡ Live pod → pod.owner_uid ≡ job.uid → IsLetGoOnceEnded pod
      one pod lives own final = by pod.tracked refl
        where
          owner : pod.owner ≡ k
          owner = owner-key k (length log) (length log) log job pod legal-log (ap (job_in k) whole ∙ its) (ap (life pod.uid) whole ∙ lives) own

          forgotten : pod.tracked ≡ true → is_forgotten k job.uid pod ≡ true
          forgotten tracked =
              and_from (same_key pod.owner k) (same_uid pod.owner_uid job.uid && (pod.tracked && is_final pod.phase)) (ap (λ q. same_key q k) owner ∙ same_key-itself k)
              (and_from (same_uid pod.owner_uid job.uid) (pod.tracked && is_final pod.phase) (ap (λ v. same_uid v job.uid) own ∙ same_uid-itself job.uid)
              (and_from pod.tracked (is_final pod.phase) tracked final))

          by : (b : Bool) → pod.tracked ≡ b → pod.tracked ≡ false
          by false t = t
          by true t =
              absurd (not-both k job pod.uid its
              (ap (λ l. option_map_or (is_forgotten k job.uid) (living l) false) lives ∙ forgotten t))

-- ---- how finalizers were lost

pub all-lost-well : Stay → (shape : Shape) (deeds : List Deed) → IsLegal shape deeds → AllAskValid deeds → (k : Key) (job : Job) → job_in k (log_given shape deeds) ≡ Some job → AreLostWell job deeds (log_given shape deeds)
all-lost-well stay shape deeds legal valid k job its =
    lost-well shape deeds legal (Stored-from_legal (log_given shape deeds) (subst Legal m.run.log_is m.run.syncs.tied.legal)) job
    (subst (AllJustified job deeds) m.run.log_is (justified shape deeds m.log m.teams m.fates m.now m.run k job (ap (job_in k) m.run.log_is ∙ its)))
  where
    m : Machine shape deeds
    m = legal_run stay shape deeds legal valid
