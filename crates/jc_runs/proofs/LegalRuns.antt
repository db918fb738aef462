-- Each legal history is that of a machine: what holds of machines holds of legal histories.
use Rattle.std.proofs.Common.{◌≡◌, ℕ, ℤ, zero, suc, ◌+◌, ◌<◌, Bool, true, false, cond, nat_lt, List, [], ◌∷◌, length, map, set, slice_get, Option, Some, None, is_some, refl, sym, ap, ◌∙◌, subst, arith, true≢false}
use Rattle.std.specs.Prelude.{replicate}
use Rattle.std.specs.Option.{unwrap_or}
use Rattle.std.proofs.lemmas.List.{length-replicate}
use Rattle.jc_log.specs.Acts as does
use Rattle.jc_control.specs.Schedules.{idle, log_end, number_of}
use Rattle.jc_control.specs.ControllerCalls.{begun}
use Rattle.jc_log.specs.Range.{end_of_moments}
use Rattle.jc_types.specs.declared.actions.End.{End}
use Rattle.jc_types.specs.declared.actions.Fault.{Fault}
use Rattle.jc_types.specs.declared.actions.PhaseChange.{PhaseChange}
use Rattle.jc_types.specs.declared.actions.SpecChange.{SpecChange}
use Rattle.jc_types.specs.declared.numbers.Uid.{Uid}
use Rattle.jc_types.specs.declared.numbers.Version.{Version}
use Rattle.jc_types.specs.declared.objects.Entry.{Entry}
use Rattle.jc_types.specs.declared.objects.Kind.{Kind}
use Rattle.jc_types.specs.declared.replies.Reply.TheVariants as reply
use Rattle.jc_types.specs.declared.runs.Shape.{Shape}
use Rattle.jc_types.specs.declared.specifications.JobSpec.{JobSpec}
use Rattle.jc_types.specs.declared.objects.KeyNames.{KeyNames as Key}
use Rattle.jc_types.specs.Keys.{same_key}
use Rattle.jc_types.specs.ValidSpecs.{IsValidSpec}
use Rattle.jc_log.specs.Acts.{Act}
use Rattle.jc_log.specs.Deeds.{Deed}
use Rattle.jc_log.specs.Requests.{Answered, changed_spec, create_job_gives, delete_job_gives, grown, mark_pod_gives, refused, release_gives, report_phase_gives, update_refusal, update_spec_gives}
use Rattle.jc_log.specs.Writes.{Stored}
use Rattle.jc_log.proofs.RequestFacts.{create_job-stored, delete_job-stored, mark_pod-stored, release-stored, report_phase-stored, update_spec-stored}
use Rattle.jc_log.proofs.WriteFacts.{Stored-from_legal}
use Rattle.jc_history.specs.Available.{is_quiescent}
use Rattle.jc_history.specs.Legal.{IsLegal, IsLegalNext, IsOfShape, MaySettle}
use Rattle.jc_history.specs.Nodes.{node_step}
use Rattle.jc_history.specs.Replies.{clock_gives, deliver_gives, gives, log_given, node_gives}
use Rattle.jc_sync.specs.AllRegisters.{freed}
use Rattle.jc_runs.specs.Fates.{Fates}
use Rattle.jc_runs.specs.Machines.{AllAskValid, AsksValid, IsMachine}
use Rattle.jc_runs.specs.Teams.{KnowsNothing, Team, begin_held, begin_registers, begin_reply, clocked_team, delivered_at, listed, stride_at}
use Rattle.jc_runs.proofs.BeginFacts.{begin_gives-at, begin_run}
use Rattle.jc_runs.proofs.CacheFacts.{deliver_nothing, deliver_run, gives_deliver, gives_list, list_run}
use Rattle.jc_runs.proofs.ClockFacts.{end_run, gives_clock, tick_run}
use Rattle.jc_runs.proofs.EventFacts.{fault_run, gives_fault, gives_restart, holds_idle, restart_run}
use Rattle.jc_runs.proofs.ListFacts.{missing}
use Rattle.jc_runs.proofs.MirrorFacts.{deliver_places, list_places, mirror, mirrors, mirrors_grown, places, stride_places}
use Rattle.jc_runs.proofs.NodeFacts.{node_is, node_run}
use Rattle.jc_runs.proofs.PlainEvents.{fate_is, fated_run, run_nothing, settle_is, settled_run}
use Rattle.jc_runs.proofs.PodEvents.{finish_is, finished, finished_gives, mark_is, marked, report_is, reported, strip_is, stripped}
use Rattle.jc_runs.proofs.StartFacts.{run_start}
use Rattle.jc_runs.proofs.StepRuns.{step_gives-at, step_run}
use Rattle.jc_runs.proofs.StoredFacts.{finished-stored, node-stored, stride-stored}
use Rattle.jc_runs.proofs.StoreFacts.{create_is, created, delete_is, deleted, update_is, updated}

-- A machine that the history is of.
pub record Machine (shape : Shape) (deeds : List Deed) : Type 0 where
  pub log : List Entry
  pub teams : List Team
  pub fates : Fates
  pub now : ℕ
  pub run : IsMachine shape deeds log teams fates now

-- ---- the start

-- A controller that knows nothing.
abbrev fresh : ℕ → Team
fresh workers = record {
  con = record { schedule = idle; jobs = []; rows = [] };
  registers = replicate workers None;
  faults = replicate workers None;
}

replicate_at : {A : Type 0} (n c : ℕ) (x y : A) → slice_get (replicate n x) c ≡ Some y → y ≡ x
replicate_at zero zero x y e = absurd (true≢false (sym (ap is_some e)))
replicate_at zero (suc c) x y e = absurd (true≢false (sym (ap is_some e)))
replicate_at (suc n) zero x y e = sym (ap (λ o. unwrap_or o x) e)
replicate_at (suc n) (suc c) x y e = replicate_at n c x y e

at_start : (shape : Shape) → Machine shape []
at_start shape = record {
  log = [];
  teams = replicate shape.controllers (fresh shape.workers);
  fates = λ k. None;
  now = shape.start;
  run =
      run_start shape (replicate shape.controllers (fresh shape.workers)) (length-replicate shape.controllers (fresh shape.workers))
      (λ c team e. subst (KnowsNothing shape.workers) (sym (replicate_at shape.controllers c (fresh shape.workers) team e)) (record { schedule = refl; jobs = refl; rows = refl; registers = refl; faults = refl }));
}

-- ---- one more deed

module _ (shape : Shape) (past : List Deed) (d : Deed) (legal : IsLegalNext shape past d) (m : Machine shape past) where
  -- What the table of events says of the deed, at the machine's log.
  pub record Given (a : Answered) : Type 0 where
    pub told : d.reply ≡ a.reply
    pub long : d.length.0 ≡ length (grown m.log a.entry)
    pub grew : log_given shape (d ∷ past) ≡ grown m.log a.entry

  pub given : (act : Act) (a : Answered) → d.act ≡ act → gives shape past m.log act ≡ a → Given a
  unfolding log_given
  given act a e is =
      let all = ap (λ l. gives shape past l d.act) (sym m.run.log_is) ∙ ap (gives shape past m.log) e ∙ is in
      record {
        told = legal.reply ∙ ap (λ (a : Answered). a.reply) all;
        long =
            legal.length ∙ ap (λ (a : Answered). length (grown (log_given shape past) a.entry)) all
            ∙ ap (λ l. length (grown l a.entry)) (sym m.run.log_is);
        grew = ap (λ (a : Answered). grown (log_given shape past) a.entry) all ∙ ap (λ l. grown l a.entry) (sym m.run.log_is);
      }

  stored : Stored m.log
  stored = Stored-from_legal m.log m.run.syncs.tied.legal

  pub within : (act : Act) → d.act ≡ act → IsOfShape shape act
  within act e = subst (IsOfShape shape) e legal.within

  -- The controller of the number, and what stands at a worker's number.
  pub record There {A : Type 0} (xs : List A) (i : ℕ) : Type 0 where
    pub one : A
    pub is : slice_get xs i ≡ Some one

  pub there : {A : Type 0} (xs : List A) (i : ℕ) → i < length xs → There xs i
  there xs i within = by (slice_get xs i) refl
    where
      by : (o : Option _) → slice_get xs i ≡ o → There xs i
      by None e = absurd (missing xs i within e)
      by (Some x) e = record { one = x; is = e }

  pub team : (i : ℕ) → i < shape.controllers → There m.teams i
  team i within = there m.teams i (let count = m.run.count in omega (arith, count, within))

  -- ---- the store

  on_store : (a : Answered) → IsMachine shape (d ∷ past) (grown m.log a.entry) m.teams m.fates m.now → Machine shape (d ∷ past)
  on_store a run = record { log = grown m.log a.entry; teams = m.teams; fates = m.fates; now = m.now; run = run }

  create : (key : Key) (spec : JobSpec) → IsValidSpec spec → d.act ≡ does.Create key spec → Machine shape (d ∷ past)
  create key spec valid e =
      let a = create_job_gives m.log key spec m.now in
      let g = given (does.Create key spec) a e (create_is shape past m.log m.teams m.fates m.now m.run m.log d key spec) in
      on_store a (created shape past m.log m.teams m.fates m.now m.run (grown m.log a.entry) d key spec valid e g.told refl g.long (create_job-stored m.log stored key spec m.now))

  update : ((spec : JobSpec) (change : SpecChange) → IsValidSpec spec → update_refusal spec change ≡ None
      → IsValidSpec (changed_spec spec change)) → (key : Key) (version : Option Version) (change : SpecChange) → d.act
      ≡ does.Update key version change → Machine shape (d ∷ past)
  update stay key version change e =
      let a = update_spec_gives m.log key version change in
      let g = given (does.Update key version change) a e (update_is shape past m.log m.teams m.fates m.now m.run m.log d key version change) in
      on_store a (updated shape past m.log m.teams m.fates m.now m.run (grown m.log a.entry) d key version change e g.told refl g.long (update_spec-stored m.log stored key version change) stay)

  delete : (key : Key) → d.act ≡ does.Delete key → Machine shape (d ∷ past)
  delete key e =
      let a = delete_job_gives m.log key in
      let g = given (does.Delete key) a e (delete_is shape past m.log m.teams m.fates m.now m.run m.log d key) in
      on_store a (deleted shape past m.log m.teams m.fates m.now m.run (grown m.log a.entry) d key e g.told refl g.long (delete_job-stored m.log stored key))

  mark : (pod : Uid) → d.act ≡ does.Mark pod → Machine shape (d ∷ past)
  mark pod e =
      let a = mark_pod_gives m.log pod m.now in
      let g = given (does.Mark pod) a e (mark_is shape past m.log m.teams m.fates m.now m.run m.log d pod) in
      on_store a (marked shape past m.log m.teams m.fates m.now m.run (grown m.log a.entry) d pod e g.told refl g.long (mark_pod-stored m.log stored pod m.now))

  strip : (pod : Uid) → d.act ≡ does.Strip pod → Machine shape (d ∷ past)
  strip pod e =
      let a = release_gives m.log pod in
      let g = given (does.Strip pod) a e (strip_is shape past m.log m.teams m.fates m.now m.run m.log d pod) in
      on_store a (stripped shape past m.log m.teams m.fates m.now m.run (grown m.log a.entry) d pod e g.told refl g.long (release-stored m.log stored pod))

  finish : (pod : Uid) (exit : ℤ) → d.act ≡ does.Finish pod exit → Machine shape (d ∷ past)
  finish pod exit e =
      let a = finished_gives m.log pod exit in
      let g = given (does.Finish pod exit) a e (finish_is shape past m.log m.teams m.fates m.now m.run m.log d pod exit) in
      on_store a (finished shape past m.log m.teams m.fates m.now m.run (grown m.log a.entry) d pod exit e g.told refl g.long (finished-stored m.log stored pod exit))

  report : (pod : Uid) (change : PhaseChange) → d.act ≡ does.Report pod change → Machine shape (d ∷ past)
  report pod change e =
      let a = report_phase_gives m.log pod change in
      let g = given (does.Report pod change) a e (report_is shape past m.log m.teams m.fates m.now m.run m.log d pod change) in
      on_store a (reported shape past m.log m.teams m.fates m.now m.run (grown m.log a.entry) d pod change e g.told refl g.long (report_phase-stored m.log stored pod change))

  node : d.act ≡ does.Node → Machine shape (d ∷ past)
  node e =
      let a = node_gives m.log (node_step m.log m.fates) in
      let g = given does.Node a e (node_is shape past m.log m.teams m.fates m.now m.run m.log d) in
      on_store a (node_run shape past m.log m.teams m.fates m.now m.run (grown m.log a.entry) d e g.told refl g.long (node-stored m.log stored (node_step m.log m.fates)))

  -- ---- neither the store nor a controller

  settle : d.act ≡ does.Settle → Machine shape (d ∷ past)
  settle e =
      let g = given does.Settle (refused reply.Done) e (settle_is shape past m.log m.teams m.fates m.now m.run d) in
      let rests = ap (is_quiescent shape past) m.run.log_is ∙ subst (λ act. MaySettle act (is_quiescent shape past (log_given shape past))) e legal.settled in
      on_store (refused reply.Done) (settled_run shape past m.log m.teams m.fates m.now m.run d e rests g.told g.long)

  unknown_is : gives shape past m.log does.Unknown ≡ refused reply.Done
  unfolding gives
  unknown_is = refl

  unknown : d.act ≡ does.Unknown → Machine shape (d ∷ past)
  unknown e =
      let g = given does.Unknown (refused reply.Done) e unknown_is in
      on_store (refused reply.Done) (run_nothing shape past m.log m.teams m.fates m.now m.run d reply.Done does.Unknown e tt tt tt unknown_is (record { asked = refl; began = refl; untold = refl }) g.told g.long)

  say_fate : (key : Key) (ends : List End) → d.act ≡ does.Fate key ends → Machine shape (d ∷ past)
  say_fate key ends e =
      let g = given (does.Fate key ends) (refused reply.Done) e (fate_is shape past m.log m.teams m.fates m.now m.run d key ends) in
      record {
        log = m.log;
        teams = m.teams;
        fates = λ k. cond (same_key key k) (Some ends) (m.fates k);
        now = m.now;
        run = fated_run shape past m.log m.teams m.fates m.now m.run d key ends (λ k. cond (same_key key k) (Some ends) (m.fates k)) e g.told g.long (λ k. refl);
      }

  -- ---- all controllers

  tick : (add : ℕ) → d.act ≡ does.Clock add → Machine shape (d ∷ past)
  tick add e = by (nat_lt (m.now + add) end_of_moments) refl
    where
      by : (b : Bool) → nat_lt (m.now + add) end_of_moments ≡ b → Machine shape (d ∷ past)
      by true t =
          let is = ap (λ b. cond b (refused (reply.Now (m.now + add))) (refused reply.ClockEnd)) t in
          let g = given (does.Clock add) (refused (reply.Now (m.now + add))) e (gives_clock shape past m.log add ∙ ap (λ n. clock_gives (n + add)) (sym m.run.now_is) ∙ is) in
          record {
            log = m.log;
            teams = map (clocked_team (m.now + add)) m.teams;
            fates = m.fates;
            now = m.now + add;
            run = tick_run shape past m.log m.teams m.fates m.now m.run d add e g.long g.told is;
          }
      by false t =
          let is = ap (λ b. cond b (refused (reply.Now (m.now + add))) (refused reply.ClockEnd)) t in
          let g = given (does.Clock add) (refused reply.ClockEnd) e (gives_clock shape past m.log add ∙ ap (λ n. clock_gives (n + add)) (sym m.run.now_is) ∙ is) in
          on_store (refused reply.ClockEnd) (end_run shape past m.log m.teams m.fates m.now m.run d add e g.long g.told is)

  -- ---- one controller

  on_team : (a : Answered) (i : ℕ) (new : Team) → IsMachine shape (d ∷ past) (grown m.log a.entry) (set m.teams i new) m.fates m.now → Machine shape (d ∷ past)
  on_team a i new run = record { log = grown m.log a.entry; teams = set m.teams i new; fates = m.fates; now = m.now; run = run }

  list : (i : ℕ) (kind : Kind) → d.act ≡ does.List i kind → Machine shape (d ∷ past)
  list i kind e =
      let t = team i (within (does.List i kind) e) in
      let a = refused (reply.Listed (log_end m.log)) in
      let g = given (does.List i kind) a e (gives_list shape past m.log i kind) in
      let next = listed t.one.con.schedule kind m.log in
      let new : Team = record t.one { con = mirror m.log next } in
      on_team a i new (list_run shape past m.log m.teams m.fates m.now m.run d i t.one new t.is kind (within (does.List i kind) e) e g.told g.long refl
      (λ h. mirrors m.log next (list_places m.log t.one.con.schedule kind (places m.log t.one.con h))) refl refl)

  deliver : (i : ℕ) (kind : Kind) → d.act ≡ does.Deliver i kind → Machine shape (d ∷ past)
  deliver i kind e =
      let t = team i (within (does.Deliver i kind) e) in
      let old = m.run.each i t.one t.is in
      let a = deliver_gives m.log shape.window (number_of kind t.one.con.schedule) in
      let g = given (does.Deliver i kind) a e (gives_deliver shape past m.log i kind ∙ ap (deliver_gives m.log shape.window) (sym (old.schedule.number_is kind))) in
      let next = delivered_at m.log shape.window t.one.con.schedule kind (number_of kind t.one.con.schedule) in
      let new : Team = record t.one { con = mirror m.log next } in
      on_team (refused reply.Done) i new (deliver_run shape past m.log m.teams m.fates m.now m.run d i t.one new t.is kind (within (does.Deliver i kind) e) e g.told
      (g.long ∙ ap (λ o. length (grown m.log o)) (deliver_nothing m.log shape.window (number_of kind t.one.con.schedule))) refl
      (mirrors m.log next (deliver_places m.log shape.window t.one.con.schedule kind (places m.log t.one.con old.holds))) refl refl)

  begin : (i w : ℕ) → d.act ≡ does.Begin i w → Machine shape (d ∷ past)
  begin i w e =
      let of_shape = within (does.Begin i w) e in
      let t = team i of_shape.0 in
      let old = m.run.each i t.one t.is in
      let r = there t.one.registers w (let count = old.count in let working = of_shape.1 in omega (arith, count, working)) in
      let answer = (begun m.now t.one.con).answer in
      let g = given (does.Begin i w) (refused (begin_reply (Some r.one) answer)) e (begin_gives-at shape past m.log m.teams m.fates m.now m.run i t.one t.is w r.one r.is) in
      let new : Team = record {
        con = record { schedule = begin_held (slice_get t.one.registers w) t.one.con.schedule (begun m.now t.one.con).schedule; jobs = t.one.con.jobs; rows = t.one.con.rows };
        registers = begin_registers (slice_get t.one.registers w) t.one.registers w answer;
        faults = t.one.faults;
      } in
      on_team (refused reply.Done) i new (begin_run shape past m.log m.teams m.fates m.now m.run d i t.one new t.is w of_shape.0 of_shape.1 e (g.told ∙ ap (λ s. begin_reply s answer) (sym r.is)) g.long refl refl refl refl refl)

  step : (i w : ℕ) → d.act ≡ does.Step i w → Machine shape (d ∷ past)
  step i w e =
      let of_shape = within (does.Step i w) e in
      let t = team i of_shape.0 in
      let old = m.run.each i t.one t.is in
      let r = there t.one.registers w (let count = old.count in let working = of_shape.1 in omega (arith, count, working)) in
      let f = there t.one.faults w (let count = old.faults in let working = of_shape.1 in omega (arith, count, working)) in
      let s = stride_at m.log m.now f.one t.one.con.schedule r.one in
      let a : Answered = record { reply = s.reply; entry = s.entry } in
      let g = given (does.Step i w) a e (step_gives-at shape past m.log m.teams m.fates m.now m.run i t.one t.is w f.one f.is r.one r.is) in
      let new : Team = record { con = mirror m.log s.schedule; registers = set t.one.registers w s.register; faults = set t.one.faults w s.fault } in
      on_team a i new (step_run shape past m.log m.teams m.fates m.now m.run (grown m.log s.entry) d i t.one new t.is w of_shape.0 of_shape.1 e f.one f.is r.one r.is g.told refl g.long
      (stride-stored m.log stored m.now f.one t.one.con.schedule r.one) refl
      (mirrors_grown m.log s.entry (mirror m.log s.schedule) (mirrors m.log s.schedule (stride_places m.log m.now f.one t.one.con.schedule r.one (places m.log t.one.con old.holds)))) refl refl)

  restart : (i : ℕ) → d.act ≡ does.Restart i → Machine shape (d ∷ past)
  restart i e =
      let t = team i (within (does.Restart i) e) in
      let g = given (does.Restart i) (refused reply.Done) e (gives_restart shape past m.log i) in
      let new : Team = record { con = record { schedule = idle; jobs = []; rows = [] }; registers = freed t.one.registers; faults = map (λ f. None) t.one.faults } in
      on_team (refused reply.Done) i new (restart_run shape past m.log m.teams m.fates m.now m.run d i t.one new t.is (within (does.Restart i) e) e g.told g.long refl (holds_idle m.log new.con refl refl refl) refl refl)

  put_fault : (i w : ℕ) (fault : Fault) → d.act ≡ does.PutFault i w fault → Machine shape (d ∷ past)
  put_fault i w fault e =
      let of_shape = within (does.PutFault i w fault) e in
      let t = team i of_shape.0 in
      let g = given (does.PutFault i w fault) (refused reply.Done) e (gives_fault shape past m.log i w fault) in
      let new : Team = record t.one { faults = set t.one.faults w (Some fault) } in
      on_team (refused reply.Done) i new (fault_run shape past m.log m.teams m.fates m.now m.run d i t.one new t.is of_shape.0 w fault of_shape.1 e g.told g.long refl refl refl)

  one_more : ((spec : JobSpec) (change : SpecChange) → IsValidSpec spec → update_refusal spec change ≡ None → IsValidSpec (changed_spec spec change)) → (act : Act) → d.act ≡ act → AsksValid act → Machine shape (d ∷ past)
  one_more stay (does.Create key spec) e valid = create key spec valid e
  one_more stay (does.Update key version change) e valid = update stay key version change e
  one_more stay (does.Delete key) e valid = delete key e
  one_more stay (does.Mark pod) e valid = mark pod e
  one_more stay (does.Strip pod) e valid = strip pod e
  one_more stay (does.Finish pod exit) e valid = finish pod exit e
  one_more stay (does.Report pod change) e valid = report pod change e
  one_more stay (does.Fate key ends) e valid = say_fate key ends e
  one_more stay (does.Clock add) e valid = tick add e
  one_more stay (does.List i kind) e valid = list i kind e
  one_more stay (does.Deliver i kind) e valid = deliver i kind e
  one_more stay (does.Begin i w) e valid = begin i w e
  one_more stay (does.Step i w) e valid = step i w e
  one_more stay does.Node e valid = node e
  one_more stay (does.Restart i) e valid = restart i e
  one_more stay (does.PutFault i w fault) e valid = put_fault i w fault e
  one_more stay does.Settle e valid = settle e
  one_more stay does.Unknown e valid = unknown e

-- A legal history in which each Job is created with a valid specification.
pub legal_run : ((spec : JobSpec) (change : SpecChange) → IsValidSpec spec → update_refusal spec change ≡ None
    → IsValidSpec (changed_spec spec change)) → (shape : Shape) (deeds : List Deed) → IsLegal shape deeds
    → AllAskValid deeds → Machine shape deeds
legal_run stay shape [] legal valid = at_start shape
legal_run stay shape (d ∷ past) legal valid = one_more shape past d legal.0 (legal_run stay shape past legal.1 valid.1) stay d.act refl valid.0
