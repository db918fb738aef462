-- The node's step: the store alone. The node tells of each report that it made, so that its reply is not the store's.
use Rattle.std.proofs.Common.{◌≡◌, ℕ, Bool, true, false, cond, ◌&&◌, List, ◌∷◌, length, find, Option, Some, None, refl, sym, ap, ◌∙◌, subst, arith}
use Rattle.jc_log.specs.Acts as does
use Rattle.jc_types.specs.declared.actions.ContainerChange.{ContainerChange}
use Rattle.jc_types.specs.declared.actions.PhaseChange.{PhaseChange}
use Rattle.jc_types.specs.declared.numbers.Uid.{Uid}
use Rattle.jc_types.specs.declared.objects.Entry.{Entry}
use Rattle.jc_types.specs.declared.objects.Phase.TheVariants.{Pending, Running}
use Rattle.jc_types.specs.declared.objects.Pod.{Pod}
use Rattle.jc_types.specs.declared.replies.Reply.TheVariants.{BadStep, Final, Unchanged, Written}
use Rattle.jc_types.specs.declared.runs.Shape.{Shape}
use Rattle.jc_types.specs.Equality.{same_phase}
use Rattle.jc_states.specs.Pods.{is_final}
use Rattle.jc_log.specs.Log.{Live, life, next_version, pod_in}
use Rattle.jc_log.specs.Requests.{Answered, accepted, grown, is_unnamed, pod_entry, refused, report_phase_at, report_phase_gives, report_unless, same_course_of, with_report}
use Rattle.jc_log.specs.Deeds.{Deed}
use Rattle.jc_log.specs.Writes.{Stored}
use Rattle.jc_log.proofs.PodFacts.{living-live}
use Rattle.jc_log.proofs.WriteFacts.{life-uid}
use Rattle.jc_ledger.specs.Ledger.{is_status}
use Rattle.jc_ledger.specs.Once.{taking_of}
use Rattle.jc_ledger.specs.Syncs.{began_of, request_of}
use Rattle.jc_ledger.specs.Tied.{Tied}
use Rattle.jc_ledger.proofs.JobLaws.{tied_pod}
use Rattle.jc_asks.specs.Readings.{told_step}
use Rattle.jc_history.specs.Available.{is_quiescent}
use Rattle.jc_history.specs.Legal.{IsOfShape, MaySettle}
use Rattle.jc_history.specs.Nodes.{NodeAct, change_by, fate, node_step}
use Rattle.jc_history.specs.Replies.{gives, log_given, node_done, node_gives}
use Rattle.jc_sync.specs.Plannable.{AppendsFit}
use Rattle.jc_sync.specs.AllRegisters.{HasSyncs, IsAnswered, Registers, flights_of_all}
use Rattle.jc_sync.proofs.CommandFacts.{IsStoreReply}
use Rattle.jc_sync.proofs.EntryFacts.{not_never, owned-live, pod_entry-pod, quiet-by}
use Rattle.jc_sync.proofs.FitFacts.{report_fits}
use Rattle.jc_sync.proofs.RegisterFacts.{other_syncs, quiet_syncs}
use Rattle.jc_runs.specs.Fates.{Fates}
use Rattle.jc_runs.specs.Machines.{IsMachine}
use Rattle.jc_runs.specs.Teams.{Team, registers_of}
use Rattle.jc_runs.proofs.NoteFacts.{IsStoreAct}
use Rattle.jc_runs.proofs.StoreFacts.{store_event}

-- ---- what a report appends

-- Nothing is appended, or a pod that is there is written.
pub data PodWrite (log : List Entry) (a : Answered) : Type 0 where
  WritesNothing : a.entry ≡ None → PodWrite log a
  WritesPod : (u : Uid) (old new : Pod) → a.entry ≡ Some (pod_entry new) → pod_in u log ≡ Some old → new.uid ≡ old.uid → PodWrite log a

report_writes : (log : List Entry) (u : Uid) (change : PhaseChange) → PodWrite log (report_phase_gives log u change)
report_writes log u change = by (pod_in u log) refl
  where
    course : (old : Pod) → pod_in u log ≡ Some old → (b : Bool) → PodWrite log (cond b (refused (Unchanged old.version)) (accepted (Written (next_version log)) (pod_entry (with_report log old change))))
    course old is true = WritesNothing refl
    course old is false = WritesPod u old (with_report log old change) refl is refl

    unless : (old : Pod) → pod_in u log ≡ Some old → (o : Option ContainerChange) → PodWrite log (report_unless log old change o)
    unless old is None = course old is (same_course_of old (with_report log old change))
    unless old is (Some unnamed) = WritesNothing refl

    tests : (old : Pod) → pod_in u log ≡ Some old → (a b : Bool) → PodWrite log (cond a (refused (Final old.phase)) (cond b (refused (BadStep Running Pending)) (report_unless log old change (find (is_unnamed old) change.containers))))
    tests old is true b = WritesNothing refl
    tests old is false true = WritesNothing refl
    tests old is false false = unless old is (find (is_unnamed old) change.containers)

    by : (o : Option Pod) → pod_in u log ≡ o → PodWrite log (report_phase_at log change o)
    by None is = WritesNothing refl
    by (Some old) is = tests old is (is_final old.phase) (same_phase old.phase Running && same_phase change.phase Pending)

-- Such an answer keeps what is known of all syncs under way, by whatever reply it is told.
module _ (d : Deed) (past : List Deed) (log : List Entry) (rs : Registers) (h : HasSyncs past log rs) (a : Answered) (store : IsStoreReply a.reply) (told : d.reply ≡ a.reply) where
  asked : request_of d.reply ≡ None
  asked = ap request_of told ∙ store.asked

  began : began_of d.reply ≡ None
  began = ap began_of told ∙ store.began

  untold : told_step d.reply ≡ None
  untold = ap told_step told ∙ store.untold

  pod_ties : (u : Uid) (old new : Pod) → pod_in u log ≡ Some old → new.uid ≡ old.uid → d.length.0 ≡ length (pod_entry new ∷ log) → Stored (pod_entry new ∷ log) → Tied (d ∷ past) (pod_entry new ∷ log) (flights_of_all rs)
  pod_ties u old new there same grew kept =
      tied_pod d past log (flights_of_all rs) (pod_entry new) new h.tied (record {
        written = record { grown = omega (arith, grew); began = began; allowed = record { writes = kept.0; owned = owned-live log (pod_entry new) new old (pod_entry-pod new) live } };
        plain = record { status = ap is_status asked; taking = ap taking_of asked };
        is_pod = pod_entry-pod new;
        numbered = λ never. absurd (not_never never live);
      })
    where
      at_u : life u log ≡ Live old
      at_u = living-live (life u log) old there

      live : life new.uid log ≡ Live old
      live = ap (λ v. life v log) (same ∙ life-uid u log old at_u) ∙ at_u

  write_keeps : PodWrite log a → d.length.0 ≡ length (grown log a.entry) → Stored (grown log a.entry) → HasSyncs (d ∷ past) (grown log a.entry) rs
  write_keeps (WritesNothing e) long stored =
      subst (λ o. HasSyncs (d ∷ past) (grown log o) rs) (sym e)
      (quiet_syncs d past log rs h (quiet-by d log began (long ∙ ap (λ o. length (grown log o)) e)) began untold)
  write_keeps (WritesPod u old new e there same) long stored =
      subst (λ o. HasSyncs (d ∷ past) (grown log o) rs) (sym e)
      (other_syncs d past log (pod_entry new) rs h (pod_ties u old new there same (long ∙ ap (λ o. length (grown log o)) e) (subst (λ o. Stored (grown log o)) e stored)) began untold)

-- ---- what the node does next

node_writes : (log : List Entry) (o : Option (Pod × NodeAct)) → PodWrite log (node_gives log o)
node_writes log None = WritesNothing refl
node_writes log (Some step) = by (report_phase_gives log step.0.uid (change_by step.0 step.1)) (report_writes log step.0.uid (change_by step.0 step.1))
  where
    by : (a : Answered) → PodWrite log a → PodWrite log (node_done step.0 step.1 a)
    by a (WritesNothing e) = WritesNothing e
    by a (WritesPod u old new e there same) = WritesPod u old new e there same

node_tells : (log : List Entry) (o : Option (Pod × NodeAct)) → IsStoreReply (node_gives log o).reply
node_tells log None = record { asked = refl; began = refl; untold = refl }
node_tells log (Some step) = record { asked = refl; began = refl; untold = refl }

node_keeps : (d : Deed) (past : List Deed) (log : List Entry) (rs : Registers) → HasSyncs past log rs → (o : Option (Pod × NodeAct)) → IsAnswered d past log rs (node_gives log o)
node_keeps d past log rs h o told long stored = write_keeps d past log rs h (node_gives log o) (node_tells log o) told (node_writes log o) long stored

module _ (shape : Shape) (past : List Deed) (log : List Entry) (teams : List Team) (fates : Fates) (now : ℕ) (run : IsMachine shape past log teams fates now) (next : List Entry) (d : Deed) where
  node_fits : (o : Option (Pod × NodeAct)) → AppendsFit (node_gives log o)
  node_fits None = tt
  node_fits (Some step) = report_fits log run.syncs.tied.legal run.plannable step.0.uid (change_by step.0 step.1)

  same_fates : fates ≡ fate past
  same_fates = λ i. λ k. run.fated k i

  pub node_is : gives shape past log does.Node ≡ node_gives log (node_step log fates)
  unfolding gives
  node_is = sym (ap (λ fates. node_gives log (node_step log fates)) same_fates)

  -- The node takes its next step.
  pub node_run : d.act ≡ does.Node → d.reply ≡ (node_gives log (node_step log fates)).reply → next ≡ grown log (node_gives log (node_step log fates)).entry → d.length.0 ≡ length next → Stored next → IsMachine shape (d ∷ past) next teams fates now
  node_run act told grew long stored =
      store_event shape past log teams fates now run next d (node_gives log (node_step log fates)) (subst IsStoreAct (sym act) tt) (subst (IsOfShape shape) (sym act) tt)
      (subst (λ act. MaySettle act (is_quiescent shape past (log_given shape past))) (sym act) tt)
      (ap (gives shape past log) act ∙ node_is) told grew long stored (node_keeps d past log (registers_of teams) run.syncs (node_step log fates)) (node_fits (node_step log fates))
