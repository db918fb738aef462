-- Requests of commands and of the node keep what is known of all syncs under way.
use Rattle.std.proofs.Common.{◌≡◌, ℕ, Bool, true, false, ◌&&◌, cond, List, ◌∷◌, length, Option, Some, None, IfSome, refl, sym, ap, ◌∙◌, subst, arith}
use Rattle.std.specs.Prelude.{find}
use Rattle.jc_types.specs.declared.actions.ContainerChange.{ContainerChange}
use Rattle.jc_types.specs.declared.actions.PhaseChange.{PhaseChange}
use Rattle.jc_types.specs.declared.actions.SpecChange.{SpecChange}
use Rattle.jc_types.specs.declared.numbers.Uid.{Uid}
use Rattle.jc_types.specs.declared.numbers.Version.{Version}
use Rattle.jc_types.specs.declared.objects.Entry.{Entry}
use Rattle.jc_types.specs.declared.objects.Entry.TheVariants.{JobPut, JobGone}
use Rattle.jc_types.specs.declared.limits.TheConstants.{GREATEST_LIMIT, GREATEST_PARALLELISM}
use Rattle.jc_types.specs.declared.objects.Job.{Job}
use Rattle.jc_types.specs.declared.objects.KeyNames.{KeyNames as Key}
use Rattle.jc_types.specs.declared.objects.Phase.TheVariants.{Pending, Running}
use Rattle.jc_types.specs.declared.objects.Pod.{Pod}
use Rattle.jc_types.specs.declared.replies.Field.TheVariants.{Completions, Parallelism, BackoffLimit, Deadline}
use Rattle.jc_types.specs.declared.replies.Reply.{Reply}
use Rattle.jc_types.specs.declared.replies.Reply.TheVariants.{AlreadyExists, BadStep, Conflict, Created, Final, Immutable, Invalid, NoContainer, NotFound, NotTracked, Released, Removed, Unchanged, Written}
use Rattle.jc_types.specs.declared.specifications.JobSpec.{JobSpec}
use Rattle.jc_log.specs.Requests.{Answered, accepted, changed_spec, create_job_at, create_job_gives, delete_job_at, delete_job_gives, gone_job, grown, is_above, is_immutable, is_other, is_unnamed, made_job, mark_pod_at, mark_pod_gives}
use Rattle.jc_log.specs.Requests.{pod_entry, refused, release_at, release_gives, released, report_phase_at, report_phase_gives, report_unless, same_course_of, update_refusal, update_spec_at, update_spec_gives, update_unless, with_mark}
use Rattle.jc_log.specs.Requests.{with_report, with_spec, without_finalizer}
use Rattle.jc_log.specs.Deeds.{Deed}
use Rattle.jc_log.specs.Log.{Live, job_in, life, next_uid, next_version, pod_in}
use Rattle.jc_states.specs.Pods.{is_final, is_marked}
use Rattle.jc_types.specs.Equality.{same_limits, same_phase}
use Rattle.jc_types.specs.ValidSpecs.{IsValidSpec}
use Rattle.jc_log.specs.Writes.{IsOwned, Stored}
use Rattle.jc_log.proofs.PodFacts.{living-live}
use Rattle.jc_log.proofs.WriteFacts.{job_in-key, life-uid}
use Rattle.jc_ledger.specs.EventKinds.{IsPlain, IsWritten}
use Rattle.jc_ledger.specs.Ledger.{is_status}
use Rattle.jc_ledger.specs.Once.{taking_of}
use Rattle.jc_ledger.specs.Syncs.{began_of, request_of}
use Rattle.jc_ledger.specs.Tied.{Tied}
use Rattle.jc_ledger.proofs.JobLaws.{tied_created, tied_deleted, tied_pod, tied_updated}
use Rattle.jc_asks.specs.Readings.{told_step}
use Rattle.jc_sync.specs.AllRegisters.{HasSyncs, Registers, flights_of_all}
use Rattle.jc_sync.proofs.EntryFacts.{not_never, owned-live, pod_entry-pod, quiet-by}
use Rattle.jc_sync.proofs.RegisterFacts.{other_syncs, quiet_syncs}

-- The reply tells of no sync.
pub record IsStoreReply (r : Reply) : Type 0 where
  pub asked : request_of r ≡ None
  pub began : began_of r ≡ None
  pub untold : told_step r ≡ None

module _ (d : Deed) (past : List Deed) (log : List Entry) (rs : Registers) (h : HasSyncs past log rs) where
  -- All is known after the request.
  abbrev pub Keeps : Answered → Type 0
  Keeps a = d.reply ≡ a.reply → d.length.0 ≡ length (grown log a.entry) → Stored (grown log a.entry) → HasSyncs (d ∷ past) (grown log a.entry) rs

  keeps_refused : (r : Reply) → IsStoreReply r → Keeps (refused r)
  keeps_refused r store reply still kept =
      quiet_syncs d past log rs h (quiet-by d log (ap began_of reply ∙ store.began) still) (ap began_of reply ∙ store.began) (ap told_step reply ∙ store.untold)

  plain : (r : Reply) → IsStoreReply r → d.reply ≡ r → IsPlain d
  plain r store reply = record { status = ap is_status (ap request_of reply ∙ store.asked); taking = ap taking_of (ap request_of reply ∙ store.asked) }

  written : (r : Reply) (e : Entry) → IsStoreReply r → d.reply ≡ r → d.length.0 ≡ length (e ∷ log) → Stored (e ∷ log) → IsOwned log e → IsWritten d log e
  written r e store reply grew kept owned = record { grown = omega (arith, grew); began = ap began_of reply ∙ store.began; allowed = record { writes = kept.0; owned = owned } }

  keeps_by : (r : Reply) (e : Entry) → IsStoreReply r → (d.reply ≡ r → d.length.0 ≡ length (e ∷ log) → Stored (e ∷ log) → Tied (d ∷ past) (e ∷ log) (flights_of_all rs)) → Keeps (accepted r e)
  keeps_by r e store ties reply grew kept =
      other_syncs d past log e rs h (ties reply grew kept) (ap began_of reply ∙ store.began) (ap told_step reply ∙ store.untold)

  -- A pod that is there is written.
  keeps_pod : (r : Reply) (u : Uid) (old new : Pod) → IsStoreReply r → pod_in u log ≡ Some old → new.uid ≡ old.uid → Keeps (accepted r (pod_entry new))
  keeps_pod r u old new store there same =
      keeps_by r (pod_entry new) store
      (λ reply grew kept. tied_pod d past log (flights_of_all rs) (pod_entry new) new h.tied (record {
        written = written r (pod_entry new) store reply grew kept (owned-live log (pod_entry new) new old (pod_entry-pod new) live);
        plain = plain r store reply;
        is_pod = pod_entry-pod new;
        numbered = λ never. absurd (not_never never live);
      }))
    where
      at_u : life u log ≡ Live old
      at_u = living-live (life u log) old there

      live : life new.uid log ≡ Live old
      live = ap (λ v. life v log) (same ∙ life-uid u log old at_u) ∙ at_u

  -- ---- Jobs

  pub create_keeps : (key : Key) (spec : JobSpec) (now : ℕ) → IsValidSpec spec → Keeps (create_job_gives log key spec now)
  create_keeps key spec now valid = by (job_in key log) refl
    where
      by : (o : Option Job) → job_in key log ≡ o → Keeps (create_job_at log key spec now o)
      by None is =
          keeps_by (Created (next_uid log) (next_version log)) (JobPut (made_job log key spec now)) (record { asked = refl; began = refl; untold = refl })
          (λ reply grew kept. tied_created d past log (flights_of_all rs) (made_job log key spec now) h.tied (record {
            written = written (Created (next_uid log) (next_version log)) (JobPut (made_job log key spec now)) (record { asked = refl; began = refl; untold = refl }) reply grew kept tt;
            plain = plain (Created (next_uid log) (next_version log)) (record { asked = refl; began = refl; untold = refl }) reply;
            absent = is;
            empty = record { succeeded = refl; failed = refl; uncounted_succeeded = refl; uncounted_failed = refl; completed = refl; index_failures = refl; failed_indexes = refl };
            waits = λ some. (valid.failure some).1;
            limited = λ some. (valid.by_index some).0;
          }))
      by (Some job) is = keeps_refused AlreadyExists (record { asked = refl; began = refl; untold = refl })

  pub update_keeps : (key : Key) (version : Option Version) (change : SpecChange) → Keeps (update_spec_gives log key version change)
  update_keeps key version change = by (job_in key log) refl
    where
      changed : (job : Job) → job_in key log ≡ Some job → (b : Bool) → Keeps (cond b (refused (Unchanged job.version)) (accepted (Written (next_version log)) (JobPut (with_spec log job (changed_spec job.spec change)))))
      changed job is true = keeps_refused (Unchanged job.version) (record { asked = refl; began = refl; untold = refl })
      changed job is false =
          let new = with_spec log job (changed_spec job.spec change) in
          keeps_by (Written (next_version log)) (JobPut new) (record { asked = refl; began = refl; untold = refl })
          (λ reply grew kept. tied_updated d past log (flights_of_all rs) job new h.tied (record {
            written = written (Written (next_version log)) (JobPut new) (record { asked = refl; began = refl; untold = refl }) reply grew kept tt;
            plain = plain (Written (next_version log)) (record { asked = refl; began = refl; untold = refl }) reply;
            there = ap (λ k. job_in k log) (job_in-key key log job is) ∙ is;
            status = refl;
          }))

      refusals : (a b c e : Bool) → (o : Option Reply) → o ≡ cond a (Some (Immutable Completions)) (cond b (Some (Invalid Parallelism)) (cond c (Some (Invalid BackoffLimit)) (cond e (Some (Invalid Deadline)) None))) → IfSome o IsStoreReply
      refusals a b c e o is = subst (λ p. IfSome p IsStoreReply) (sym is) (all a b c e)
        where
          all : (a b c e : Bool) → IfSome (cond a (Some (Immutable Completions)) (cond b (Some (Invalid Parallelism)) (cond c (Some (Invalid BackoffLimit)) (cond e (Some (Invalid Deadline)) None)))) IsStoreReply
          all true b c e = record { asked = refl; began = refl; untold = refl }
          all false true c e = record { asked = refl; began = refl; untold = refl }
          all false false true e = record { asked = refl; began = refl; untold = refl }
          all false false false true = record { asked = refl; began = refl; untold = refl }
          all false false false false = tt

      unless : (job : Job) → job_in key log ≡ Some job → (o : Option Reply) → IfSome o IsStoreReply → Keeps (update_unless log job change o)
      unless job is None store = changed job is (same_limits job.spec (changed_spec job.spec change))
      unless job is (Some reply) store = keeps_refused reply store

      other : (job : Job) → job_in key log ≡ Some job → (b : Bool) → Keeps (cond b (refused (Conflict job.version)) (update_unless log job change (update_refusal job.spec change)))
      other job is true = keeps_refused (Conflict job.version) (record { asked = refl; began = refl; untold = refl })
      other job is false =
          unless job is (update_refusal job.spec change)
          (refusals (is_immutable job.spec change) (is_above GREATEST_PARALLELISM change.parallelism) (is_above GREATEST_LIMIT change.backoff_limit) (is_above GREATEST_LIMIT change.deadline) (update_refusal job.spec change) refl)

      by : (o : Option Job) → job_in key log ≡ o → Keeps (update_spec_at log version change o)
      by None is = keeps_refused NotFound (record { asked = refl; began = refl; untold = refl })
      by (Some job) is = other job is (is_other version job.version)

  pub delete_keeps : (key : Key) → Keeps (delete_job_gives log key)
  delete_keeps key = by (job_in key log)
    where
      by : (o : Option Job) → Keeps (delete_job_at log o)
      by None = keeps_refused NotFound (record { asked = refl; began = refl; untold = refl })
      by (Some job) =
          keeps_by (Removed (next_version log)) (JobGone (gone_job log job)) (record { asked = refl; began = refl; untold = refl })
          (λ reply grew kept. tied_deleted d past log (flights_of_all rs) (gone_job log job) h.tied (record {
            written = written (Removed (next_version log)) (JobGone (gone_job log job)) (record { asked = refl; began = refl; untold = refl }) reply grew kept tt;
            plain = plain (Removed (next_version log)) (record { asked = refl; began = refl; untold = refl }) reply;
          }))

  -- ---- pods

  pub mark_keeps : (u : Uid) (now : ℕ) → Keeps (mark_pod_gives log u now)
  mark_keeps u now = by (pod_in u log) refl
    where
      marked : (old : Pod) → pod_in u log ≡ Some old → (b : Bool) → Keeps (cond b (refused (Unchanged old.version)) (accepted (Written (next_version log)) (pod_entry (with_mark log old now))))
      marked old is true = keeps_refused (Unchanged old.version) (record { asked = refl; began = refl; untold = refl })
      marked old is false = keeps_pod (Written (next_version log)) u old (with_mark log old now) (record { asked = refl; began = refl; untold = refl }) is refl

      by : (o : Option Pod) → pod_in u log ≡ o → Keeps (mark_pod_at log now o)
      by None is = keeps_refused NotFound (record { asked = refl; began = refl; untold = refl })
      by (Some old) is = marked old is (is_marked old)

  pub strip_keeps : (u : Uid) → Keeps (release_gives log u)
  strip_keeps u = by (pod_in u log) refl
    where
      taken : (old : Pod) → pod_in u log ≡ Some old → (b : Bool) → Keeps (cond b (released log old) (refused NotTracked))
      taken old is true = keeps_pod (Released (next_version log)) u old (without_finalizer log old) (record { asked = refl; began = refl; untold = refl }) is refl
      taken old is false = keeps_refused NotTracked (record { asked = refl; began = refl; untold = refl })

      by : (o : Option Pod) → pod_in u log ≡ o → Keeps (release_at log o)
      by None is = keeps_refused NotTracked (record { asked = refl; began = refl; untold = refl })
      by (Some old) is = taken old is old.tracked

  pub report_keeps : (u : Uid) (change : PhaseChange) → Keeps (report_phase_gives log u change)
  report_keeps u change = by (pod_in u log) refl
    where
      course : (old : Pod) → pod_in u log ≡ Some old → (b : Bool) → Keeps (cond b (refused (Unchanged old.version)) (accepted (Written (next_version log)) (pod_entry (with_report log old change))))
      course old is true = keeps_refused (Unchanged old.version) (record { asked = refl; began = refl; untold = refl })
      course old is false = keeps_pod (Written (next_version log)) u old (with_report log old change) (record { asked = refl; began = refl; untold = refl }) is refl

      unless : (old : Pod) → pod_in u log ≡ Some old → (o : Option ContainerChange) → Keeps (report_unless log old change o)
      unless old is None = course old is (same_course_of old (with_report log old change))
      unless old is (Some unnamed) = keeps_refused (NoContainer unnamed.name) (record { asked = refl; began = refl; untold = refl })

      tests : (old : Pod) → pod_in u log ≡ Some old → (a b : Bool) → Keeps (cond a (refused (Final old.phase)) (cond b (refused (BadStep Running Pending)) (report_unless log old change (find (is_unnamed old) change.containers))))
      tests old is true b = keeps_refused (Final old.phase) (record { asked = refl; began = refl; untold = refl })
      tests old is false true = keeps_refused (BadStep Running Pending) (record { asked = refl; began = refl; untold = refl })
      tests old is false false = unless old is (find (is_unnamed old) change.containers)

      by : (o : Option Pod) → pod_in u log ≡ o → Keeps (report_phase_at log change o)
      by None is = keeps_refused NotFound (record { asked = refl; began = refl; untold = refl })
      by (Some old) is = tests old is (is_final old.phase) (same_phase old.phase Running && same_phase change.phase Pending)
