-- What each request of a sync appends.
use Rattle.std.proofs.Common.{◌≡◌, ℕ, ◌==◌, Bool, true, false, not, cond, ◌&&◌, List, Option, Some, None, refl, sym, ap, ◌∙◌, subst}
use Rattle.std.proofs.Math.Bool.{and-false}
use Rattle.std.proofs.lemmas.Bool.{and_parts, not-true}
use Rattle.std.proofs.lemmas.Option.{none-some as none_some, same_Some as some_is}
use Rattle.jc_types.specs.Keys.{same_uid}
use Rattle.jc_types.specs.Equality.{same_status}
use Rattle.jc_types.specs.declared.numbers.Uid.{Uid}
use Rattle.jc_types.specs.declared.numbers.Version.{Version}
use Rattle.jc_types.specs.declared.objects.Entry.{Entry}
use Rattle.jc_types.specs.declared.objects.Entry.TheVariants.{JobPut, PodPut, PodGone}
use Rattle.jc_types.specs.declared.objects.Job.{Job}
use Rattle.jc_types.specs.declared.objects.Pod.{Pod}
use Rattle.jc_types.specs.declared.replies.Reply.{Reply}
use Rattle.jc_types.specs.declared.replies.Reply.TheVariants as reply
use Rattle.jc_types.specs.declared.statuses.JobStatus.{JobStatus}
use Rattle.jc_states.specs.declared.bases.Basis.{Basis}
use Rattle.jc_states.specs.Pods.{goes, is_active, is_final, is_marked, is_open, is_tracked}
use Rattle.jc_log.specs.Log.{Live, job_in, life, living, made_for, next_uid, next_version}
use Rattle.jc_log.specs.Requests.{Answered, accepted, let_go_at, made_pod, mark_pod_at, pod_entry, refused, release_at, released, with_mark, with_status, without_finalizer, write_status_at}
use Rattle.jc_plan.specs.Plans.{planned}
use Rattle.jc_sync.specs.Ask.{Ask}
use Rattle.jc_sync.specs.Ask.TheVariants.{MakePod, MarkPod, LetPodGo, WriteFirst, ReleasePod, WriteSecond}
use Rattle.jc_sync.specs.Asks.{writes_status}
use Rattle.jc_sync.specs.Flight.{Flight}
use Rattle.jc_sync.specs.Steps.{answered_to, make_gives, status_gives, written_gives}
use Rattle.jc_log.proofs.WriteFacts.{life-uid}
use Rattle.jc_granted.specs.Ready.{IsActiveAt, IsReady, IsThere, pod_asked}
use Rattle.jc_making.specs.Grants.{IsNew, LooksNew}
use Rattle.jc_bearing.proofs.TrackFacts.{IsChangeOf}

-- The pod that is made.
pub record IsBorn (log : List Entry) (job : Job) (index : Option ℕ) (pod : Pod) : Type 0 where
  pub uid : pod.uid ≡ next_uid log
  pub owner : pod.owner ≡ job.key
  pub owner_uid : pod.owner_uid ≡ job.uid
  pub new : IsNew (made_for job.uid log) index pod
  pub restart : pod.restart ≡ job.spec.template.restart
  pub looks : LooksNew job.spec.template pod

-- The entry of the request: a new pod, one that is written again or is gone, or a status.
pub data Writes (log : List Entry) (basis : Basis) : Ask → Entry → Type 0 where
  Makes : (job : Job) (index : Option ℕ) (pod : Pod) → basis.job ≡ Some job → IsBorn log job index pod → Writes log basis (MakePod index) (PodPut pod)
  Puts : (ask : Ask) (u : Uid) (was new : Pod) → pod_asked ask ≡ Some u → life u log ≡ Live was → was.uid ≡ u → IsChangeOf was new → Writes log basis ask (PodPut new)
  Takes : (u : Uid) (was new : Pod) → life u log ≡ Live was → was.uid ≡ u → IsChangeOf was new → Writes log basis (ReleasePod u) (PodGone new)
  States : (ask : Ask) (current : Job) (status : JobStatus) → writes_status ask ≡ true → job_in basis.key log ≡ Some current → Writes log basis ask (JobPut (with_status log current status))

module _ (log : List Entry) (now : ℕ) (flight : Flight) where
  abbrev W : Ask → Entry → Type 0
  W ask e = Writes log flight.basis ask e

  -- A pod that stays is put.
  put-stays : (pod : Pod) (b : Bool) (e : Entry) → goes pod ≡ b → b ≡ false → Some (pod_entry pod) ≡ Some e → PodPut pod ≡ e
  put-stays pod b e is stays h = sym (ap (λ t. cond t (PodGone pod) (PodPut pod)) (is ∙ stays)) ∙ some_is (pod_entry pod) e h

  makes : (index : Option ℕ) (e : Entry) → (answered_to log now flight (MakePod index)).entry ≡ Some e → W (MakePod index) e
  makes index e h = by flight.basis.job refl h
    where
      by : (o : Option Job) → flight.basis.job ≡ o → (make_gives log index now o).entry ≡ Some e → W (MakePod index) e
      by None is g = absurd (none_some e g)
      by (Some job) is g =
          subst (W (MakePod index)) (some_is (PodPut (made_pod log job index now)) e g)
          (Makes job index (made_pod log job index now) is (record { uid = refl; owner = refl; owner_uid = refl; new = record { serial_is = refl; index_is = refl; active = refl }; restart = refl; looks = refl }))

  -- What is not refused is what is accepted.
  not-refused : (b : Bool) (r : Reply) (a : Answered) (e : Entry) → (cond b (refused r) a).entry ≡ Some e → a.entry ≡ Some e
  not-refused true r a e h = absurd (none_some e h)
  not-refused false r a e h = h

  is-accepted : (b : Bool) (r : Reply) (a : Answered) (e : Entry) → (cond b a (refused r)).entry ≡ Some e → a.entry ≡ Some e
  is-accepted true r a e h = h
  is-accepted false r a e h = absurd (none_some e h)

  unmarked : (pod : Pod) → is_active pod ≡ true → is_marked pod ≡ false
  unmarked pod active = not-true (is_marked pod) (and_parts (is_open pod) (not (is_marked pod)) active).1

  marks : (u : Uid) (e : Entry) → IsThere (λ pod. is_active pod ≡ true) u log → (answered_to log now flight (MarkPod u)).entry ≡ Some e → W (MarkPod u) e
  marks u e found h =
      subst (W (MarkPod u))
      (put-stays (with_mark log found.pod now) (goes (with_mark log found.pod now)) e refl stays
      (not-refused (is_marked found.pod) (reply.Unchanged found.pod.version) (accepted (reply.Written (next_version log)) (pod_entry (with_mark log found.pod now))) e
      (ap (λ l. (mark_pod_at log now (living l)).entry) (sym found.there) ∙ h)))
      (Puts (MarkPod u) u found.pod (with_mark log found.pod now) refl found.there (life-uid u log found.pod found.there)
      (record { rewritten = record { rest = refl; untracked = λ t. t; marked = λ t. refl }; uid = refl; phase = refl; owner = refl; owner_uid = refl }))
    where
      stays : goes (with_mark log found.pod now) ≡ false
      stays = ap (λ b. not found.pod.tracked && b) (not-true (is_final found.pod.phase) (and_parts (is_open found.pod) (not (is_marked found.pod)) found.has).0) ∙ and-false (not found.pod.tracked)

  let-goes : (u : Uid) (version : Version) (e : Entry) → IsThere (IsActiveAt version) u log → (answered_to log now flight (LetPodGo u version)).entry ≡ Some e → W (LetPodGo u version) e
  let-goes u version e found h =
      subst (W (LetPodGo u version))
      (put-stays (without_finalizer log found.pod) (goes (without_finalizer log found.pod)) e refl stays
      (is-accepted found.pod.tracked reply.NotTracked (released log found.pod) e
      (not-refused (not (found.pod.version.0 == version.0)) (reply.Conflict found.pod.version) (cond found.pod.tracked (released log found.pod) (refused reply.NotTracked)) e
      (ap (λ l. (let_go_at log version (living l)).entry) (sym found.there) ∙ h))))
      (Puts (LetPodGo u version) u found.pod (without_finalizer log found.pod) refl found.there (life-uid u log found.pod found.there)
      (record { rewritten = record { rest = refl; untracked = λ t. refl; marked = λ t. t }; uid = refl; phase = refl; owner = refl; owner_uid = refl }))
    where
      stays : goes (without_finalizer log found.pod) ≡ false
      stays = ap (λ b. b && is_final found.pod.phase) (unmarked found.pod (and_parts (is_active found.pod) (is_tracked found.pod) found.has.active).0)

  releases : (u : Uid) (e : Entry) → IsThere (λ pod. pod.tracked ≡ true) u log → (answered_to log now flight (ReleasePod u)).entry ≡ Some e → W (ReleasePod u) e
  releases u e found h =
      by (goes (without_finalizer log found.pod))
      (is-accepted found.pod.tracked reply.NotTracked (released log found.pod) e
      (ap (λ l. (release_at log (living l)).entry) (sym found.there) ∙ h))
    where
      change : IsChangeOf found.pod (without_finalizer log found.pod)
      change = record { rewritten = record { rest = refl; untracked = λ t. refl; marked = λ t. t }; uid = refl; phase = refl; owner = refl; owner_uid = refl }

      by : (b : Bool) → Some (cond b (PodGone (without_finalizer log found.pod)) (PodPut (without_finalizer log found.pod))) ≡ Some e → W (ReleasePod u) e
      by true g =
          subst (W (ReleasePod u)) (some_is (PodGone (without_finalizer log found.pod)) e g)
          (Takes u found.pod (without_finalizer log found.pod) found.there (life-uid u log found.pod found.there) change)
      by false g =
          subst (W (ReleasePod u)) (some_is (PodPut (without_finalizer log found.pod)) e g)
          (Puts (ReleasePod u) u found.pod (without_finalizer log found.pod) refl found.there (life-uid u log found.pod found.there) change)

  -- A status that is written.
  states : (ask : Ask) (o : Option JobStatus) (e : Entry) → writes_status ask ≡ true → (written_gives log flight o).entry ≡ Some e → W ask e
  states ask None e is h = absurd (none_some e h)
  states ask (Some status) e is h = seen flight.basis.job h
    where
      at : (job : Job) (o : Option Job) → job_in flight.basis.key log ≡ o → (write_status_at log job.uid flight.sends status o).entry ≡ Some e → W ask e
      at job None there g = absurd (none_some e g)
      at job (Some current) there g =
          subst (W ask)
          (some_is (JobPut (with_status log current status)) e
          (not-refused (same_status current.status status) (reply.Unchanged current.version) (accepted (reply.Written (next_version log)) (JobPut (with_status log current status))) e
          (not-refused (not (current.version.0 == flight.sends.0)) (reply.Conflict current.version)
          (cond (same_status current.status status) (refused (reply.Unchanged current.version))
          (accepted (reply.Written (next_version log)) (JobPut (with_status log current status)))) e
          (not-refused (not (same_uid current.uid job.uid)) reply.NotFound
          (cond (not (current.version.0 == flight.sends.0)) (refused (reply.Conflict current.version))
          (cond (same_status current.status status) (refused (reply.Unchanged current.version))
          (accepted (reply.Written (next_version log)) (JobPut (with_status log current status))))) e g))))
          (States ask current status is there)

      seen : (o : Option Job) → (status_gives log flight status o).entry ≡ Some e → W ask e
      seen None g = absurd (none_some e g)
      seen (Some job) g = at job (job_in flight.basis.key log) refl g

  pub writes-what : (ask : Ask) (e : Entry) → IsReady log flight.basis flight.sends ask → (answered_to log now flight ask).entry ≡ Some e → W ask e
  writes-what (MakePod index) e ready h = makes index e h
  writes-what (MarkPod u) e ready h = marks u e ready h
  writes-what (LetPodGo u version) e ready h = let-goes u version e ready h
  writes-what WriteFirst e ready h = states WriteFirst (planned flight.basis).first e refl h
  writes-what (ReleasePod u) e ready h = releases u e ready h
  writes-what WriteSecond e ready h = states WriteSecond (planned flight.basis).second e refl h
