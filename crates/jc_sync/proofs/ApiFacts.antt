-- What the store answers to the requests of a sync, by cases.
use Rattle.std.proofs.Common.{◌≡◌, ◌≢◌, ◌⊎◌, inl, inr, ℕ, ◌==◌, Bool, true, false, not, cond, List, Option, Some, None, is_some, refl, sym, ap, ◌∙◌, eq-eqb, true≢false, eqb-true}
use Rattle.std.specs.Option.{unwrap_or}
use Rattle.jc_types.specs.declared.numbers.Uid.{Uid}
use Rattle.jc_types.specs.declared.numbers.Version.{Version}
use Rattle.jc_types.specs.declared.objects.Entry.{Entry}
use Rattle.jc_types.specs.declared.objects.Entry.TheVariants.{JobPut}
use Rattle.jc_types.specs.declared.objects.Job.{Job}
use Rattle.jc_types.specs.declared.objects.Pod.{Pod}
use Rattle.jc_types.specs.declared.replies.Reply.{Reply}
use Rattle.jc_types.specs.declared.replies.Reply.TheVariants.{Written, Unchanged, Conflict, NotFound, NotTracked}
use Rattle.jc_types.specs.declared.statuses.JobStatus.{JobStatus}
use Rattle.jc_log.specs.Requests.{Answered, accepted, refused, released, release_at, release_gives, let_go_at, let_go_gives, mark_pod_at, mark_pod_gives, with_mark, pod_entry, write_status_at, write_status_gives, with_status}
use Rattle.jc_types.specs.declared.objects.KeyNames.{KeyNames as Key}
use Rattle.jc_types.specs.Keys.{same_uid}
use Rattle.jc_log.specs.Log.{Life, Never, Live, Gone, life, living, is_lost, job_in, next_version}
use Rattle.jc_states.specs.Pods.{is_marked}
use Rattle.jc_types.specs.Equality.{same_status}
use Rattle.jc_types.proofs.KeyFacts.{same_uid-eq, same_uid-itself}

-- A release takes the finalizer of a pod that has it, or finds none.
pub data ReleaseCases (log : List Entry) (u : Uid) (given : Answered) : Type 0 where
  Took : (old : Pod) → life u log ≡ Live old → given ≡ released log old → ReleaseCases log u given
  NotThere : ((life u log ≡ Never → ⊥) → is_lost (life u log) ≡ true) → given ≡ refused NotTracked → ReleaseCases log u given

pub release_cases : (log : List Entry) (u : Uid) → ReleaseCases log u (release_gives log u)
release_cases log u = by (life u log) refl
  where
    by_tracked : (old : Pod) → life u log ≡ Live old → (b : Bool) → old.tracked ≡ b → ReleaseCases log u (cond b (released log old) (refused NotTracked))
    by_tracked old there true t = Took old there refl
    by_tracked old there false t = NotThere (λ known. ap is_lost there ∙ ap not t) refl

    by : (l : Life) → life u log ≡ l → ReleaseCases log u (release_at log (living l))
    by Never is = NotThere (λ known. absurd (known is)) refl
    by (Live old) is = by_tracked old is old.tracked refl
    by Gone is = NotThere (λ known. ap is_lost is) refl

-- A let-go takes the finalizer of a pod that has it at this version, or is refused.
pub data LetGoCases (log : List Entry) (u : Uid) (v : Version) (given : Answered) : Type 0 where
  LetGone : (old : Pod) → life u log ≡ Live old → old.version ≡ v → given ≡ released log old → LetGoCases log u v given
  Other : (old : Pod) → life u log ≡ Live old → old.version.0 ≢ v.0 → given ≡ refused (Conflict old.version) → LetGoCases log u v given
  Refused : (r : Reply) → given ≡ refused r → (r ≡ NotFound) ⊎ (r ≡ NotTracked) → LetGoCases log u v given

pub let_go_cases : (log : List Entry) (u : Uid) (v : Version) → LetGoCases log u v (let_go_gives log u v)
let_go_cases log u v = by (life u log) refl
  where
    by_tracked : (old : Pod) → life u log ≡ Live old → old.version ≡ v → (b : Bool) → LetGoCases log u v (cond b (released log old) (refused NotTracked))
    by_tracked old there at true = LetGone old there at refl
    by_tracked old there at false = Refused NotTracked refl (inr refl)

    by_version : (old : Pod) → life u log ≡ Live old → (b : Bool) → (old.version.0 == v.0) ≡ b → LetGoCases log u v (cond (not b) (refused (Conflict old.version)) (cond old.tracked (released log old) (refused NotTracked)))
    by_version old there true s = by_tracked old there (ap (λ (n : ℕ). record { 0 = n }) (eqb-true old.version.0 v.0 s)) old.tracked
    by_version old there false s = Other old there (λ e. true≢false (sym (ap (λ n. n == v.0) e ∙ same v.0) ∙ s)) refl
      where
        same : (n : ℕ) → (n == n) ≡ true
        same n = eq-eqb n n refl

    by : (l : Life) → life u log ≡ l → LetGoCases log u v (let_go_at log v (living l))
    by Never is = Refused NotFound refl (inl refl)
    by (Live old) is = by_version old is (old.version.0 == v.0) refl
    by Gone is = Refused NotFound refl (inl refl)

-- A mark is put on a pod that has none, or changes nothing.
pub data MarkCases (log : List Entry) (u : Uid) (now : ℕ) (given : Answered) : Type 0 where
  Marked : (old : Pod) → life u log ≡ Live old → given ≡ accepted (Written (next_version log)) (pod_entry (with_mark log old now)) → MarkCases log u now given
  Unmarked : (r : Reply) → given ≡ refused r → MarkCases log u now given

pub mark_cases : (log : List Entry) (u : Uid) (now : ℕ) → MarkCases log u now (mark_pod_gives log u now)
mark_cases log u now = by (life u log) refl
  where
    by_mark : (old : Pod) → life u log ≡ Live old → (b : Bool) → MarkCases log u now (cond b (refused (Unchanged old.version)) (accepted (Written (next_version log)) (pod_entry (with_mark log old now))))
    by_mark old there true = Unmarked (Unchanged old.version) refl
    by_mark old there false = Marked old there refl

    by : (l : Life) → life u log ≡ l → MarkCases log u now (mark_pod_at log now (living l))
    by Never is = Unmarked NotFound refl
    by (Live old) is = by_mark old is (is_marked old)
    by Gone is = Unmarked NotFound refl

-- A write of a status is accepted, changes nothing, or is refused.
pub data StatusCases (log : List Entry) (k : Key) (j : Uid) (v : Version) (status : JobStatus) (given : Answered) : Type 0 where
  Accepted : (current : Job) → job_in k log ≡ Some current → current.uid ≡ j → current.version ≡ v → same_status current.status status ≡ false
      → given ≡ accepted (Written (next_version log)) (JobPut (with_status log current status)) → StatusCases log k j v status given
  Same : (current : Job) → job_in k log ≡ Some current → current.uid ≡ j → current.version ≡ v → same_status current.status status ≡ true
      → given ≡ refused (Unchanged current.version) → StatusCases log k j v status given
  Conflicts : (current : Job) → job_in k log ≡ Some current → current.uid ≡ j → current.version.0 ≢ v.0 → given ≡ refused (Conflict current.version) → StatusCases log k j v status given
  Absent : ((current : Job) → job_in k log ≡ Some current → current.uid ≡ j → ⊥) → given ≡ refused NotFound → StatusCases log k j v status given

pub status_cases : (log : List Entry) (k : Key) (j : Uid) (v : Version) (status : JobStatus) → StatusCases log k j v status (write_status_gives log k j v status)
status_cases log k j v status = by (job_in k log) refl
  where
    by_status : (current : Job) → job_in k log ≡ Some current → current.uid ≡ j → current.version ≡ v → (b : Bool) → same_status current.status status ≡ b
        → StatusCases log k j v status (cond b (refused (Unchanged current.version)) (accepted (Written (next_version log)) (JobPut (with_status log current status))))
    by_status current there own at true s = Same current there own at s refl
    by_status current there own at false s = Accepted current there own at s refl

    by_version : (current : Job) → job_in k log ≡ Some current → current.uid ≡ j → (b : Bool) → (current.version.0 == v.0) ≡ b
        → StatusCases log k j v status (cond (not b) (refused (Conflict current.version))
        (cond (same_status current.status status) (refused (Unchanged current.version))
        (accepted (Written (next_version log)) (JobPut (with_status log current status)))))
    by_version current there own true s = by_status current there own (ap (λ (n : ℕ). record { 0 = n }) (eqb-true current.version.0 v.0 s)) (same_status current.status status) refl
    by_version current there own false s = Conflicts current there own (λ e. true≢false (sym (eq-eqb current.version.0 v.0 e) ∙ s)) refl

    by_uid : (current : Job) → job_in k log ≡ Some current → (b : Bool) → same_uid current.uid j ≡ b
        → StatusCases log k j v status (cond (not b) (refused NotFound)
        (cond (not (current.version.0 == v.0)) (refused (Conflict current.version))
        (cond (same_status current.status status) (refused (Unchanged current.version))
        (accepted (Written (next_version log)) (JobPut (with_status log current status))))))
    by_uid current there true s = by_version current there (same_uid-eq current.uid j s) (current.version.0 == v.0) refl
    by_uid current there false s = Absent (λ c is own. true≢false (sym (ap (λ u. same_uid u j) (ap (λ (o : Option Job). (unwrap_or o c).uid) (sym there ∙ is) ∙ own) ∙ same_uid-itself j) ∙ s)) refl

    by : (o : Option Job) → job_in k log ≡ o → StatusCases log k j v status (write_status_at log j v status o)
    by None is = Absent (λ c there own. true≢false (ap is_some (sym there ∙ is))) refl
    by (Some current) is = by_uid current is (same_uid current.uid j) refl
