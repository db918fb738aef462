-- A conflict tells of a later version than the one that was sent, and a write of the status changes something.
use Rattle.std.specs.Option.{unwrap_or}
use Rattle.std.proofs.Common.{◌≡◌, ◌≢◌, inl, inr, ℕ, zero, suc, ◌<◌, ◌≤◌, Bool, true, false, cond, List, ◌∷◌, length, find, Option, Some, None, refl, sym, ap, ◌∙◌, subst, arith, true≢false, ⊎_elim}
use Rattle.std.proofs.lemmas.Bool.{cases_lt, cond-true}
use Rattle.jc_types.specs.declared.numbers.Uid.{Uid}
use Rattle.jc_types.specs.declared.numbers.Version.{Version}
use Rattle.jc_types.specs.declared.objects.Entry.{Entry}
use Rattle.jc_types.specs.declared.objects.Entry.TheVariants.{JobPut, JobGone, PodPut, PodGone}
use Rattle.jc_types.specs.declared.objects.Job.{Job}
use Rattle.jc_types.specs.declared.objects.Pod.{Pod}
use Rattle.jc_types.specs.declared.statuses.JobStatus.{JobStatus}
use Rattle.jc_log.specs.Requests.{Answered, refused}
use Rattle.jc_types.specs.declared.objects.KeyNames.{KeyNames as Key}
use Rattle.jc_types.specs.Keys.{same_key, same_uid}
use Rattle.jc_log.specs.Log.{Life, Never, Live, Gone, entry_at, job_in, life, upto}
use Rattle.jc_log.specs.Writes.{Stored, Writes}
use Rattle.jc_types.proofs.KeyFacts.{same_key-itself}
use Rattle.jc_log.proofs.LogFacts.{entry_at-place, length-upto, upto-entry_at}
use Rattle.jc_log.proofs.PlaceFacts.{life-place}
use Rattle.jc_log.proofs.WriteFacts.{Follows-upto, job_in-key, persists_on, place_is_version}
use Rattle.jc_types.specs.Equality.{same_status}
use Rattle.jc_plan.specs.Plans.{planned}
use Rattle.jc_plan.specs.Statuses.{first_value, second_value}
use Rattle.jc_plan.proofs.PlanFacts.{plan-first, plan-second}
use Rattle.jc_ledger.specs.declared.flights.Flight.{Flight}
use Rattle.jc_ledger.specs.Flights.{IsSent, Flies, known}
use Rattle.jc_ledger.proofs.QuietFacts.{IfSome-at}
use Rattle.jc_ledger.proofs.SeenFacts.{saw}
use Rattle.jc_asks.specs.declared.asks.Ask.{Ask}
use Rattle.jc_asks.specs.declared.asks.Ask.TheVariants.{MakePod, MarkPod, LetPodGo, WriteFirst, ReleasePod, WriteSecond}
use Rattle.jc_asks.specs.Asks.{unchanged_of, version_sent, writes_status}
use Rattle.jc_sync.specs.SyncPlaces.{IsAt, SeenActive}
use Rattle.jc_sync.specs.StepEffects.{IsLaterThan}
use Rattle.jc_asks.specs.Steps.{as_answer, answered_to, status_gives, written_gives}
use Rattle.jc_sync.proofs.ApiFacts.{LetGoCases, LetGone, Other, Refused, let_go_cases, StatusCases, Accepted, Same, Conflicts, Absent, status_cases}
use Rattle.jc_sync.proofs.PlaceFacts.{IsFirstAsk, IsSecondAsk, at_early, at_first, at_second}
use Rattle.jc_sync.proofs.PlanFacts.{changed-some}
use Rattle.jc_sync.proofs.StatusFacts.{not_same}

-- ---- versions grow

-- The Job, or the pod, that is there has at least the version.
abbrev pub JobFrom : ℕ → Option Job → Type 0
JobFrom n None = Unit {0}
JobFrom n (Some job) = n ≤ job.version.0

abbrev pub LifeFrom : ℕ → Life → Type 0
LifeFrom n Never = Unit {0}
LifeFrom n (Live pod) = n ≤ pod.version.0
LifeFrom n Gone = Unit {0}

job_from : (k : Key) (n : ℕ) (e : Entry) (older : List Entry) → Writes older e → (n ≤ length older) × JobFrom n (job_in k older) → (n ≤ length (e ∷ older)) × JobFrom n (job_in k (e ∷ older))
job_from k n (JobPut job) older w h = (omega (arith, h.0), by (same_key job.key k) (let v = w.version in omega (arith, v, h.0)))
  where
    by : (b : Bool) → n ≤ job.version.0 → JobFrom n (cond b (Some job) (job_in k older))
    by true le = le
    by false le = h.1
job_from k n (JobGone job) older w h = (omega (arith, h.0), by (same_key job.key k))
  where
    by : (b : Bool) → JobFrom n (cond b None (job_in k older))
    by true = tt
    by false = h.1
job_from k n (PodPut pod) older w h = (omega (arith, h.0), h.1)
job_from k n (PodGone pod) older w h = (omega (arith, h.0), h.1)

life_from : (u : Uid) (n : ℕ) (e : Entry) (older : List Entry) → Writes older e → (n ≤ length older) × LifeFrom n (life u older) → (n ≤ length (e ∷ older)) × LifeFrom n (life u (e ∷ older))
life_from u n (JobPut job) older w h = (omega (arith, h.0), h.1)
life_from u n (JobGone job) older w h = (omega (arith, h.0), h.1)
life_from u n (PodPut pod) older w h = (omega (arith, h.0), by (same_uid pod.uid u) (let v = w.version in omega (arith, v, h.0)))
  where
    by : (b : Bool) → n ≤ pod.version.0 → LifeFrom n (cond b (Live pod) (life u older))
    by true le = le
    by false le = h.1
life_from u n (PodGone pod) older w h = (omega (arith, h.0), by (same_uid pod.uid u))
  where
    by : (b : Bool) → LifeFrom n (cond b Gone (life u older))
    by true = tt
    by false = h.1

-- The Job of a key is not older than any that was put.
pub job_grows : (v : ℕ) (log : List Entry) (put current : Job) → Stored log → entry_at v log ≡ Some (JobPut put) → job_in put.key log ≡ Some current → v ≤ current.version.0
job_grows zero log put current stored is there = omega arith
job_grows (suc v) log put current stored is there =
    subst (JobFrom (suc v)) there
    (persists_on Writes (λ l. (suc v ≤ length l) × JobFrom (suc v) (job_in put.key l)) (λ e older w all h. job_from put.key (suc v) e older w h) (suc v) log stored at_first).1
  where
    prefix : upto (suc v) log ≡ JobPut put ∷ upto v log
    prefix = upto-entry_at v log (JobPut put) is

    first : job_in put.key (upto (suc v) log) ≡ Some put
    first = ap (job_in put.key) prefix ∙ cond-true (same_key put.key put.key) (Some put) (job_in put.key (upto v log)) (same_key-itself put.key)

    long : length (upto (suc v) log) ≡ suc v
    long = length-upto (suc v) log (entry_at-place (suc v) log (JobPut put) is).1

    stands : suc v ≤ put.version.0
    stands = let at = place_is_version (suc v) log (JobPut put) stored is in omega (arith, at)

    at_first : (suc v ≤ length (upto (suc v) log)) × JobFrom (suc v) (job_in put.key (upto (suc v) log))
    at_first = (omega (arith, long), subst (JobFrom (suc v)) (sym first) stands)

-- A pod is not older than as it was seen.
pub pod_grows : (u : Uid) (m : ℕ) (log : List Entry) (seen now : Pod) → Stored log → m ≤ length log → life u (upto m log) ≡ Live seen → life u log ≡ Live now → seen.version.0 ≤ now.version.0
pod_grows u m log seen now stored le was is =
    subst (LifeFrom seen.version.0) is
    (persists_on Writes (λ l. (seen.version.0 ≤ length l) × LifeFrom seen.version.0 (life u l)) (λ e older w all h. life_from u seen.version.0 e older w h) m log stored at_first).1
  where
    at_first : (seen.version.0 ≤ length (upto m log)) × LifeFrom seen.version.0 (life u (upto m log))
    at_first = (life-place u (upto m log) seen (Follows-upto Writes m log stored) was, subst (LifeFrom seen.version.0) (sym was) (omega arith))

-- ---- conflicts

above : (m n : ℕ) → m ≤ n → m ≢ n → m < n
above m n le ne = ⊎_elim (λ lt. lt) (λ ge. absurd (ne (omega (arith, le, ge)))) (cases_lt m n)

module _ (log : List Entry) (now : ℕ) (flight : Flight) (stored : Stored log) (flies : Flies log flight) where
  -- A conflict that the answer tells is later than what was sent.
  abbrev pub IsLater : Version → Answered → Type 0
  IsLater sent a = IsLaterThan (Some sent) a

  status_later : (status : JobStatus) (o : Option Job) → flight.basis.job ≡ o → IsLater flight.sends (status_gives log flight status o)
  status_later status None is = tt
  status_later status (Some job) is = by (status_gives log flight status (Some job)) (status_cases log flight.basis.key job.uid flight.sends status)
    where
      sent : IsSent log flight job
      sent = IfSome-at flight.basis.job (λ j. IsSent log flight j) job is flies.sent

      by : (a : Answered) → StatusCases log flight.basis.key job.uid flight.sends status a → IsLater flight.sends a
      by a (Accepted current there own at differs e) = subst (IsLater flight.sends) (sym e) tt
      by a (Same current there own at same e) = subst (IsLater flight.sends) (sym e) tt
      by a (Conflicts current there own other e) =
          subst (IsLater flight.sends) (sym e)
          (let le = job_grows flight.sends.0 log sent.put current stored sent.is_put (ap (λ k. job_in k log) (sent.key ∙ seen_key) ∙ there) in above flight.sends.0 current.version.0 le (λ x. other (sym x)))
        where
          seen_key : job.key ≡ flight.basis.key
          seen_key = job_in-key flight.basis.key (upto flight.basis.jobs_at.0 log) job (sym flies.basis.job ∙ is)
      by a (Absent gone e) = subst (IsLater flight.sends) (sym e) tt

  written_later : (o : Option JobStatus) → IsLater flight.sends (written_gives log flight o)
  written_later None = tt
  written_later (Some status) = status_later status flight.basis.job refl

  let_go_later : (u : Uid) (v : Version) → SeenActive flight.basis u v → IsLater v (answered_to log now flight (LetPodGo u v))
  let_go_later u v active = by (answered_to log now flight (LetPodGo u v)) (let_go_cases log u v)
    where
      by : (a : Answered) → LetGoCases log u v a → IsLater v a
      by a (LetGone old there at e) = subst (IsLater v) (sym e) tt
      by a (Other old there other e) =
          subst (IsLater v) (sym e)
          (let le = pod_grows u flight.basis.pods_at.0 log active.seen old stored flies.basis.pods_at
          (ap (λ w. life w (upto flight.basis.pods_at.0 log)) (sym active.uid) ∙ (saw log flight.basis active.seen flies.basis (ap (λ w. find (λ (p : Pod). same_uid p.uid w) flight.basis.pods) active.uid ∙ active.is_seen)).stood) there in
          above v.0 old.version.0 (subst (λ w. w.0 ≤ old.version.0) active.version le) (λ x. other (sym x)))
      by a (Refused r e (inl is)) = subst (IsLater v) (sym (e ∙ ap refused is)) tt
      by a (Refused r e (inr is)) = subst (IsLater v) (sym (e ∙ ap refused is)) tt

  -- A status write or let-go that is refused as a conflict.
  pub conflict_later : (ask : Ask) (left : List Ask) → IsAt flight (ask ∷ left) → IsLaterThan (version_sent flight.sends ask) (answered_to log now flight ask)
  conflict_later (MakePod index) left at = tt
  conflict_later (MarkPod u) left at = tt
  conflict_later (LetPodGo u v) left at = let_go_later u v (at_early flight (LetPodGo u v) left refl at).early
  conflict_later WriteFirst left at = written_later (planned flight.basis).first
  conflict_later (ReleasePod u) left at = tt
  conflict_later WriteSecond left at = written_later (planned flight.basis).second

  -- ---- answers that nothing has changed

  -- The answer is none of these.
  abbrev Changes : Answered → Type 0
  Changes a = unchanged_of (as_answer a.reply) ≡ None

  -- A write of a status that differs from the one that the sync knows.
  changes_by : (status : JobStatus) (job : Job) → flight.basis.job ≡ Some job → same_status (known flight job) status ≡ false
      → (a : Answered) → StatusCases log flight.basis.key job.uid flight.sends status a → Changes a
  changes_by status job is differs a (Accepted current there own at other e) = subst Changes (sym e) refl
  changes_by status job is differs a (Same current there own at same e) =
      absurd (not_same log flight job current status stored flies is there at differs same)
  changes_by status job is differs a (Conflicts current there own other e) = subst Changes (sym e) refl
  changes_by status job is differs a (Absent gone e) = subst Changes (sym e) refl

  first_changes : (left : List Ask) → IsFirstAsk flight left → Changes (written_gives log flight (planned flight.basis).first)
  first_changes left ask = subst (λ o. Changes (written_gives log flight o)) (sym ask.first) (by flight.basis.job refl)
    where
      by : (o : Option Job) → flight.basis.job ≡ o → Changes (status_gives log flight ask.status o)
      by None is = refl
      by (Some job) is =
          let change = changed-some job.status (first_value job flight.basis) ask.status (sym (plan-first flight.basis job is) ∙ ask.first) in
          changes_by ask.status job is
          (ap (λ (w : Option JobStatus). same_status (unwrap_or w job.status) ask.status) ask.unwritten ∙ ap (same_status job.status) change.is ∙ change.differs)
          (status_gives log flight ask.status (Some job)) (status_cases log flight.basis.key job.uid flight.sends ask.status)

  second_changes : (left : List Ask) → IsSecondAsk flight left → Changes (written_gives log flight (planned flight.basis).second)
  second_changes left ask = subst (λ o. Changes (written_gives log flight o)) (sym ask.second) (by flight.basis.job refl)
    where
      by : (o : Option Job) → flight.basis.job ≡ o → Changes (status_gives log flight ask.status o)
      by None is = refl
      by (Some job) is =
          let change = changed-some (first_value job flight.basis) (second_value job flight.basis) ask.status (sym (plan-second flight.basis job is) ∙ ask.second) in
          let knows = IfSome-at flight.basis.job (λ j. known flight j ≡ first_value j flight.basis) job is ask.knows in
          changes_by ask.status job is
          (ap (λ s. same_status s ask.status) knows ∙ ap (same_status (first_value job flight.basis)) change.is ∙ change.differs)
          (status_gives log flight ask.status (Some job)) (status_cases log flight.basis.key job.uid flight.sends ask.status)

  -- A write of the status of a sync is never answered so.
  pub status_changes : (ask : Ask) (left : List Ask) → IsAt flight (ask ∷ left) → writes_status ask ≡ true → Changes (answered_to log now flight ask)
  status_changes (MakePod index) left at kind = absurd (true≢false (sym kind))
  status_changes (MarkPod u) left at kind = absurd (true≢false (sym kind))
  status_changes (LetPodGo u v) left at kind = absurd (true≢false (sym kind))
  status_changes WriteFirst left at kind = first_changes left (at_first flight left at)
  status_changes (ReleasePod u) left at kind = absurd (true≢false (sym kind))
  status_changes WriteSecond left at kind = second_changes left (at_second flight left at)
