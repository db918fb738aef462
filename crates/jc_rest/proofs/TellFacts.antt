-- What a sync that sees the last of its key asks first: whatever it is, the store appends an entry that is told under
-- the key.
use Rattle.std.proofs.Common.{◌≡◌, ℕ, ◌==◌, Bool, true, false, cond, not, ◌&&◌, ◌||◌, List, [], ◌∷◌, ◌++◌, filter, map, nat_le, Option, Some, None, is_some, refl, sym, ap, ◌∙◌, subst, eq-eqb, true≢false}
use Rattle.std.specs.List.{AllByRecursion as Each}
use Rattle.std.specs.Option.{unwrap_or}
use Rattle.std.proofs.lemmas.Bool.{and_parts}
use Rattle.jc_types.specs.declared.numbers.Uid.{Uid}
use Rattle.jc_types.specs.declared.numbers.Version.{Version}
use Rattle.jc_types.specs.declared.objects.Entry.{Entry}
use Rattle.jc_types.specs.declared.objects.Entry.TheVariants.{JobPut, PodPut, PodGone}
use Rattle.jc_types.specs.declared.objects.Job.{Job}
use Rattle.jc_types.specs.declared.objects.Kind.{Kind}
use Rattle.jc_types.specs.declared.objects.Kind.TheVariants.{Jobs, Pods}
use Rattle.jc_types.specs.declared.objects.Pod.{Pod}
use Rattle.jc_types.specs.declared.replies.Reply.TheVariants as reply
use Rattle.jc_types.specs.declared.statuses.JobStatus.{JobStatus}
use Rattle.jc_types.specs.Equality.{same_status}
use Rattle.jc_types.specs.declared.objects.KeyNames.{KeyNames as Key}
use Rattle.jc_types.specs.Keys.{same_key, same_uid}
use Rattle.jc_types.proofs.KeyFacts.{same_key-eq, same_key-itself, same_uid-itself}
use Rattle.jc_types.proofs.ListFacts.{Each-both, Each-filter, Each-passes}
use Rattle.jc_states.specs.declared.bases.Basis.{Basis}
use Rattle.jc_states.specs.Bases.{is_own, own_pods}
use Rattle.jc_states.specs.Owners.{is_foreign}
use Rattle.jc_states.specs.Pods.{goes, is_active, is_marked, is_open, is_tracked, is_tracked_active, tracked_active_pods}
use Rattle.jc_states.specs.UidLists.{is_in}
use Rattle.jc_log.specs.Log.{Live, job_in, life, living, next_version, pods_in, pods_under}
use Rattle.jc_log.specs.Requests.{Answered, accepted, let_go_at, made_pod, mark_pod_at, pod_entry, refused, release_at, released, with_mark, with_status, without_finalizer, write_status_at}
use Rattle.jc_log.proofs.PodFacts.{pods_in-live}
use Rattle.jc_log.proofs.WriteFacts.{job_in-key}
use Rattle.jc_plan.specs.Creations.{job_wants}
use Rattle.jc_plan.specs.LetGoes.{is_let_go, is_needless, is_to_mark, seen}
use Rattle.jc_plan.specs.declared.plans.Planned.{Planned}
use Rattle.jc_plan.specs.Plans.{changed, planned}
use Rattle.jc_plan.specs.Releases.{due_uids, is_released}
use Rattle.jc_plan.specs.Statuses.{accounted, decided_in, first_value, is_end_decided, second_value}
use Rattle.jc_plan.proofs.BackoffFacts.{first-unneeded}
use Rattle.jc_plan.proofs.PlanFacts.{plan-first, plan-let_goes, plan-marks, plan-releases, plan-second}
use Rattle.jc_sync.specs.Flight.{Flight}
use Rattle.jc_sync.specs.Ask.{Ask}
use Rattle.jc_sync.specs.Ask.TheVariants.{MakePod, MarkPod, WriteFirst, ReleasePod, WriteSecond}
use Rattle.jc_sync.specs.Asks.{asks_of, first_asks, last_asks, let_go_ask}
use Rattle.jc_sync.specs.Steps.{answered_to, as_answer, make_gives, status_gives, written_gives}
use Rattle.jc_history.specs.Registers.{tells_written}
use Rattle.jc_sync.proofs.ApiFacts.{Absent, Accepted, Conflicts, Same, StatusCases, status_cases}
use Rattle.jc_order.proofs.LastFacts.{tells}

-- The answer appends an entry that a cache tells under the key.
pub record ShowsIn (k : Key) (a : Answered) : Type 0 where
  pub kind : Kind
  pub entry : Entry
  pub is : a.entry ≡ Some entry
  pub told : tells kind k entry ≡ true

-- ---- a pod of the key

-- The pod lives, and its owner is of the key.
abbrev pub LivesUnder : Key → List Entry → Pod → Type 0
LivesUnder k log pod = (life pod.uid log ≡ Live pod) × (same_key pod.owner k ≡ true)

pub under-live : (k : Key) (log : List Entry) → Each (LivesUnder k log) (pods_under k log)
under-live k log =
    Each-both (λ pod. life pod.uid log ≡ Live pod) (λ pod. same_key pod.owner k ≡ true) (pods_under k log)
    (Each-filter (λ pod. life pod.uid log ≡ Live pod) (λ pod. same_key pod.owner k) (pods_in log) (pods_in-live log))
    (Each-passes (λ pod. same_key pod.owner k) (pods_in log))

-- What a list of the pods that pass begins with is of one that passes.
picked : {X : Type 0} (f : Pod → X) (test : Pod → Bool) (P : Pod → Type 0) (pods : List Pod) (x : X) (xs : List X) → Each P pods → map f (filter test pods) ≡ x ∷ xs → (pod : Pod) × (f pod ≡ x) × (test pod ≡ true) × P pod
picked f test P [] x xs all e = absurd (true≢false (ap (λ (l : List _). elim l [ [] ↦ true | y ∷ ys ↦ false ]) e))
picked f test P (pod ∷ pods) x xs all e = by (test pod) refl e (picked f test P pods x xs all.1)
  where
    by : (b : Bool) → test pod ≡ b → map f (cond b (pod ∷ filter test pods) (filter test pods)) ≡ x ∷ xs
        → (map f (filter test pods) ≡ x ∷ xs → (pod : Pod) × (f pod ≡ x) × (test pod ≡ true) × P pod) → (pod : Pod) × (f pod ≡ x) × (test pod ≡ true) × P pod
    by true t e ih = (pod, ap (λ (l : List _). elim l [ [] ↦ x | y ∷ ys ↦ y ]) e, t, all.0)
    by false t e ih = ih e

-- An entry of the pod is told under the key.
entry-told : (k : Key) (new : Pod) → same_key new.owner k ≡ true → tells Pods k (pod_entry new) ≡ true
entry-told k new own = by (goes new)
  where
    by : (b : Bool) → tells Pods k (cond b (PodGone new) (PodPut new)) ≡ true
    by true = own
    by false = own

module _ (k : Key) (log : List Entry) where
  made-shows : (job : Job) (index : Option ℕ) (now : ℕ) → same_key job.key k ≡ true → ShowsIn k (make_gives log index now (Some job))
  made-shows job index now own = record { kind = Pods; entry = PodPut (made_pod log job index now); is = refl; told = own }

  mark-shows : (pod : Pod) (now : ℕ) → LivesUnder k log pod → is_active pod ≡ true → ShowsIn k (mark_pod_at log now (living (life pod.uid log)))
  mark-shows pod now lives active =
      subst (λ l. ShowsIn k (mark_pod_at log now (living l))) (sym lives.0) (by (is_open pod) (is_marked pod) refl active)
    where
      by : (o m : Bool) → is_marked pod ≡ m → (o && not m) ≡ true
          → ShowsIn k (cond m (refused (reply.Unchanged pod.version)) (accepted (reply.Written (next_version log)) (pod_entry (with_mark log pod now))))
      by true true e h = absurd (true≢false (sym h))
      by false m e h = absurd (true≢false (sym h))
      by true false e h = record { kind = Pods; entry = pod_entry (with_mark log pod now); is = refl; told = entry-told k (with_mark log pod now) lives.1 }

  release-shows : (pod : Pod) → LivesUnder k log pod → is_tracked pod ≡ true → ShowsIn k (release_at log (living (life pod.uid log)))
  release-shows pod lives tracked =
      subst (λ l. ShowsIn k (release_at log (living l))) (sym lives.0) (by pod.tracked refl tracked)
    where
      by : (t : Bool) → pod.tracked ≡ t → t ≡ true → ShowsIn k (cond t (released log pod) (refused reply.NotTracked))
      by true e h = record { kind = Pods; entry = pod_entry (without_finalizer log pod); is = refl; told = entry-told k (without_finalizer log pod) lives.1 }
      by false e h = absurd (true≢false (sym h))

  let_go-shows : (pod : Pod) → LivesUnder k log pod → is_tracked pod ≡ true → ShowsIn k (let_go_at log pod.version (living (life pod.uid log)))
  let_go-shows pod lives tracked =
      subst (λ l. ShowsIn k (let_go_at log pod.version (living l))) (sym lives.0)
      (by (pod.version.0 == pod.version.0) (eq-eqb pod.version.0 pod.version.0 refl) pod.tracked tracked)
    where
      by : (v : Bool) → v ≡ true → (t : Bool) → t ≡ true
          → ShowsIn k (cond (not v) (refused (reply.Conflict pod.version)) (cond t (released log pod) (refused reply.NotTracked)))
      by true e true h = record { kind = Pods; entry = pod_entry (without_finalizer log pod); is = refl; told = entry-told k (without_finalizer log pod) lives.1 }
      by true e false h = absurd (true≢false (sym h))
      by false e t h = absurd (true≢false (sym e))

  -- A status that differs, at the version of the Job that is there.
  status-shows : (job : Job) (version : Version) (status : JobStatus) → job_in k log ≡ Some job → version ≡ job.version → same_status job.status status ≡ false
      → ShowsIn k (write_status_at log job.uid version status (Some job))
  status-shows job version status there same differs =
      by (same_uid job.uid job.uid) (same_uid-itself job.uid) (job.version.0 == version.0) (eq-eqb job.version.0 version.0 (ap (λ (v : Version). v.0) (sym same))) (same_status job.status status) differs
    where
      by : (u : Bool) → u ≡ true → (v : Bool) → v ≡ true → (s : Bool) → s ≡ false
          → ShowsIn k (cond (not u) (refused reply.NotFound) (cond (not v) (refused (reply.Conflict job.version))
          (cond s (refused (reply.Unchanged job.version)) (accepted (reply.Written (next_version log)) (JobPut (with_status log job status))))))
      by true e true f false g = record { kind = Jobs; entry = JobPut (with_status log job status); is = refl; told = ap (λ q. same_key q k) (job_in-key k log job there) ∙ same_key-itself k }
      by true e true f true g = absurd (true≢false g)
      by true e false f s g = absurd (true≢false (sym f))
      by false e v f s g = absurd (true≢false (sym e))

-- ---- a write of a status that is told as written

-- The entry of it is told under the key.
pub written-shows : (k : Key) (log : List Entry) (flight : Flight) (o : Option JobStatus) → same_key flight.basis.key k ≡ true → tells_written (as_answer (written_gives log flight o).reply) ≡ true → ShowsIn k (written_gives log flight o)
written-shows k log flight None own told = absurd (true≢false (sym told))
written-shows k log flight (Some status) own told = of flight.basis.job told
  where
    of : (j : Option Job) → tells_written (as_answer (status_gives log flight status j).reply) ≡ true → ShowsIn k (status_gives log flight status j)
    of None told = absurd (true≢false (sym told))
    of (Some job) told = by (status_gives log flight status (Some job)) (status_cases log flight.basis.key job.uid flight.sends status) told
      where
        by : (a : Answered) → StatusCases log flight.basis.key job.uid flight.sends status a → tells_written (as_answer a.reply) ≡ true → ShowsIn k a
        by a (Accepted current there mine at differs e) told =
            record {
              kind = Jobs;
              entry = JobPut (with_status log current status);
              is = ap (λ (x : Answered). x.entry) e;
              told = ap (λ q. same_key q k) (job_in-key flight.basis.key log current there) ∙ own;
            }
        by a (Same current there mine at same e) told = absurd (true≢false (sym told ∙ ap (λ (x : Answered). tells_written (as_answer x.reply)) e))
        by a (Conflicts current there mine other e) told = absurd (true≢false (sym told ∙ ap (λ (x : Answered). tells_written (as_answer x.reply)) e))
        by a (Absent gone e) told = absurd (true≢false (sym told ∙ ap (λ (x : Answered). tells_written (as_answer x.reply)) e))

-- ---- the first request of a plan

module _ (k : Key) (log : List Entry) (now : ℕ) (basis : Basis) (job : Job) (named : same_key basis.key k ≡ true) (there : job_in k log ≡ Some job) (this : basis.job ≡ Some job) (pods : basis.pods ≡ pods_under k log)
    (flight : Flight) (same : flight.basis ≡ basis) (sends : flight.sends ≡ job.version) where
  -- What the request is answered shows.
  abbrev Shows : Ask → Type 0
  Shows ask = ShowsIn k (answered_to log now flight ask)

  alive : Each (LivesUnder k log) basis.pods
  alive = subst (Each (LivesUnder k log)) (sym pods) (under-live k log)

  own-alive : Each (LivesUnder k log) (own_pods job basis.pods)
  own-alive = Each-filter (LivesUnder k log) (is_own job) basis.pods alive

  at-make : (index : Option ℕ) → Shows (MakePod index)
  at-make index =
      subst (λ o. ShowsIn k (make_gives log index now o)) (sym (ap (λ (b : Basis). b.job) same ∙ this))
      (made-shows k log job index now (ap (λ q. same_key q k) (job_in-key k log job there) ∙ same_key-itself k))

  at-mark : (u : Uid) (us : List Uid) → (planned basis).marks ≡ u ∷ us → Shows (MarkPod u)
  at-mark u us e =
      let one = picked (λ (p : Pod). p.uid) (is_to_mark (is_end_decided job (decided_in job basis))) (LivesUnder k log) (own_pods job basis.pods) u us own-alive (sym (plan-marks basis job this) ∙ e) in
      subst (λ v. ShowsIn k (mark_pod_at log now (living (life v log)))) one.1
      (mark-shows k log one.0 now one.3 (and_parts (is_active one.0) (is_end_decided job (decided_in job basis) || not (is_tracked one.0)) one.2).0)

  -- A pod that goes is tracked.
  let-gone : (row : Uid × Version) (rows : List (Uid × Version)) (target suspend : Bool)
      → map seen (cond target [] (cond suspend (tracked_active_pods (own_pods job basis.pods))
      (filter (is_let_go job.spec.mode (is_needless (unwrap_or job.spec.completions 0) (accounted job basis))
      (job_wants job (own_pods job basis.pods) (accounted job basis)) (tracked_active_pods (own_pods job basis.pods)))
      (tracked_active_pods (own_pods job basis.pods))))) ≡ row ∷ rows
      → (pod : Pod) × (seen pod ≡ row) × (is_tracked pod ≡ true) × LivesUnder k log pod
  let-gone row rows true suspend e = absurd (true≢false (ap (λ (l : List _). elim l [ [] ↦ true | y ∷ ys ↦ false ]) e))
  let-gone row rows false true e =
      let one = picked seen is_tracked_active (LivesUnder k log) (own_pods job basis.pods) row rows own-alive e in
      (one.0, one.1, (and_parts (is_active one.0) (is_tracked one.0) one.2).1, one.3)
  let-gone row rows false false e =
      let own = own_pods job basis.pods in
      let one = picked seen (is_let_go job.spec.mode (is_needless (unwrap_or job.spec.completions 0) (accounted job basis)) (job_wants job own (accounted job basis)) (tracked_active_pods own))
      (λ p. (is_tracked_active p ≡ true) × LivesUnder k log p) (tracked_active_pods own) row rows
      (Each-both (λ p. is_tracked_active p ≡ true) (LivesUnder k log) (tracked_active_pods own) (Each-passes is_tracked_active own) (Each-filter (LivesUnder k log) is_tracked_active own own-alive)) e in
      (one.0, one.1, (and_parts (is_active one.0) (is_tracked one.0) one.3.0).1, one.3.1)

  at-let_go : (row : Uid × Version) (rows : List (Uid × Version)) → (planned basis).let_goes ≡ row ∷ rows → Shows (let_go_ask row)
  at-let_go row rows e =
      let one = let-gone row rows (is_end_decided job (decided_in job basis)) job.spec.suspend (sym (plan-let_goes basis job this) ∙ e) in
      subst (λ (r : Uid × Version). ShowsIn k (let_go_at log r.1 (living (life r.0 log)))) one.1 (let_go-shows k log one.0 one.3 one.2)

  at-status : (o : Option JobStatus) (status : JobStatus) → o ≡ Some status → same_status job.status status ≡ false → ShowsIn k (written_gives log flight o)
  at-status o status is differs =
      subst (λ p. ShowsIn k (written_gives log flight p)) (sym is)
      (subst (λ p. ShowsIn k (status_gives log flight status p)) (sym (ap (λ (b : Basis). b.job) same ∙ this))
      (subst (λ q. ShowsIn k (write_status_at log job.uid flight.sends status q)) (sym (ap (λ q. job_in q log) (ap (λ (b : Basis). b.key) same ∙ same_key-eq basis.key k named) ∙ there))
      (status-shows k log job flight.sends status there sends differs)))

  -- A status that is written differs from the one before it.
  written-differs : (old new : JobStatus) (status : JobStatus) → changed old new ≡ Some status → same_status old status ≡ false
  written-differs old new status e = by (same_status old new) refl e
    where
      by : (b : Bool) → same_status old new ≡ b → cond b None (Some new) ≡ Some status → same_status old status ≡ false
      by true s e = absurd (true≢false (sym (ap is_some e)))
      by false s e = ap (λ (o : Option JobStatus). same_status old (unwrap_or o new)) (sym e) ∙ s

  plan-of : planned flight.basis ≡ planned basis
  plan-of = ap planned same

  at-first : (status : JobStatus) → (planned basis).first ≡ Some status → Shows WriteFirst
  at-first status e =
      at-status (planned flight.basis).first status (ap (λ (p : Planned). p.first) plan-of ∙ e)
      (written-differs job.status (first_value job basis) status (sym (plan-first basis job this) ∙ e))

  at-release : (u : Uid) (us : List Uid) → (planned basis).releases ≡ u ∷ us → Shows (ReleasePod u)
  at-release u us e =
      let one = picked (λ (p : Pod). p.uid) (is_released basis) (LivesUnder k log) basis.pods u us alive (sym (plan-releases basis) ∙ e) in
      subst (λ v. ShowsIn k (release_at log (living (life v log)))) one.1
      (release-shows k log one.0 one.3 (tracked (is_tracked one.0) (is_in one.0.uid (due_uids basis.job basis.pods)) (is_foreign basis.job one.0 && nat_le one.0.version.0 basis.jobs_at.0) one.2))
    where
      tracked : (t a b : Bool) → ((t && a) || (t && b)) ≡ true → t ≡ true
      tracked true a b h = refl
      tracked false a b h = absurd (true≢false (sym h))

  at-second : (status : JobStatus) → (planned basis).first ≡ None → (planned basis).second ≡ Some status → Shows WriteSecond
  at-second status none e =
      at-status (planned flight.basis).second status (ap (λ (p : Planned). p.second) plan-of ∙ e)
      (ap (λ s. same_status s status) (sym (first-unneeded job basis this none))
      ∙ written-differs (first_value job basis) (second_value job basis) status (sym (plan-second basis job this) ∙ e))

  -- So it is of the first of them all.
  head-of : (ask other : Ask) (left rest : List Ask) → other ∷ rest ≡ ask ∷ left → other ≡ ask
  head-of ask other left rest e = ap (λ (l : List Ask). elim l [ [] ↦ ask | y ∷ ys ↦ y ]) e

  pub first-shows : (ask : Ask) (left : List Ask) → asks_of (planned basis) ≡ ask ∷ left → Shows ask
  first-shows ask left e =
      by (planned basis).creates (planned basis).marks (planned basis).let_goes (planned basis).first (planned basis).releases (planned basis).second refl refl refl refl refl e
    where
      by : (cs : List (Option ℕ)) (ms : List Uid) (ls : List (Uid × Version)) (f : Option JobStatus) (rs : List Uid) (s : Option JobStatus)
          → (planned basis).marks ≡ ms → (planned basis).let_goes ≡ ls → (planned basis).first ≡ f → (planned basis).releases ≡ rs → (planned basis).second ≡ s
          → (map MakePod cs ++ (map MarkPod ms ++ map let_go_ask ls)) ++ (first_asks f ++ last_asks rs s) ≡ ask ∷ left → Shows ask
      by (c ∷ cs) ms ls f rs s m l g r t e = subst Shows (head-of ask (MakePod c) left _ e) (at-make c)
      by [] (u ∷ ms) ls f rs s m l g r t e = subst Shows (head-of ask (MarkPod u) left _ e) (at-mark u ms m)
      by [] [] (row ∷ ls) f rs s m l g r t e = subst Shows (head-of ask (let_go_ask row) left _ e) (at-let_go row ls l)
      by [] [] [] (Some status) rs s m l g r t e = subst Shows (head-of ask WriteFirst left _ e) (at-first status g)
      by [] [] [] None (u ∷ rs) s m l g r t e = subst Shows (head-of ask (ReleasePod u) left _ e) (at-release u rs r)
      by [] [] [] None [] (Some status) m l g r t e = subst Shows (head-of ask WriteSecond left _ e) (at-second status g t)
      by [] [] [] None [] None m l g r t e = absurd (true≢false (ap (λ (l : List Ask). elim l [ [] ↦ true | y ∷ ys ↦ false ]) e))
