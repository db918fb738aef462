-- A sync that saw the whole log: where it begins, and what it has done where nothing is left to ask.
use Rattle.std.proofs.Common.{◌≡◌, ◌⊎◌, inl, inr, ℕ, ◌+◌, Bool, true, false, ◌||◌, List, [], ◌∷◌, ◌++◌, map, filter, length, Option, Some, None, refl, sym, ap, ◌∙◌, subst, arith, true≢false}
use Rattle.std.specs.List.{AllByRecursion as Each}
use Rattle.std.specs.Option.{unwrap_or}
use Rattle.std.proofs.lemmas.Bool.{not-true, or_cases, or_left, or_right}
use Rattle.std.proofs.lemmas.List.{append-nil}
use Rattle.std.proofs.lemmas.List.Elements.{All-contains, All-from_recursion, filter-append, recursion_from_All}
use Rattle.std.proofs.lemmas.Option.{same_Some as some_is}
use Rattle.jc_types.proofs.KeyFacts.{same_key-either_way, same_key-eq, same_uid-eq, same_uid-itself}
use Rattle.jc_types.proofs.ListFacts.{Each-append, Each-both, Each-filter, Each-map, Each-passes, Each-weaker, filter_all, filter_none}
use Rattle.jc_types.specs.declared.objects.KeyNames.{KeyNames as Key}
use Rattle.jc_types.specs.Keys.{same_key, same_uid}
use Rattle.jc_types.specs.declared.numbers.Uid.{Uid}
use Rattle.jc_types.specs.declared.numbers.Version.{Version}
use Rattle.jc_types.specs.declared.objects.Entry.{Entry}
use Rattle.jc_types.specs.declared.objects.Job.{Job}
use Rattle.jc_types.specs.declared.objects.Pod.{Pod}
use Rattle.jc_types.specs.declared.statuses.JobStatus.{JobStatus}
use Rattle.jc_states.specs.Bases.{is_own, own_pods}
use Rattle.jc_states.specs.declared.bases.Basis.{Basis}
use Rattle.jc_states.specs.UidLists.{is_in}
use Rattle.jc_states.proofs.PodListFacts.{pod_among, rises-found, rises_filter}
use Rattle.jc_states.proofs.UidListFacts.{Found, some_in}
use Rattle.jc_log.specs.Log.{Live, is_lost, job_in, life, living, made_for, pods_in, pods_under}
use Rattle.jc_log.proofs.PodFacts.{pods_in-live, pods_in-rises}
use Rattle.jc_plan.specs.LetGoes.{is_to_mark}
use Rattle.jc_plan.specs.PodNumbers.{is_let_go_of}
use Rattle.jc_plan.specs.Plans.{last_status, planned}
use Rattle.jc_plan.specs.Releases.{is_released}
use Rattle.jc_plan.specs.SeenPods.{IsSeen}
use Rattle.jc_plan.specs.Statuses.{accounted, decided_in, is_end_decided, second_value}
use Rattle.jc_plan.specs.declared.plans.Planned.{Planned}
use Rattle.jc_plan.proofs.ListedFacts.{each, each_in}
use Rattle.jc_plan.proofs.NextFacts.{last-second}
use Rattle.jc_plan.proofs.OneWay.{goes-seen}
use Rattle.jc_plan.proofs.PartFacts.{planned-here}
use Rattle.jc_plan.proofs.PlanFacts.{plan-let_goes, plan-marks, plan-releases}
use Rattle.jc_sync.specs.Ask.{Ask}
use Rattle.jc_sync.specs.Ask.TheVariants.{MakePod, MarkPod, LetPodGo, WriteFirst, ReleasePod, WriteSecond}
use Rattle.jc_sync.specs.Asks.{asks_of, early_asks, first_asks, last_asks, late_asks, let_go_ask, second_asks}
use Rattle.jc_sync.proofs.QuietFacts.{IfSome-at}
use Rattle.jc_granted.proofs.StepGrants.{of-each}
use Rattle.jc_granted.specs.SyncsDone.{HasItsPlan, HasStatus, IsMarked, IsStopped}
use Rattle.jc_granted.specs.Ready.{IsThere}
use Rattle.jc_making.specs.Grants.{AllGranted, AreNew, frees, job_left}
use Rattle.jc_bearing.specs.Served.{IsServed, ServesAll}
use Rattle.jc_bearing.specs.Whole.{DoesAll, HasAllFor, at_version}
use Rattle.jc_bearing.proofs.TrackFacts.{IsChangeOf, Under, tracks-filter, tracks-follow, tracks-itself, tracks-same, tracks-served}
use Rattle.jc_bearing.proofs.BearFacts.{AreMade, Bears, IsMeant, IsPlanned, creates_in, front-each}

-- ---- all that a plan makes

creates-append : (xs ys : List Ask) → creates_in (xs ++ ys) ≡ creates_in xs ++ creates_in ys
creates-append [] ys = refl
creates-append (MakePod index ∷ xs) ys = ap (λ l. index ∷ l) (creates-append xs ys)
creates-append (MarkPod u ∷ xs) ys = creates-append xs ys
creates-append (LetPodGo u version ∷ xs) ys = creates-append xs ys
creates-append (WriteFirst ∷ xs) ys = creates-append xs ys
creates-append (ReleasePod u ∷ xs) ys = creates-append xs ys
creates-append (WriteSecond ∷ xs) ys = creates-append xs ys

creates-all : (indexes : List (Option ℕ)) → creates_in (map MakePod indexes) ≡ indexes
creates-all [] = refl
creates-all (index ∷ indexes) = ap (λ l. index ∷ l) (creates-all indexes)

creates-none : {X : Type 0} (f : X → Ask) → ((x : X) (left : List Ask) → creates_in (f x ∷ left) ≡ creates_in left) → (xs : List X) → creates_in (map f xs) ≡ []
creates-none f none [] = refl
creates-none f none (x ∷ xs) = none x (map f xs) ∙ creates-none f none xs

creates-first : (o : Option JobStatus) → creates_in (first_asks o) ≡ []
creates-first None = refl
creates-first (Some status) = refl

creates-second : (o : Option JobStatus) → creates_in (second_asks o) ≡ []
creates-second None = refl
creates-second (Some status) = refl

creates-late : (plan : Planned) → creates_in (late_asks plan) ≡ []
creates-late plan =
    creates-append (first_asks plan.first) (last_asks plan.releases plan.second)
    ∙ (λ i. creates-first plan.first i ++ creates_in (last_asks plan.releases plan.second))
    ∙ creates-append (map ReleasePod plan.releases) (second_asks plan.second)
    ∙ (λ i. creates-none ReleasePod (λ u left. refl) plan.releases i ++ creates-second plan.second i)

creates-plan : (plan : Planned) → creates_in (asks_of plan) ≡ plan.creates
creates-plan plan =
    creates-append (early_asks plan) (late_asks plan)
    ∙ (λ i. creates_in (early_asks plan) ++ creates-late plan i)
    ∙ append-nil (creates_in (early_asks plan))
    ∙ creates-append (map MakePod plan.creates) (map MarkPod plan.marks ++ map let_go_ask plan.let_goes)
    ∙ (λ i. creates-all plan.creates i ++ creates-append (map MarkPod plan.marks) (map let_go_ask plan.let_goes) i)
    ∙ (λ i. plan.creates ++ (creates-none MarkPod (λ u left. refl) plan.marks i ++ creates-none let_go_ask (λ row left. refl) plan.let_goes i))
    ∙ append-nil plan.creates

-- ---- the begin

-- Each row is among these.
each-listed : (rows : List (Uid × Version)) → Each (λ row. is_let_go_of row.0 rows ≡ true) rows
each-listed [] = tt
each-listed (row ∷ rows) = (
  or_left (same_uid row.0 row.0) (is_let_go_of row.0 rows) (same_uid-itself row.0),
  Each-weaker (λ r. is_let_go_of r.0 rows ≡ true) (λ r. is_let_go_of r.0 (row ∷ rows) ≡ true) (λ r h. or_right (same_uid row.0 r.0) (is_let_go_of r.0 rows) h) rows (each-listed rows),
)

module _ (old : List Entry) (basis : Basis) (pods : basis.pods ≡ pods_under basis.key old) (job-is : basis.job ≡ job_in basis.key old) where
  abbrev plan : Planned
  plan = planned basis

  -- A pod that the sync saw is under the key, and is that of its UID.
  abbrev pub WasSeen : Pod → Type 0
  WasSeen pod = (same_key pod.owner basis.key ≡ true) × (pod_among pod.uid (pods_in old) ≡ Some pod)

  pub all-seen : Each WasSeen basis.pods
  all-seen =
      subst (Each WasSeen) (sym pods)
      (Each-both (λ (pod : Pod). same_key pod.owner basis.key ≡ true) (λ (pod : Pod). pod_among pod.uid (pods_in old) ≡ Some pod) (pods_under basis.key old)
      (Each-passes (λ (pod : Pod). same_key pod.owner basis.key) (pods_in old))
      (Each-filter (λ (pod : Pod). pod_among pod.uid (pods_in old) ≡ Some pod) (λ (pod : Pod). same_key pod.owner basis.key) (pods_in old) (rises-found 0 (pods_in old) (pods_in-rises old))))

  pub own-seen : (job : Job) → Each WasSeen (own_pods job basis.pods)
  own-seen job = Each-filter WasSeen (is_own job) basis.pods all-seen

  seen-under : (pod : Pod) (u : Uid) → pod.uid ≡ u → WasSeen pod → Under (planned basis) basis.key u (pods_in old)
  seen-under pod u uid seen =
      Each-weaker (λ (other : Pod). pod_among other.uid (pods_in old) ≡ Some other) (λ (other : Pod). same_uid other.uid u ≡ true → same_key other.owner basis.key ≡ true)
      (λ other at same. ap (λ (p : Pod). same_key p.owner basis.key) (is other at same) ∙ seen.0) (pods_in old) (rises-found 0 (pods_in old) (pods_in-rises old))
    where
      is : (other : Pod) → pod_among other.uid (pods_in old) ≡ Some other → same_uid other.uid u ≡ true → other ≡ pod
      is other at same = some_is other pod (sym at ∙ ap (λ v. pod_among v (pods_in old)) (same_uid-eq other.uid u same ∙ sym uid) ∙ seen.1)

  -- Each mark is planned.
  planned-mark : (u : Uid) → is_in u (planned basis).marks ≡ true → IsMeant old basis u
  planned-mark u h = record { touched = or_right (frees (planned basis) u) (is_in u (planned basis).marks) h; under = by basis.job refl }
    where
      by : (o : Option Job) → basis.job ≡ o → Under (planned basis) basis.key u (pods_in old)
      by None this = absurd (true≢false (sym h ∙ ap (λ (p : Planned). is_in u p.marks) (sym (planned-here basis None this))))
      by (Some job) this = at (some_in WasSeen (is_to_mark (is_end_decided job (decided_in job basis))) u (own_pods job basis.pods) (own-seen job) (ap (is_in u) (sym (plan-marks basis job this)) ∙ h))
        where
          at : Found WasSeen (is_to_mark (is_end_decided job (decided_in job basis))) u → Under (planned basis) basis.key u (pods_in old)
          at f = seen-under f.pod u f.uid f.has

  planned-release : (u : Uid) → is_in u (planned basis).releases ≡ true → IsMeant old basis u × (frees (planned basis) u ≡ true)
  planned-release u h = (record { touched = or_left (frees (planned basis) u) (is_in u (planned basis).marks) freed; under = at found }, freed)
    where
      freed : frees (planned basis) u ≡ true
      freed = or_left (is_in u (planned basis).releases) (is_let_go_of u (planned basis).let_goes) h

      found : Found WasSeen (is_released basis) u
      found = some_in WasSeen (is_released basis) u basis.pods all-seen (ap (is_in u) (sym (plan-releases basis)) ∙ h)

      at : Found WasSeen (is_released basis) u → Under (planned basis) basis.key u (pods_in old)
      at f = seen-under f.pod u f.uid f.has

  goes-under : Each (λ row. Under (planned basis) basis.key row.0 (pods_in old)) (planned basis).let_goes
  goes-under = by basis.job refl
    where
      by : (o : Option Job) → basis.job ≡ o → Each (λ row. Under (planned basis) basis.key row.0 (pods_in old)) (planned basis).let_goes
      by None this = subst (λ (p : Planned). Each (λ row. Under (planned basis) basis.key row.0 (pods_in old)) p.let_goes) (planned-here basis None this) tt
      by (Some job) this =
          subst (Each (λ row. Under (planned basis) basis.key row.0 (pods_in old))) (sym (plan-let_goes basis job this))
          (Each-weaker (IsSeen (own_pods job basis.pods)) (λ row. Under (planned basis) basis.key row.0 (pods_in old)) at-row _
          (recursion_from_All (IsSeen (own_pods job basis.pods)) _ (goes-seen (own_pods job basis.pods) (is_end_decided job (decided_in job basis)) job (accounted job basis))))
        where
          at-row : (row : Uid × Version) → IsSeen (own_pods job basis.pods) row → Under (planned basis) basis.key row.0 (pods_in old)
          at-row row s =
              seen-under s.pod row.0 (sym (ap (λ (r : Uid × Version). r.0) s.here))
              (All-contains WasSeen (own_pods job basis.pods) s.pod (All-from_recursion WasSeen (own_pods job basis.pods) (own-seen job)) s.among)

  planned-go : Each (λ row. IsMeant old basis row.0) (planned basis).let_goes
  planned-go =
      Each-weaker (λ row. (is_let_go_of row.0 (planned basis).let_goes ≡ true) × Under (planned basis) basis.key row.0 (pods_in old)) (λ row. IsMeant old basis row.0)
      (λ row h. record {
        touched = or_left (frees (planned basis) row.0) (is_in row.0 (planned basis).marks) (or_right (is_in row.0 (planned basis).releases) (is_let_go_of row.0 (planned basis).let_goes) h.0);
        under = h.1;
      }) (planned basis).let_goes
      (Each-both (λ row. is_let_go_of row.0 (planned basis).let_goes ≡ true) (λ row. Under (planned basis) basis.key row.0 (pods_in old)) (planned basis).let_goes (each-listed (planned basis).let_goes) goes-under)

  all-planned : Each (IsPlanned old basis) (asks_of (planned basis))
  all-planned =
      Each-append (IsPlanned old basis) (early_asks (planned basis)) (late_asks (planned basis))
      (Each-append (IsPlanned old basis) (map MakePod (planned basis).creates) (map MarkPod (planned basis).marks ++ map let_go_ask (planned basis).let_goes)
      (Each-map MakePod (IsPlanned old basis) (planned basis).creates (each (λ index. IsPlanned old basis (MakePod index)) (λ index. tt) (planned basis).creates))
      (Each-append (IsPlanned old basis) (map MarkPod (planned basis).marks) (map let_go_ask (planned basis).let_goes)
      (Each-map MarkPod (IsPlanned old basis) (planned basis).marks (each_in (λ u. IsPlanned old basis (MarkPod u)) (planned basis).marks planned-mark))
      (Each-map let_go_ask (IsPlanned old basis) (planned basis).let_goes planned-go)))
      (Each-append (IsPlanned old basis) (first_asks (planned basis).first) (last_asks (planned basis).releases (planned basis).second)
      (first (planned basis).first)
      (Each-append (IsPlanned old basis) (map ReleasePod (planned basis).releases) (second_asks (planned basis).second)
      (Each-map ReleasePod (IsPlanned old basis) (planned basis).releases (each_in (λ u. IsPlanned old basis (ReleasePod u)) (planned basis).releases planned-release))
      (second (planned basis).second)))
    where
      first : (o : Option JobStatus) → Each (IsPlanned old basis) (first_asks o)
      first None = tt
      first (Some status) = (tt, tt)

      second : (o : Option JobStatus) → Each (IsPlanned old basis) (second_asks o)
      second None = tt
      second (Some status) = (tt, tt)

  pub bears-first : Bears old basis (asks_of (planned basis)) old
  bears-first = record {
    after = pods_in old;
    fresh = [];
    parts = sym (append-nil (pods_in old));
    tracks = tracks-itself (planned basis) basis.key (pods_in old);
    done = [];
    creates = sym (creates-plan (planned basis));
    count = refl;
    makes = λ job saw. record { new = tt; owned = tt; restarts = tt; looks = tt; made = omega arith; still = record { current = job; there = sym job-is ∙ saw; is = refl } };
    under = tt;
    apart = tt;
    asked = all-planned;
    jobs = λ k other. refl;
    others = λ u other. refl;
    none = λ none. sym job-is ∙ none;
  }

-- ---- the end

in-rows : (P : Uid → Type 0) (u : Uid) (rows : List (Uid × Version)) → Each (λ row. P row.0) rows → is_let_go_of u rows ≡ true → P u
in-rows P u [] all h = absurd (true≢false (sym h))
in-rows P u (row ∷ rows) all h = by (in-rows P u rows all.1) (same_uid row.0 u) refl h
  where
    by : (is_let_go_of u rows ≡ true → P u) → (b : Bool) → same_uid row.0 u ≡ b → (b || is_let_go_of u rows) ≡ true → P u
    by more true s g = subst P (same_uid-eq row.0 u s) all.0
    by more false s g = more g

-- A pod that is there is what the plan wants.
module _ (basis : Basis) (log : List Entry) (p : HasItsPlan log basis) where
  that : (P : Pod → Type 0) (pod : Pod) → life pod.uid log ≡ Live pod → IsThere P pod.uid log → P pod
  that P pod there h = subst P (some_is h.pod pod (ap living (sym h.there ∙ there))) h.has

  one-done : (pod : Pod) → life pod.uid log ≡ Live pod → IsServed (planned basis) pod
  one-done pod there = record {
    freed = λ h. by (or_cases (is_in pod.uid (planned basis).releases) (is_let_go_of pod.uid (planned basis).let_goes) h);
    marked = λ h. that IsMarked pod there (of-each (λ u. IsThere IsMarked u log) pod.uid (planned basis).marks p.marks h);
  }
    where
      by : (is_in pod.uid (planned basis).releases ≡ true) ⊎ (is_let_go_of pod.uid (planned basis).let_goes ≡ true) → pod.tracked ≡ false
      by (inl h) = not-true pod.tracked (ap is_lost (sym there) ∙ of-each (λ u. is_lost (life u log) ≡ true) pod.uid (planned basis).releases p.releases h)
      by (inr h) = (that IsStopped pod there (in-rows (λ u. IsThere IsStopped u log) pod.uid (planned basis).let_goes p.let_goes h)).untracked

module _ (old log : List Entry) (basis : Basis) (p : HasItsPlan log basis) (h : Bears old basis [] log) where
  abbrev is_under : Key → Pod → Bool
  is_under k pod = same_key pod.owner k

  all-done : Each (IsServed (planned basis)) h.after
  all-done =
      Each-weaker (λ (pod : Pod). life pod.uid log ≡ Live pod) (IsServed (planned basis)) (one-done basis log p) h.after
      (front-each (λ (pod : Pod). life pod.uid log ≡ Live pod) h.after h.fresh (subst (Each (λ (pod : Pod). life pod.uid log ≡ Live pod)) h.parts (pods_in-live log)))

  same-under : (k : Key) (was new : Pod) → IsChangeOf was new → is_under k new ≡ is_under k was
  same-under k was new change = ap (λ q. same_key q k) change.owner

  done-is : h.done ≡ (planned basis).creates
  done-is = sym (append-nil h.done) ∙ sym h.creates

  module _ (job : Job) (saw : basis.job ≡ Some job) where
    m : AreMade old basis.key job h.done h.fresh log
    m = h.makes job saw

    abbrev own-after : List Pod
    own-after = own_pods job (filter (is_under basis.key) h.after)

    parts : own_pods job (pods_under basis.key log) ≡ own_pods job (filter (is_under basis.key) h.after) ++ h.fresh
    parts =
        ap (λ pods. own_pods job (filter (is_under basis.key) pods)) h.parts
        ∙ ap (own_pods job) (filter-append (is_under basis.key) h.after h.fresh)
        ∙ filter-append (is_own job) (filter (is_under basis.key) h.after) (filter (is_under basis.key) h.fresh)
        ∙ ap (λ l. own_pods job (filter (is_under basis.key) h.after) ++ l)
        (ap (own_pods job) (filter_all (is_under basis.key) h.fresh h.under) ∙ filter_all (is_own job) h.fresh m.owned)

    own-is : AllGranted (planned basis) (made_for job.uid old) (own_pods job (pods_under basis.key old)) (own_pods job (pods_under basis.key log))
    own-is = record {
      after = own_pods job (filter (is_under basis.key) h.after);
      fresh = h.fresh;
      parts = parts;
      follow =
          tracks-follow (planned basis) basis.key (own_pods job (pods_under basis.key old)) (own_pods job (filter (is_under basis.key) h.after))
          (Each-filter (IsServed (planned basis)) (is_own job) (filter (is_under basis.key) h.after) (Each-filter (IsServed (planned basis)) (is_under basis.key) h.after all-done))
          (tracks-filter (planned basis) basis.key (is_own job) (λ was new change. ap (λ u. same_uid u job.uid) change.owner_uid) (pods_under basis.key old) (filter (is_under basis.key) h.after)
          (tracks-filter (planned basis) basis.key (is_under basis.key) (same-under basis.key) (pods_in old) h.after h.tracks));
      new = subst (λ indexes. AreNew (made_for job.uid old) indexes h.fresh) done-is m.new;
      rising = rises_filter 0 (is_own job) (pods_under basis.key log) (rises_filter 0 (is_under basis.key) (pods_in log) (pods_in-rises log));
    }

    status-is : m.still.current.status ≡ last_status (planned basis) job.status
    status-is =
        let s = IfSome-at basis.job (λ j. HasStatus log basis j (second_value j basis)) job saw p.status in
        ap (λ (o : Option Job). (unwrap_or o m.still.current).status) (sym m.still.there ∙ s.there) ∙ s.status ∙ sym (last-second job basis saw)

    job-is : m.still.current ≡ at_version m.still.current.version (job_left (planned basis) job)
    job-is =
        (λ i. record m.still.current { version = m.still.current.version; status = status-is i })
        ∙ ap (λ (j : Job). record j { version = m.still.current.version; status = last_status (planned basis) job.status }) m.still.is

    its-all : HasAllFor old basis job log
    unfolding own-is
    its-all = record {
      version = m.still.current.version;
      job_is = m.still.there ∙ ap (λ j. Some j) job-is;
      own = own-is;
      looks = m.looks;
      made = m.made ∙ ap (λ (l : List (Option ℕ)). made_for job.uid old + length l) done-is;
    }

  -- Other keys.
  other-pods : (k : Key) → same_key basis.key k ≡ false → pods_under k log ≡ pods_under k old
  other-pods k other =
      ap (filter (is_under k)) h.parts
      ∙ filter-append (is_under k) h.after h.fresh
      ∙ ap (λ l. filter (is_under k) h.after ++ l)
      (filter_none (is_under k) h.fresh (Each-weaker (λ (pod : Pod). same_key pod.owner basis.key ≡ true) (λ (pod : Pod). is_under k pod ≡ false) (λ pod ours. ap (λ q. same_key q k) (same_key-eq pod.owner basis.key ours) ∙ other) h.fresh h.under))
      ∙ append-nil (filter (is_under k) h.after)
      ∙ tracks-same (planned basis) basis.key (filter (is_under k) (pods_in old)) (filter (is_under k) h.after)
      (Each-weaker (λ (pod : Pod). is_under k pod ≡ true) (λ (pod : Pod). same_key pod.owner basis.key ≡ false)
      (λ pod there. ap (λ q. same_key q basis.key) (same_key-eq pod.owner k there) ∙ same_key-either_way k basis.key ∙ other) (filter (is_under k) (pods_in old)) (Each-passes (is_under k) (pods_in old)))
      (tracks-filter (planned basis) basis.key (is_under k) (same-under k) (pods_in old) h.after h.tracks)

  serves-all : ServesAll old basis log
  serves-all = record {
    after = h.after;
    fresh = h.fresh;
    parts = h.parts;
    served = tracks-served (planned basis) basis.key (pods_in old) h.after all-done h.tracks;
    count = h.count ∙ ap length done-is;
    under = h.under;
    restarts = λ job saw. (h.makes job saw).restarts;
  }

  pub does-all : DoesAll old basis log
  does-all = record { its = its-all; others = record { jobs = h.jobs; pods = other-pods; made = h.others; none = h.none }; all = serves-all }
