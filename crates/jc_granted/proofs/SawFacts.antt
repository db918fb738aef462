-- What a plan asks finds what it asks for, where its sync saw the whole log.
use Rattle.std.proofs.Common.{◌≡◌, ◌⊎◌, inl, inr, Bool, true, false, not, ◌≤◌, nat_le, ◌&&◌, ◌||◌, List, [], ◌∷◌, filter, length, Option, Some, None, is_some, IfSome, refl, sym, ap, ◌∙◌, subst, arith, true≢false}
use Rattle.std.specs.List.{AllByRecursion as Each}
use Rattle.std.specs.Option.{IsSomeAnd, unwrap_or}
use Rattle.std.proofs.lemmas.Bool.{and_parts, both_ways, false_from_ne_true, not-true}
use Rattle.std.proofs.lemmas.List.Elements.{All-contains, All-from_recursion, recursion_from_All}
use Rattle.jc_types.proofs.KeyFacts.{same_uid-eq}
use Rattle.jc_types.proofs.ListFacts.{Each-both, Each-filter, Each-map, Each-passes, Each-weaker, find_passes}
use Rattle.jc_types.specs.Keys.{same_uid}
use Rattle.jc_types.specs.declared.numbers.Uid.{Uid}
use Rattle.jc_types.specs.declared.numbers.Version.{Version}
use Rattle.jc_types.specs.declared.objects.Entry.{Entry}
use Rattle.jc_types.specs.declared.objects.Job.{Job}
use Rattle.jc_types.specs.declared.objects.Pod.{Pod}
use Rattle.jc_types.specs.declared.specifications.Mode.TheVariants.{Indexed}
use Rattle.jc_states.specs.declared.bases.Basis.{Basis}
use Rattle.jc_states.specs.Bases.{is_own, own_pods}
use Rattle.jc_states.specs.Owners.{is_foreign}
use Rattle.jc_states.specs.Pods.{is_active, is_tracked, is_tracked_active}
use Rattle.jc_states.specs.PodLists.{IsRising}
use Rattle.jc_states.specs.UidLists.{Ascends, is_in}
use Rattle.jc_states.proofs.ObjectChangeFacts.{PodStep-itself}
use Rattle.jc_states.proofs.PodListFacts.{pod_among, rises-found}
use Rattle.jc_log.specs.Deeds.{Deed}
use Rattle.jc_log.specs.Log.{Live, job_in, life, upto}
use Rattle.jc_log.specs.Writes.{Stored}
use Rattle.jc_log.proofs.LogFacts.{upto-all}
use Rattle.jc_log.proofs.PlaceFacts.{job_in-entry}
use Rattle.jc_log.proofs.WriteFacts.{Stored-from_legal}
use Rattle.jc_ledger.specs.Tied.{Tied, made_as}
use Rattle.jc_ledger.proofs.DueFacts.{Due as WasDue, seen_ended}
use Rattle.jc_ledger.proofs.DuePods.{IsDue, due_from}
use Rattle.jc_ledger.proofs.FrameFacts.{PodsHaveIndexes-now}
use Rattle.jc_ledger.proofs.MadeFacts.{WasMade, job_in-was_made}
use Rattle.jc_ledger.proofs.OwnFacts.{basis-rises}
use Rattle.jc_ledger.proofs.PutFacts.{ties_of}
use Rattle.jc_ledger.proofs.QuietFacts.{IfSome-at}
use Rattle.jc_ledger.proofs.SeenFacts.{active_alive, saw}
use Rattle.jc_plan.specs.Accounts.{counted_in}
use Rattle.jc_plan.specs.LetGoes.{is_to_mark, let_goes, seen_uids}
use Rattle.jc_plan.specs.SeenPods.{IsSeen}
use Rattle.jc_plan.specs.declared.plans.Planned.{Planned}
use Rattle.jc_plan.specs.Plans.{planned, planned_for}
use Rattle.jc_plan.specs.Releases.{ReleasedPod, is_orphan}
use Rattle.jc_plan.specs.Statuses.{accounted, decided_in, is_end_decided, wants_in}
use Rattle.jc_plan.proofs.ListedFacts.{each_in}
use Rattle.jc_plan.proofs.OneWay.{goes-seen}
use Rattle.jc_plan.proofs.OrderFacts.{let_goes-ascend, marks-ascend, released-seen, releases-ascend}
use Rattle.jc_plan.proofs.PartFacts.{planned-here}
use Rattle.jc_sync.specs.Asks.{asks_of}
use Rattle.jc_sync.specs.Flight.{Flight}
use Rattle.jc_sync.specs.Flights.{Flies, IsSent}
use Rattle.jc_sync.specs.Sends.{sent_first}
use Rattle.jc_granted.specs.Ready.{AreReady, IsThere, JobIsAt, IsActiveAt}
use Rattle.jc_granted.proofs.ApartFacts.{Fit, all-ready}

-- ---- pods as they were seen

-- A pod of these has the UID.
record IsPod (pods : List Pod) (P : Pod → Type 0) (u : Uid) : Type 0 where
  pod : Pod
  found : pod_among u pods ≡ Some pod
  has : P pod

-- So different pods have different UIDs.
differ : (pods : List Pod) (P Q : Pod → Type 0) → ((pod : Pod) → P pod → Q pod → ⊥) → (u v : Uid) → IsPod pods P u → IsPod pods Q v → same_uid u v ≡ false
differ pods P Q never u v p q =
    false_from_ne_true (same_uid u v)
    (λ same. never p.pod p.has (subst Q (ap (λ (o : Option Pod). unwrap_or o p.pod) (sym q.found ∙ ap (λ w. pod_among w pods) (sym (same_uid-eq u v same)) ∙ p.found)) q.has))

-- An own pod that is to be marked.
record IsMarked (job : Job) (target : Bool) (pod : Pod) : Type 0 where
  own : is_own job pod ≡ true
  marked : is_to_mark target pod ≡ true

-- An own pod that is let go.
record IsLetGo (job : Job) (version : Version) (pod : Pod) : Type 0 where
  own : is_own job pod ≡ true
  active : is_tracked_active pod ≡ true
  at : pod.version ≡ version

-- A pod that is released: no own one that is active.
record IsReleased (saw : Option Job) (pod : Pod) : Type 0 where
  tracked : pod.tracked ≡ true
  ended : (job : Job) → saw ≡ Some job → is_own job pod ≡ true → is_active pod ≡ true → ⊥

module _ (job : Job) (basis : Basis) (rising : IsRising basis.pods) where
  abbrev own : List Pod
  own = own_pods job basis.pods

  abbrev target : Bool
  target = is_end_decided job (decided_in job basis)

  own-found : Each (λ pod. (pod_among pod.uid basis.pods ≡ Some pod) × (is_own job pod ≡ true)) own
  own-found =
      Each-both (λ pod. pod_among pod.uid basis.pods ≡ Some pod) (λ pod. is_own job pod ≡ true) own
      (Each-filter (λ pod. pod_among pod.uid basis.pods ≡ Some pod) (is_own job) basis.pods (rises-found 0 basis.pods rising))
      (Each-passes (is_own job) basis.pods)

  marks-seen : Each (IsPod basis.pods (IsMarked job target)) (wants_in job basis).marks
  marks-seen =
      Each-map (λ (pod : Pod). pod.uid) (IsPod basis.pods (IsMarked job target)) (filter (is_to_mark target) own)
      (Each-weaker (λ pod. ((pod_among pod.uid basis.pods ≡ Some pod) × (is_own job pod ≡ true)) × (is_to_mark target pod ≡ true)) (λ pod. IsPod basis.pods (IsMarked job target) pod.uid)
      (λ pod h. record { pod = pod; found = h.0.0; has = record { own = h.0.1; marked = h.1 } }) (filter (is_to_mark target) own)
      (Each-both (λ pod. (pod_among pod.uid basis.pods ≡ Some pod) × (is_own job pod ≡ true)) (λ pod. is_to_mark target pod ≡ true) (filter (is_to_mark target) own)
      (Each-filter (λ pod. (pod_among pod.uid basis.pods ≡ Some pod) × (is_own job pod ≡ true)) (is_to_mark target) own own-found)
      (Each-passes (is_to_mark target) own)))

  goes-found : Each (λ row. IsPod basis.pods (IsLetGo job row.1) row.0) (wants_in job basis).let_goes
  goes-found =
      Each-weaker (IsSeen own) (λ row. IsPod basis.pods (IsLetGo job row.1) row.0) at-row (wants_in job basis).let_goes
      (recursion_from_All (IsSeen own) (wants_in job basis).let_goes (goes-seen own target job (accounted job basis)))
    where
      at-row : (row : Uid × Version) → IsSeen own row → IsPod basis.pods (IsLetGo job row.1) row.0
      at-row row h =
          let at =
          All-contains (λ (p : Pod). (pod_among p.uid basis.pods ≡ Some p) × (is_own job p ≡ true)) own h.pod
          (All-from_recursion (λ (p : Pod). (pod_among p.uid basis.pods ≡ Some p) × (is_own job p ≡ true)) own own-found) h.among in
          record {
            pod = h.pod;
            found = ap (λ (r : Uid × Version). pod_among r.0 basis.pods) h.here ∙ at.0;
            has = record { own = at.1; active = h.active; at = sym (ap (λ (r : Uid × Version). r.1) h.here) };
          }

  -- No pod is marked and let go: where the end of the Job is decided none is let go.
  marked-stay : Each (λ u. Each (λ row. same_uid u row.0 ≡ false) (wants_in job basis).let_goes) (wants_in job basis).marks
  marked-stay =
      Each-weaker (IsPod basis.pods (IsMarked job target)) (λ u. Each (λ row. same_uid u row.0 ≡ false) (wants_in job basis).let_goes)
      (λ u p. by target refl u p goes-found) (wants_in job basis).marks marks-seen
    where
      clash : (a t : Bool) → (a && (false || not t)) ≡ true → (a && t) ≡ true → ⊥
      clash true true m g = true≢false (sym m)
      clash true false m g = true≢false (sym g)
      clash false t m g = true≢false (sym g)

      one : (t : Bool) → t ≡ false → (u : Uid) → IsPod basis.pods (IsMarked job t) u → (row : Uid × Version) → IsPod basis.pods (IsLetGo job row.1) row.0 → same_uid u row.0 ≡ false
      one t isnt u p row q =
          differ basis.pods (IsMarked job t) (IsLetGo job row.1)
          (λ pod m g. clash (is_active pod) (is_tracked pod) (subst (λ b. is_to_mark b pod ≡ true) isnt m.marked) g.active) u row.0 p q

      by : (t : Bool) → target ≡ t → (u : Uid) → IsPod basis.pods (IsMarked job target) u → Each (λ row. IsPod basis.pods (IsLetGo job row.1) row.0) (wants_in job basis).let_goes → Each (λ row. same_uid u row.0 ≡ false) (wants_in job basis).let_goes
      by true is u p g = subst (λ b. Each (λ row. same_uid u row.0 ≡ false) (let_goes b job own (accounted job basis))) (sym is) tt
      by false is u p g = Each-weaker (λ row. IsPod basis.pods (IsLetGo job row.1) row.0) (λ row. same_uid u row.0 ≡ false) (one target is u p) (wants_in job basis).let_goes g

-- ---- a sync that saw the whole log

module _ (deeds : List Deed) (log : List Entry) (flights : List Flight) (flight : Flight) (tied : Tied deeds log flights) (flies : Flies log flight)
    (jobs : flight.basis.jobs_at.0 ≡ length log) (pods : flight.basis.pods_at.0 ≡ length log) (sends : flight.sends ≡ sent_first flight.basis.job) where
  stored : Stored log
  stored = Stored-from_legal log tied.legal

  rising : IsRising flight.basis.pods
  rising = basis-rises log flight.basis flies.basis

  whole : upto flight.basis.pods_at.0 log ≡ log
  whole = upto-all flight.basis.pods_at.0 log (omega (arith, pods))

  pub job-there : (job : Job) → flight.basis.job ≡ Some job → job_in flight.basis.key log ≡ Some job
  job-there job is = ap (job_in flight.basis.key) (sym (upto-all flight.basis.jobs_at.0 log (omega (arith, jobs)))) ∙ sym flies.basis.job ∙ is

  found-itself : (u : Uid) (pod : Pod) → pod_among u flight.basis.pods ≡ Some pod → pod_among pod.uid flight.basis.pods ≡ Some pod
  found-itself u pod found = ap (λ v. pod_among v flight.basis.pods) (same_uid-eq pod.uid u (find_passes (λ (p : Pod). same_uid p.uid u) flight.basis.pods pod found)) ∙ found

  lives : (u : Uid) (pod : Pod) → pod_among u flight.basis.pods ≡ Some pod → life u log ≡ Live pod
  lives u pod found =
      ap (λ v. life v log) (sym (same_uid-eq pod.uid u (find_passes (λ (p : Pod). same_uid p.uid u) flight.basis.pods pod found)))
      ∙ ap (life pod.uid) (sym whole) ∙ (saw log flight.basis pod flies.basis (found-itself u pod found)).stood

  there : (P Q : Pod → Type 0) → ((pod : Pod) → P pod → Q pod) → (u : Uid) → IsPod flight.basis.pods P u → IsThere Q u log
  there P Q weaker u p = record { pod = p.pod; there = lives u p.pod p.found; has = weaker p.pod p.has }

  -- A pod that the Job is to release was not active.
  module _ (job : Job) (this : flight.basis.job ≡ Some job) (pod : Pod) (found : pod_among pod.uid flight.basis.pods ≡ Some pod) (due : IsDue job flight.basis.pods pod) where
    was : WasMade log job
    was = job_in-was_made flight.basis.key log job stored (job-there job this)

    is-made : made_as was.made.uid log ≡ Some was.made
    is-made = ap (λ j. made_as j log) (sym was.step.uid) ∙ was.is_made

    seen-due : WasDue deeds log flight job pod pod was.made
    seen-due = record {
      stored = stored;
      ties = ties_of deeds log flights was.made tied is-made;
      due = due;
      uid = was.step.uid;
      job_step = was.step;
      entry = job_in-entry flight.basis.key log job stored (job-there job this);
      reached = IfSome-at flight.basis.job (λ j. j.version.0 ≤ flight.basis.pods_at.0) job this flies.reached;
      sent = IfSome-at flight.basis.job (λ j. IsSent log flight j) job this flies.sent;
      stood = (saw log flight.basis pod flies.basis found).stood;
      step = PodStep-itself pod;
      numbered =
          subst (λ (o : Option Job). IfSome o (λ made. made.spec.mode ≡ Indexed → is_some pod.index ≡ true))
          (ap (λ j. made_as j log) (same_uid-eq pod.owner_uid job.uid due.own) ∙ was.is_made)
          (PodsHaveIndexes-now log tied.numbered pod.uid pod (lives pod.uid pod found));
    }

    not-active : is_active pod ≡ true → ⊥
    not-active active = seen_ended deeds log flight job pod pod was.made seen-due (active_alive was.made.spec pod active)

  released : (u : Uid) → is_in u (planned flight.basis).releases ≡ true → IsPod flight.basis.pods (IsReleased flight.basis.job) u
  released u h = by (released-seen u flight.basis rising h)
    where
      by : ReleasedPod flight.basis u → IsPod flight.basis.pods (IsReleased flight.basis.job) u
      by r = record { pod = r.seen; found = r.is_seen; has = cause flight.basis.job refl r.cause }
        where
          found : pod_among r.seen.uid flight.basis.pods ≡ Some r.seen
          found = found-itself u r.seen r.is_seen

          uid : r.seen.uid ≡ u
          uid = same_uid-eq r.seen.uid u (find_passes (λ (p : Pod). same_uid p.uid u) flight.basis.pods r.seen r.is_seen)

          due : (job : Job) → is_in u (counted_in job flight.basis.pods).releases ≡ true → IsDue job flight.basis.pods r.seen
          due job counted = due_from job flight.basis.pods r.seen rising found (ap (λ v. is_in v (counted_in job flight.basis.pods).releases) uid ∙ counted)

          foreign : (o : Option Job) → flight.basis.job ≡ o → (is_tracked r.seen && (is_foreign flight.basis.job r.seen && nat_le r.seen.version.0 flight.basis.jobs_at.0)) ≡ true → IsReleased o r.seen
          foreign o is orphan = record {
            tracked = parts.0;
            ended = λ job this own active. both_ways (is_own job r.seen) (not-true (is_own job r.seen) (ap (λ p. is_foreign p r.seen) (sym (is ∙ this)) ∙ (and_parts (is_foreign flight.basis.job r.seen) _ parts.1).0)) own;
          }
            where
              parts : (is_tracked r.seen ≡ true) × ((is_foreign flight.basis.job r.seen && nat_le r.seen.version.0 flight.basis.jobs_at.0) ≡ true)
              parts = and_parts (is_tracked r.seen) (is_foreign flight.basis.job r.seen && nat_le r.seen.version.0 flight.basis.jobs_at.0) orphan

          cause : (o : Option Job) → flight.basis.job ≡ o → IsSomeAnd o (λ job. is_in u (counted_in job flight.basis.pods).releases ≡ true) ⊎ (is_orphan flight.basis r.seen ≡ true) → IsReleased o r.seen
          cause o is (inr orphan) = foreign o is orphan
          cause None is (inl none) = absurd none
          cause (Some job) is (inl counted) = record {
            tracked = (and_parts (is_tracked r.seen) _ (due job counted).ends).0;
            ended = λ other this own. not-active job is r.seen found (due job counted);
          }

  all-released : Each (IsPod flight.basis.pods (IsReleased flight.basis.job)) (planned flight.basis).releases
  all-released = each_in (IsPod flight.basis.pods (IsReleased flight.basis.job)) (planned flight.basis).releases released

  all-tracked : (plan : Planned) → plan ≡ planned flight.basis → Each (λ u. IsThere (λ pod. pod.tracked ≡ true) u log) plan.releases
  all-tracked plan is =
      subst (λ (p : Planned). Each (λ u. IsThere (λ pod. pod.tracked ≡ true) u log) p.releases) (sym is)
      (Each-weaker (IsPod flight.basis.pods (IsReleased flight.basis.job)) (λ u. IsThere (λ pod. pod.tracked ≡ true) u log)
      (there (IsReleased flight.basis.job) (λ pod. pod.tracked ≡ true) (λ pod r. r.tracked)) (planned flight.basis).releases all-released)

  kept-of : (P : Pod → Type 0) → ((pod : Pod) → P pod → IsReleased flight.basis.job pod → ⊥) → (u : Uid) → IsPod flight.basis.pods P u → Each (λ v. same_uid u v ≡ false) (planned flight.basis).releases
  kept-of P never u p =
      Each-weaker (IsPod flight.basis.pods (IsReleased flight.basis.job)) (λ v. same_uid u v ≡ false)
      (λ v q. differ flight.basis.pods P (IsReleased flight.basis.job) never u v p q) (planned flight.basis).releases all-released

  job-at : (job : Job) → flight.basis.job ≡ Some job → JobIsAt log flight.basis flight.sends
  job-at job this = record { job = job; saw = this; current = job; there = job-there job this; uid = refl; at = sym (ap sent_first this) ∙ sym sends }

  fit-of : (o : Option Job) → flight.basis.job ≡ o → planned_for flight.basis o ≡ planned flight.basis → Fit log flight (planned_for flight.basis o)
  fit-of None this is = record {
    creates = tt;
    marks = tt;
    let_goes = tt;
    first = λ status none. absurd (true≢false (sym (ap is_some none)));
    releases = all-tracked (planned_for flight.basis None) is;
    second = λ status none. absurd (true≢false (sym (ap is_some none)));
    marks_ascend = tt;
    let_goes_ascend = tt;
    releases_ascend = subst (λ (p : Planned). Ascends p.releases) (sym is) (releases-ascend flight.basis rising);
    marked_stay = tt;
    marked_kept = tt;
    gone_kept = tt;
  }
  fit-of (Some job) this is = record {
    creates = always (wants_in job flight.basis).creates;
    marks =
        Each-weaker (IsPod flight.basis.pods (IsMarked job (target job flight.basis rising))) (λ u. IsThere (λ pod. is_active pod ≡ true) u log)
        (there (IsMarked job (target job flight.basis rising)) (λ pod. is_active pod ≡ true) (λ pod m. (and_parts (is_active pod) _ m.marked).0)) (wants_in job flight.basis).marks
        (marks-seen job flight.basis rising);
    let_goes =
        Each-weaker (λ row. IsPod flight.basis.pods (IsLetGo job row.1) row.0) (λ row. IsThere (IsActiveAt row.1) row.0 log)
        (λ row. there (IsLetGo job row.1) (IsActiveAt row.1) (λ pod g. record { at = g.at; active = g.active }) row.0) (wants_in job flight.basis).let_goes
        (goes-found job flight.basis rising);
    first = λ status some. job-at job this;
    releases = all-tracked (planned_for flight.basis (Some job)) is;
    second = λ status some. job-at job this;
    marks_ascend = subst (λ (p : Planned). Ascends p.marks) (sym is) (marks-ascend flight.basis rising);
    let_goes_ascend = subst (λ (p : Planned). Ascends (seen_uids p.let_goes)) (sym is) (let_goes-ascend flight.basis rising);
    releases_ascend = subst (λ (p : Planned). Ascends p.releases) (sym is) (releases-ascend flight.basis rising);
    marked_stay = marked-stay job flight.basis rising;
    marked_kept =
        subst (λ (p : Planned). Each (λ u. Each (λ v. same_uid u v ≡ false) p.releases) (wants_in job flight.basis).marks) (sym is)
        (Each-weaker (IsPod flight.basis.pods (IsMarked job (target job flight.basis rising))) (λ u. Each (λ v. same_uid u v ≡ false) (planned flight.basis).releases)
        (kept-of (IsMarked job (target job flight.basis rising)) (λ pod m r. r.ended job this m.own (and_parts (is_active pod) _ m.marked).0)) (wants_in job flight.basis).marks
        (marks-seen job flight.basis rising));
    gone_kept =
        subst (λ (p : Planned). Each (λ row. Each (λ v. same_uid row.0 v ≡ false) p.releases) (wants_in job flight.basis).let_goes) (sym is)
        (Each-weaker (λ row. IsPod flight.basis.pods (IsLetGo job row.1) row.0) (λ row. Each (λ v. same_uid row.0 v ≡ false) (planned flight.basis).releases)
        (λ row. kept-of (IsLetGo job row.1) (λ pod g r. r.ended job this g.own (and_parts (is_active pod) (is_tracked pod) g.active).0) row.0) (wants_in job flight.basis).let_goes
        (goes-found job flight.basis rising));
  }
    where
      always : {X : Type 0} (xs : List X) → Each (λ x. is_some flight.basis.job ≡ true) xs
      always [] = tt
      always (x ∷ xs) = (ap is_some this, always xs)

  pub saw-ready : AreReady log flight (asks_of (planned flight.basis))
  saw-ready = all-ready log flight (planned flight.basis) (subst (Fit log flight) is (fit-of flight.basis.job refl is))
    where
      is : planned_for flight.basis flight.basis.job ≡ planned flight.basis
      is = planned-here flight.basis flight.basis.job refl
