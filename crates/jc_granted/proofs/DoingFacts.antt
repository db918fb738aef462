-- What a sync does, request by request, until its plan is done.
use Rattle.std.proofs.Common.{◌≡◌, ◌⊎◌, inl, inr, ℕ, ◌+◌, ◌≤◌, Bool, true, false, cond, List, [], ◌∷◌, ◌++◌, map, length, Option, Some, None, is_some, IfSome, refl, sym, ap, ◌∙◌, subst, arith, true≢false, append_assoc}
use Rattle.std.specs.List.{AllByRecursion as Each}
use Rattle.std.specs.Option.{unwrap_or}
use Rattle.jc_types.proofs.KeyFacts.{same_uid-either_way}
use Rattle.jc_types.proofs.ListFacts.{Each-weaker}
use Rattle.jc_types.specs.Keys.{same_uid}
use Rattle.jc_types.specs.declared.numbers.Uid.{Uid}
use Rattle.jc_types.specs.declared.numbers.Version.{Version}
use Rattle.jc_types.specs.declared.objects.Entry.{Entry}
use Rattle.jc_types.specs.declared.objects.Job.{Job}
use Rattle.jc_types.specs.declared.objects.Pod.{Pod}
use Rattle.jc_types.specs.declared.replies.Answer.{Answer}
use Rattle.jc_types.specs.declared.replies.Answer.TheVariants as answer
use Rattle.jc_types.specs.declared.statuses.JobStatus.{JobStatus}
use Rattle.jc_states.specs.declared.bases.Basis.{Basis}
use Rattle.jc_log.specs.Log.{is_lost, job_in, life, living, made_for, upto}
use Rattle.jc_log.specs.Requests.{grown}
use Rattle.jc_log.specs.Writes.{Stored}
use Rattle.jc_log.proofs.LogFacts.{upto-all, upto-fixed}
use Rattle.jc_log.proofs.WriteFacts.{lost_entry}
use Rattle.jc_ledger.proofs.QuietFacts.{IfSome-of}
use Rattle.jc_plan.specs.Plans.{last_status, planned}
use Rattle.jc_plan.specs.Statuses.{second_value}
use Rattle.jc_plan.specs.declared.plans.Planned.{Planned}
use Rattle.jc_plan.proofs.NextFacts.{last-second}
use Rattle.jc_sync.specs.Ask.{Ask}
use Rattle.jc_sync.specs.Ask.TheVariants.{MakePod, MarkPod, LetPodGo, WriteFirst, ReleasePod, WriteSecond}
use Rattle.jc_sync.specs.Asks.{as_request, asks_after, asks_of, early_asks, first_asks, is_gone, last_asks, late_asks, left_when, let_go_ask, second_asks}
use Rattle.jc_sync.specs.Flight.{Flight}
use Rattle.jc_sync.specs.Flights.{Flies}
use Rattle.jc_sync.specs.SyncPlaces.{IfGoesOn, IsAt}
use Rattle.jc_sync.specs.Steps.{SyncEnd, answered_to, as_answer, end_given, flight_after, next_unless, stepped_at}
use Rattle.jc_sync.proofs.StepFacts.{after_basis}
use Rattle.jc_granted.specs.SyncsDone.{HasItsPlan, HasStatus, IsAmong, IsDoing, IsDoneOrLeft, IsMarked, IsStopped, IsUntracked, makes, status_after}
use Rattle.jc_granted.specs.Granted.{grants}
use Rattle.jc_granted.specs.Ready.{AreReady, IsOther, IsThere, NoneTwice, pod_asked}
use Rattle.jc_granted.proofs.GrantFacts.{Counts, Does, DoesTo, Marks, counts-well, does-well, is-granted}

-- ---- requests among others

among-left : (a : Ask) (b : Bool) (ask : Ask) (left : List Ask) → IsAmong ask left → IsAmong ask (left_when a b left)
among-left (LetPodGo u version) true ask left h = inr h
among-left (LetPodGo u version) false ask left h = h
among-left (MakePod index) b ask left h = h
among-left (MarkPod u) b ask left h = h
among-left WriteFirst b ask left h = h
among-left (ReleasePod u) b ask left h = h
among-left WriteSecond b ask left h = h

among-right : (ask : Ask) (xs ys : List Ask) → IsAmong ask ys → IsAmong ask (xs ++ ys)
among-right ask [] ys h = h
among-right ask (x ∷ xs) ys h = inr (among-right ask xs ys h)

among-front : (ask : Ask) (xs ys : List Ask) → IsAmong ask xs → IsAmong ask (xs ++ ys)
among-front ask [] ys h = absurd h
among-front ask (x ∷ xs) ys (inl e) = inl e
among-front ask (x ∷ xs) ys (inr h) = inr (among-front ask xs ys h)

-- Each of a list is among the requests for it.
each-among : {X : Type 0} (f : X → Ask) (xs : List X) → Each (λ x. IsAmong (f x) (map f xs)) xs
each-among f [] = tt
each-among f (x ∷ xs) = (inl refl, Each-weaker (λ y. IsAmong (f y) (map f xs)) (λ y. IsAmong (f y) (f x ∷ map f xs)) (λ y h. inr h) xs (each-among f xs))

-- What holds of each holds of one that is among them.
each-at : (P : Ask → Type 0) (ask : Ask) (left : List Ask) → IsAmong ask left → Each P left → P ask
each-at P ask [] h all = absurd h
each-at P ask (x ∷ left) (inl is) all = subst P is all.0
each-at P ask (x ∷ left) (inr h) all = each-at P ask left h all.1

-- The mark behind a let-go is about no other pod.
others-left : (u : Uid) (a : Ask) (b : Bool) (left : List Ask) → Each (IsOther u) (a ∷ left) → Each (IsOther u) (left_when a b left)
others-left u (LetPodGo v version) true left all = (all.0, all.1)
others-left u (LetPodGo v version) false left all = all.1
others-left u (MakePod index) b left all = all.1
others-left u (MarkPod v) b left all = all.1
others-left u WriteFirst b left all = all.1
others-left u (ReleasePod v) b left all = all.1
others-left u WriteSecond b left all = all.1

-- ---- a step

module _ (log : List Entry) (basis : Basis) (a : Ask) (left : List Ask) (given : Answer) (e : Entry) (stored : Stored (e ∷ log)) (granted : grants (as_request a) given ≡ true) (apart : NoneTwice (a ∷ left))
    (does : Does log (e ∷ log) a) (counts : (job : Job) → basis.job ≡ Some job → Counts log (e ∷ log) basis (a ∷ left) (asks_after a given left) job) (seen : basis.pods_at.0 ≤ length log) where
  abbrev next : List Ask
  next = asks_after a given left

  still : (ask : Ask) → IsAmong ask left → IsAmong ask next
  still ask h = among-left a (is_gone given) ask left h

  -- Another pod that is there stays.
  there-still : (P : Pod → Type 0) (u : Uid) → IsOther u a → IsThere P u log → IsThere P u (e ∷ log)
  there-still P u other h = record { pod = h.pod; there = does.others u h.pod h.there other; has = h.has }

  -- A request of which another is left is not about its pod.
  apart-from : (u : Uid) → IsAmong (MarkPod u) left → IsOther u a
  apart-from u h = by (pod_asked a) apart.0
    where
      by : (o : Option Uid) → IfSome o (λ v. Each (IsOther v) left) → IfSome o (λ v. same_uid u v ≡ false)
      by None all = tt
      by (Some v) all = same_uid-either_way u v ∙ each-at (IsOther v) (MarkPod u) left h all

  -- What was done stays done.
  done-still : (P : Pod → Type 0) (u : Uid) → IsThere P u log × Each (IsOther u) (a ∷ left) → IsThere P u (e ∷ log) × Each (IsOther u) next
  done-still P u h = (there-still P u h.1.0 h.0, others-left u a (is_gone given) left h.1)

  -- A mark is put.
  others-behind : (u : Uid) → a ≡ MarkPod u → Each (IsOther u) next
  others-behind u is =
      subst (λ x. Each (IsOther u) (asks_after x given left)) (sym is)
      (subst (λ x. IfSome (pod_asked x) (λ v. Each (IsOther v) left)) is apart.0)

  marks-now : (u : Uid) → a ≡ MarkPod u → Marks log (e ∷ log) u
  marks-now u is = subst (DoesTo log (e ∷ log)) is does.own

  one-mark : (u : Uid) → IsDoneOrLeft IsMarked u log (a ∷ left) (MarkPod u) → IsDoneOrLeft IsMarked u (e ∷ log) next (MarkPod u)
  one-mark u (inl done) = inl (done-still IsMarked u done)
  one-mark u (inr (inl is)) =
      let m = marks-now u is in
      inl (record { pod = m.now.pod; there = m.now.there; has = m.now.has.marked }, others-behind u is)
  one-mark u (inr (inr h)) = inr (still (MarkPod u) h)

  -- A let-go, and the mark behind it.
  behind : (u : Uid) (version : Version) → a ≡ LetPodGo u version → IsAmong (MarkPod u) next
  behind u version is = subst (λ x. IsAmong (MarkPod u) (asks_after x given left)) (sym is) (by given (subst (λ x. grants (as_request x) given ≡ true) is granted))
    where
      gone : (g : Answer) → grants (as_request (LetPodGo u version)) g ≡ true → is_gone g ≡ true
      gone (answer.Released v) h = refl
      gone other h = absurd (true≢false (sym h))

      by : (g : Answer) → grants (as_request (LetPodGo u version)) g ≡ true → IsAmong (MarkPod u) (asks_after (LetPodGo u version) g left)
      by g h = subst (λ b. IsAmong (MarkPod u) (cond b (MarkPod u ∷ left) left)) (sym (gone g h)) (inl refl)

  -- A pod that has lost its finalizer is marked.
  stopped : (u : Uid) → a ≡ MarkPod u → IsThere IsUntracked u log → IsThere IsStopped u (e ∷ log)
  stopped u is h =
      let m = marks-now u is in
      record {
        pod = m.now.pod;
        there = m.now.there;
        has = record { marked = m.now.has.marked; untracked = m.now.has.tracked ∙ ap (λ (o : Option Pod). (unwrap_or o m.old).tracked) (ap living (sym m.was ∙ h.there)) ∙ h.has };
      }

  abbrev LetGo : List Entry → List Ask → Uid × Version → Type 0
  LetGo l some row = IsDoneOrLeft IsStopped row.0 l some (LetPodGo row.0 row.1) ⊎ (IsThere IsUntracked row.0 l × IsAmong (MarkPod row.0) some)

  marked-behind : (u : Uid) (version : Version) → IsThere IsUntracked u log → IsAmong (MarkPod u) (a ∷ left) → LetGo (e ∷ log) next (u, version)
  marked-behind u version there (inl is) = inl (inl (stopped u is there, others-behind u is))
  marked-behind u version there (inr h) = inr (there-still IsUntracked u (apart-from u h) there, still (MarkPod u) h)

  one-let_go : (row : Uid × Version) → LetGo log (a ∷ left) row → LetGo (e ∷ log) next row
  one-let_go row (inl (inl done)) = inl (inl (done-still IsStopped row.0 done))
  one-let_go row (inl (inr (inl is))) = inr (subst (DoesTo log (e ∷ log)) is does.own, behind row.0 row.1 is)
  one-let_go row (inl (inr (inr h))) = inl (inr (still (LetPodGo row.0 row.1) h))
  one-let_go row (inr h) = marked-behind row.0 row.1 h.0 h.1

  -- A release.
  one-release : (u : Uid) → (is_lost (life u log) ≡ true) ⊎ IsAmong (ReleasePod u) (a ∷ left) → (is_lost (life u (e ∷ log)) ≡ true) ⊎ IsAmong (ReleasePod u) next
  one-release u (inl done) = inl (lost_entry u e log stored.0 done)
  one-release u (inr (inl is)) = inl (subst (DoesTo log (e ∷ log)) is does.own)
  one-release u (inr (inr h)) = inr (still (ReleasePod u) h)

  pub doing-next : IsDoing log basis (a ∷ left) → IsDoing (e ∷ log) basis next
  doing-next h = record {
    marks =
        Each-weaker (λ u. IsDoneOrLeft IsMarked u log (a ∷ left) (MarkPod u)) (λ u. IsDoneOrLeft IsMarked u (e ∷ log) next (MarkPod u))
        one-mark (planned basis).marks h.marks;
    let_goes = Each-weaker (LetGo log (a ∷ left)) (LetGo (e ∷ log) next) one-let_go (planned basis).let_goes h.let_goes;
    releases =
        Each-weaker (λ u. (is_lost (life u log) ≡ true) ⊎ IsAmong (ReleasePod u) (a ∷ left)) (λ u. (is_lost (life u (e ∷ log)) ≡ true) ⊎ IsAmong (ReleasePod u) next)
        one-release (planned basis).releases h.releases;
    made = λ job saw. (counts job saw).made ∙ h.made job saw ∙ ap (λ l. made_for job.uid l + length (planned basis).creates) (sym (upto-fixed basis.pods_at.0 e log seen));
    status = λ job saw. (counts job saw).status (h.status job saw);
  }

-- ---- the begin

makes-append : (xs ys : List Ask) → makes (xs ++ ys) ≡ makes xs + makes ys
makes-append [] ys = omega arith
makes-append (MakePod index ∷ xs) ys = let ih = makes-append xs ys in omega (arith, ih)
makes-append (MarkPod u ∷ xs) ys = makes-append xs ys
makes-append (LetPodGo u version ∷ xs) ys = makes-append xs ys
makes-append (WriteFirst ∷ xs) ys = makes-append xs ys
makes-append (ReleasePod u ∷ xs) ys = makes-append xs ys
makes-append (WriteSecond ∷ xs) ys = makes-append xs ys

makes-all : (indexes : List (Option ℕ)) → makes (map MakePod indexes) ≡ length indexes
makes-all [] = refl
makes-all (index ∷ indexes) = let ih = makes-all indexes in omega (arith, ih)

-- Requests that are none for a status, and none for a new pod.
module _ {X : Type 0} (f : X → Ask) (plan : Planned) where
  after-none : ((x : X) (left : List Ask) (s : JobStatus) → status_after plan (f x ∷ left) s ≡ status_after plan left s) → (xs : List X) (left : List Ask) (s : JobStatus) → status_after plan (map f xs ++ left) s ≡ status_after plan left s
  after-none none [] left s = refl
  after-none none (x ∷ xs) left s = none x (map f xs ++ left) s ∙ after-none none xs left s

  makes-none : ((x : X) (left : List Ask) → makes (f x ∷ left) ≡ makes left) → (xs : List X) → makes (map f xs) ≡ 0
  makes-none none [] = refl
  makes-none none (x ∷ xs) = none x (map f xs) ∙ makes-none none xs

makes-first : (o : Option JobStatus) → makes (first_asks o) ≡ 0
makes-first None = refl
makes-first (Some status) = refl

makes-second : (o : Option JobStatus) → makes (second_asks o) ≡ 0
makes-second None = refl
makes-second (Some status) = refl

makes-plan : (plan : Planned) → makes (asks_of plan) ≡ length plan.creates
makes-plan plan =
    let a = makes-append (early_asks plan) (late_asks plan) in
    let b = makes-append (map MakePod plan.creates) (map MarkPod plan.marks ++ map let_go_ask plan.let_goes) in
    let c = makes-append (map MarkPod plan.marks) (map let_go_ask plan.let_goes) in
    let d = makes-append (first_asks plan.first) (last_asks plan.releases plan.second) in
    let e = makes-append (map ReleasePod plan.releases) (second_asks plan.second) in
    let f = makes-all plan.creates in
    let g = makes-none MarkPod plan (λ x l. refl) plan.marks in
    let h = makes-none let_go_ask plan (λ x l. refl) plan.let_goes in
    let i = makes-first plan.first in
    let j = makes-none ReleasePod plan (λ x l. refl) plan.releases in
    let k = makes-second plan.second in
    omega (arith, a, b, c, d, e, f, g, h, i, j, k)

after-first : (plan : Planned) (left : List Ask) (s : JobStatus) (o : Option JobStatus) → plan.first ≡ o → status_after plan (first_asks o ++ left) s ≡ status_after plan left (unwrap_or plan.first s)
after-first plan left s None is = ap (λ (p : Option JobStatus). status_after plan left (unwrap_or p s)) (sym is)
after-first plan left s (Some status) is = refl

after-second : (plan : Planned) (s : JobStatus) (o : Option JobStatus) → plan.second ≡ o → status_after plan (second_asks o) s ≡ unwrap_or plan.second s
after-second plan s None is = ap (λ (p : Option JobStatus). unwrap_or p s) (sym is)
after-second plan s (Some status) is = refl

after-early : (plan : Planned) (left : List Ask) (s : JobStatus) → status_after plan (early_asks plan ++ left) s ≡ status_after plan left s
after-early plan left s =
    ap (λ l. status_after plan l s) (append_assoc (map MakePod plan.creates) (map MarkPod plan.marks ++ map let_go_ask plan.let_goes) left)
    ∙ after-none MakePod plan (λ x l t. refl) plan.creates ((map MarkPod plan.marks ++ map let_go_ask plan.let_goes) ++ left) s
    ∙ ap (λ l. status_after plan l s) (append_assoc (map MarkPod plan.marks) (map let_go_ask plan.let_goes) left)
    ∙ after-none MarkPod plan (λ x l t. refl) plan.marks (map let_go_ask plan.let_goes ++ left) s
    ∙ after-none let_go_ask plan (λ x l t. refl) plan.let_goes left s

after-plan : (plan : Planned) (s : JobStatus) → status_after plan (asks_of plan) s ≡ last_status plan s
after-plan plan s =
    after-early plan (late_asks plan) s
    ∙ after-first plan (last_asks plan.releases plan.second) s plan.first refl
    ∙ after-none ReleasePod plan (λ x l t. refl) plan.releases (second_asks plan.second) (unwrap_or plan.first s)
    ∙ after-second plan (unwrap_or plan.first s) plan.second refl

module _ (log : List Entry) (basis : Basis) (whole : length log ≤ basis.pods_at.0) (there : (job : Job) → basis.job ≡ Some job → job_in basis.key log ≡ Some job) where
  plan : Planned
  plan = planned basis

  in-early : (ask : Ask) → IsAmong ask (map MarkPod (planned basis).marks ++ map let_go_ask (planned basis).let_goes) → IsAmong ask (asks_of (planned basis))
  in-early ask h =
      among-front ask (early_asks (planned basis)) (late_asks (planned basis))
      (among-right ask (map MakePod (planned basis).creates) (map MarkPod (planned basis).marks ++ map let_go_ask (planned basis).let_goes) h)

  pub doing-all : IsDoing log basis (asks_of (planned basis))
  doing-all = record {
    marks =
        Each-weaker (λ u. IsAmong (MarkPod u) (map MarkPod (planned basis).marks)) (λ u. IsDoneOrLeft IsMarked u log (asks_of (planned basis)) (MarkPod u))
        (λ u h. inr (in-early (MarkPod u) (among-front (MarkPod u) (map MarkPod (planned basis).marks) (map let_go_ask (planned basis).let_goes) h)))
        (planned basis).marks (each-among MarkPod (planned basis).marks);
    let_goes =
        Each-weaker (λ row. IsAmong (let_go_ask row) (map let_go_ask (planned basis).let_goes))
        (λ row. IsDoneOrLeft IsStopped row.0 log (asks_of (planned basis)) (LetPodGo row.0 row.1) ⊎ (IsThere IsUntracked row.0 log × IsAmong (MarkPod row.0) (asks_of (planned basis))))
        (λ row h. inl (inr (in-early (let_go_ask row) (among-right (let_go_ask row) (map MarkPod (planned basis).marks) (map let_go_ask (planned basis).let_goes) h))))
        (planned basis).let_goes (each-among let_go_ask (planned basis).let_goes);
    releases =
        Each-weaker (λ u. IsAmong (ReleasePod u) (map ReleasePod (planned basis).releases)) (λ u. (is_lost (life u log) ≡ true) ⊎ IsAmong (ReleasePod u) (asks_of (planned basis)))
        (λ u h. inr (among-right (ReleasePod u) (early_asks (planned basis)) (late_asks (planned basis))
        (among-right (ReleasePod u) (first_asks (planned basis).first) (last_asks (planned basis).releases (planned basis).second)
        (among-front (ReleasePod u) (map ReleasePod (planned basis).releases) (second_asks (planned basis).second) h))))
        (planned basis).releases (each-among ReleasePod (planned basis).releases);
    made = λ job saw. (λ i. made_for job.uid (sym (upto-all basis.pods_at.0 log whole) i) + makes-plan (planned basis) i);
    status = λ job saw. record {
      current = job;
      there = there job saw;
      uid = refl;
      comes = after-plan (planned basis) job.status ∙ last-second job basis saw;
    };
  }

-- ---- the end

-- Where nothing is left all is done.
none-left : (P : Pod → Type 0) (u : Uid) (log : List Entry) (ask : Ask) → IsDoneOrLeft P u log [] ask → IsThere P u log
none-left P u log ask (inl done) = done.0
none-left P u log ask (inr h) = absurd h

pub done-all : (log : List Entry) (basis : Basis) → IsDoing log basis [] → HasItsPlan log basis
done-all log basis h = record {
  marks =
      Each-weaker (λ u. IsDoneOrLeft IsMarked u log [] (MarkPod u)) (λ u. IsThere IsMarked u log)
      (λ u. none-left IsMarked u log (MarkPod u)) (planned basis).marks h.marks;
  let_goes =
      Each-weaker (λ row. IsDoneOrLeft IsStopped row.0 log [] (LetPodGo row.0 row.1) ⊎ (IsThere IsUntracked row.0 log × IsAmong (MarkPod row.0) []))
      (λ row. IsThere IsStopped row.0 log) let-gone (planned basis).let_goes h.let_goes;
  releases =
      Each-weaker (λ u. (is_lost (life u log) ≡ true) ⊎ IsAmong (ReleasePod u) []) (λ u. is_lost (life u log) ≡ true)
      released (planned basis).releases h.releases;
  made = IfSome-of basis.job (λ job. made_for job.uid log ≡ made_for job.uid (upto basis.pods_at.0 log) + length (planned basis).creates)
      (λ job saw. let all = h.made job saw in omega (arith, all));
  status = IfSome-of basis.job (λ job. HasStatus log basis job (second_value job basis))
      (λ job saw. let s = h.status job saw in record { current = s.current; there = s.there; uid = s.uid; status = s.comes });
}
  where
    let-gone : (row : Uid × Version) → IsDoneOrLeft IsStopped row.0 log [] (LetPodGo row.0 row.1) ⊎ (IsThere IsUntracked row.0 log × IsAmong (MarkPod row.0) []) → IsThere IsStopped row.0 log
    let-gone row (inl g) = none-left IsStopped row.0 log (LetPodGo row.0 row.1) g
    let-gone row (inr g) = absurd g.1

    released : (u : Uid) → (is_lost (life u log) ≡ true) ⊎ IsAmong (ReleasePod u) [] → is_lost (life u log) ≡ true
    released u (inl done) = done
    released u (inr g) = absurd g

-- ---- a step of the sync

module _ (log : List Entry) (now : ℕ) (flight : Flight) (stored : Stored log) (flies : Flies log flight) (ask : Ask)
    (left : List Ask) (at : IsAt flight (ask ∷ left)) (ready : AreReady log flight (ask ∷ left))
    (seen : flight.basis.pods_at.0 ≤ length log) where
  next-doing : (o : Option Entry) → (answered_to log now flight ask).entry ≡ o → is_some o ≡ true → Stored (grown log o) → IsDoing log flight.basis (ask ∷ left)
      → IsDoing (grown log o) flight.basis (asks_after ask (as_answer (answered_to log now flight ask).reply) left)
  next-doing None is some all h = absurd (true≢false (sym some))
  next-doing (Some e) is some all h =
      doing-next log flight.basis ask left (as_answer (answered_to log now flight ask).reply) e all (is-granted log now flight stored flies ask left at ready).granted ready.apart
      (subst (λ o. Does log (grown log o) ask) is (does-well log now flight stored flies ask left at ready))
      (λ job saw. subst (λ o. Counts log (grown log o) flight.basis (ask ∷ left) (asks_after ask (as_answer (answered_to log now flight ask).reply) left) job) is (counts-well log now flight stored flies ask left at ready job saw))
      seen h

  pub step-doing : Stored (grown log (stepped_at now None log flight (ask ∷ left)).entry) → IsDoing log flight.basis (ask ∷ left)
      → IfGoesOn (stepped_at now None log flight (ask ∷ left)).next (λ s. IsDoing (grown log (stepped_at now None log flight (ask ∷ left)).entry) s.flight.basis s.left)
  step-doing all h = by (end_given ask (as_answer (answered_to log now flight ask).reply))
    where
      given : Answer
      given = as_answer (answered_to log now flight ask).reply

      by : (o : Option SyncEnd) → IfGoesOn (next_unless o (record { flight = flight_after ask given flight; left = asks_after ask given left })) (λ s. IsDoing (grown log (answered_to log now flight ask).entry) s.flight.basis s.left)
      by None =
          subst (λ b. IsDoing (grown log (answered_to log now flight ask).entry) b (asks_after ask given left)) (sym (after_basis ask given flight))
          (next-doing (answered_to log now flight ask).entry refl (is-granted log now flight stored flies ask left at ready).appends all h)
      by (Some end) = tt
