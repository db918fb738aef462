-- The requests of a plan find what they ask for and are of different pods, where its parts are so.
use Rattle.std.proofs.Common.{◌≡◌, ℕ, ◌+◌, ◌≤◌, true, false, List, [], ◌∷◌, ◌++◌, map, Option, Some, None, is_some, IfSome, refl, sym, ap, subst, arith}
use Rattle.std.specs.List.{AllByRecursion as Each}
use Rattle.std.proofs.lemmas.Bool.{ne_eqb}
use Rattle.jc_types.proofs.ListFacts.{Each-append, Each-map, Each-weaker}
use Rattle.jc_types.specs.Keys.{same_uid}
use Rattle.jc_types.specs.declared.numbers.Uid.{Uid}
use Rattle.jc_types.specs.declared.objects.Entry.{Entry}
use Rattle.jc_types.specs.declared.statuses.JobStatus.{JobStatus}
use Rattle.jc_states.specs.Pods.{is_active}
use Rattle.jc_states.specs.UidLists.{Ascends, AscendsFrom}
use Rattle.jc_plan.specs.LetGoes.{seen_uids}
use Rattle.jc_plan.specs.declared.plans.Planned.{Planned}
use Rattle.jc_sync.specs.Ask.{Ask}
use Rattle.jc_sync.specs.Ask.TheVariants.{MakePod, MarkPod, ReleasePod}
use Rattle.jc_sync.specs.Asks.{asks_of, early_asks, first_asks, last_asks, late_asks, let_go_ask, second_asks}
use Rattle.jc_sync.specs.Flight.{Flight}
use Rattle.jc_granted.specs.Ready.{NoneTwice, AreReady, IsOther, IsReady, IsThere, JobIsAt, IsActiveAt, pod_asked}

-- ---- requests of different pods

-- None of these requests is about the pod of that one, if it is about one.
abbrev Spares : List Ask → Ask → Type 0
Spares asks ask = IfSome (pod_asked ask) (λ u. Each (IsOther u) asks)

others-append : (xs ys : List Ask) (o : Option Uid) → IfSome o (λ u. Each (IsOther u) xs) → IfSome o (λ u. Each (IsOther u) ys) → IfSome o (λ u. Each (IsOther u) (xs ++ ys))
others-append xs ys None a b = tt
others-append xs ys (Some u) a b = Each-append (IsOther u) xs ys a b

apart-append : (xs ys : List Ask) → NoneTwice xs → NoneTwice ys → Each (Spares ys) xs → NoneTwice (xs ++ ys)
apart-append [] ys a b c = b
apart-append (x ∷ xs) ys a b c = (others-append xs ys (pod_asked x) a.0 c.0, apart-append xs ys a.1 b c.1)

module _ {X : Type 0} (f : X → Ask) where
  -- Requests about no pods.
  module _ (none : (x : X) → pod_asked (f x) ≡ None) where
    spare-all : (asks : List Ask) (x : X) → Spares asks (f x)
    spare-all asks x = subst (λ o. IfSome o (λ u. Each (IsOther u) asks)) (sym (none x)) tt

    all-spare : (asks : List Ask) (xs : List X) → Each (Spares asks) (map f xs)
    all-spare asks [] = tt
    all-spare asks (x ∷ xs) = (spare-all asks x, all-spare asks xs)

    others-none : (u : Uid) (xs : List X) → Each (IsOther u) (map f xs)
    others-none u [] = tt
    others-none u (x ∷ xs) = (subst (λ o. IfSome o (λ v. same_uid u v ≡ false)) (sym (none x)) tt, others-none u xs)

    none-apart : (xs : List X) → NoneTwice (map f xs)
    none-apart [] = tt
    none-apart (x ∷ xs) = (spare-all (map f xs) x, none-apart xs)

  -- Requests about the pods of these UIDs.
  module _ (uid : X → Uid) (one : (x : X) → pod_asked (f x) ≡ Some (uid x)) where
    other-one : (u : Uid) (x : X) → same_uid u (uid x) ≡ false → IsOther u (f x)
    other-one u x other = subst (λ o. IfSome o (λ v. same_uid u v ≡ false)) (sym (one x)) other

    all-others : (u : Uid) (xs : List X) → Each (λ x. same_uid u (uid x) ≡ false) xs → Each (IsOther u) (map f xs)
    all-others u xs h = Each-map f (IsOther u) xs (Each-weaker (λ x. same_uid u (uid x) ≡ false) (λ x. IsOther u (f x)) (other-one u) xs h)

    spare-one : (asks : List Ask) (x : X) → Each (IsOther (uid x)) asks → Spares asks (f x)
    spare-one asks x h = subst (λ o. IfSome o (λ u. Each (IsOther u) asks)) (sym (one x)) h

    all-spared : (asks : List Ask) (xs : List X) → Each (λ x. Each (IsOther (uid x)) asks) xs → Each (Spares asks) (map f xs)
    all-spared asks xs h = Each-map f (Spares asks) xs (Each-weaker (λ x. Each (IsOther (uid x)) asks) (λ x. Spares asks (f x)) (spare-one asks) xs h)

    above : (low : ℕ) (xs : List X) → AscendsFrom low (map uid xs) → Each (λ x. low ≤ (uid x).0) xs
    above low [] h = tt
    above low (x ∷ xs) h = (h.0, Each-weaker (λ y. (uid x).0 + 1 ≤ (uid y).0) (λ y. low ≤ (uid y).0) (λ y more. let less = h.0 in omega (arith, less, more)) xs (above ((uid x).0 + 1) xs h.1))

    ascend-apart : (low : ℕ) (xs : List X) → AscendsFrom low (map uid xs) → NoneTwice (map f xs)
    ascend-apart low [] h = tt
    ascend-apart low (x ∷ xs) h = (
      spare-one (map f xs) x
          (all-others (uid x) xs
          (Each-weaker (λ y. (uid x).0 + 1 ≤ (uid y).0) (λ y. same_uid (uid x) (uid y) ≡ false)
          (λ y more. ne_eqb (uid x).0 (uid y).0 (λ same. omega (arith, more, same))) xs (above ((uid x).0 + 1) xs h.1))),
      ascend-apart ((uid x).0 + 1) xs h.1,
    )

map-itself : (us : List Uid) → map (λ (u : Uid). u) us ≡ us
map-itself [] = refl
map-itself (u ∷ us) = ap (λ l. u ∷ l) (map-itself us)

-- ---- the requests of a plan

module _ (log : List Entry) (flight : Flight) where
  -- The parts of a plan find what they ask for, and are of different pods.
  pub record Fit (plan : Planned) : Type 0 where
    pub creates : Each (λ index. is_some flight.basis.job ≡ true) plan.creates
    pub marks : Each (λ u. IsThere (λ pod. is_active pod ≡ true) u log) plan.marks
    pub let_goes : Each (λ row. IsThere (IsActiveAt row.1) row.0 log) plan.let_goes
    pub first : (status : JobStatus) → plan.first ≡ Some status → JobIsAt log flight.basis flight.sends
    pub releases : Each (λ u. IsThere (λ pod. pod.tracked ≡ true) u log) plan.releases
    pub second : (status : JobStatus) → plan.second ≡ Some status → JobIsAt log flight.basis flight.sends
    pub marks_ascend : Ascends plan.marks
    pub let_goes_ascend : Ascends (seen_uids plan.let_goes)
    pub releases_ascend : Ascends plan.releases
    pub marked_stay : Each (λ u. Each (λ row. same_uid u row.0 ≡ false) plan.let_goes) plan.marks
    pub marked_kept : Each (λ u. Each (λ v. same_uid u v ≡ false) plan.releases) plan.marks
    pub gone_kept : Each (λ row. Each (λ v. same_uid row.0 v ≡ false) plan.releases) plan.let_goes

  abbrev Ready : Ask → Type 0
  Ready ask = IsReady log flight.basis flight.sends ask

  first-ready : (o : Option JobStatus) → ((status : JobStatus) → o ≡ Some status → JobIsAt log flight.basis flight.sends) → Each Ready (first_asks o)
  first-ready None h = tt
  first-ready (Some status) h = (h status refl, tt)

  second-ready : (o : Option JobStatus) → ((status : JobStatus) → o ≡ Some status → JobIsAt log flight.basis flight.sends) → Each Ready (second_asks o)
  second-ready None h = tt
  second-ready (Some status) h = (h status refl, tt)

  first-other : (u : Uid) (o : Option JobStatus) → Each (IsOther u) (first_asks o)
  first-other u None = tt
  first-other u (Some status) = (tt, tt)

  second-other : (u : Uid) (o : Option JobStatus) → Each (IsOther u) (second_asks o)
  second-other u None = tt
  second-other u (Some status) = (tt, tt)

  first-spares : (asks : List Ask) (o : Option JobStatus) → Each (Spares asks) (first_asks o)
  first-spares asks None = tt
  first-spares asks (Some status) = (tt, tt)

  first-apart : (o : Option JobStatus) → NoneTwice (first_asks o)
  first-apart None = tt
  first-apart (Some status) = (tt, tt)

  second-apart : (o : Option JobStatus) → NoneTwice (second_asks o)
  second-apart None = tt
  second-apart (Some status) = (tt, tt)

  late-other : (plan : Planned) (u : Uid) → Each (λ v. same_uid u v ≡ false) plan.releases → Each (IsOther u) (late_asks plan)
  late-other plan u h =
      Each-append (IsOther u) (first_asks plan.first) (last_asks plan.releases plan.second) (first-other u plan.first)
      (Each-append (IsOther u) (map ReleasePod plan.releases) (second_asks plan.second)
      (all-others ReleasePod (λ v. v) (λ v. refl) u plan.releases h) (second-other u plan.second))

  all-apart : (plan : Planned) → Fit plan → NoneTwice (asks_of plan)
  all-apart plan fit =
      apart-append (early_asks plan) (late_asks plan)
      (apart-append (map MakePod plan.creates) pods (none-apart MakePod (λ index. refl) plan.creates)
      (apart-append (map MarkPod plan.marks) (map let_go_ask plan.let_goes)
      (ascend-apart MarkPod (λ u. u) (λ u. refl) 0 plan.marks (subst (λ us. AscendsFrom 0 us) (sym (map-itself plan.marks)) fit.marks_ascend))
      (ascend-apart let_go_ask (λ row. row.0) (λ row. refl) 0 plan.let_goes fit.let_goes_ascend)
      (all-spared MarkPod (λ u. u) (λ u. refl) (map let_go_ask plan.let_goes) plan.marks
      (Each-weaker (λ u. Each (λ row. same_uid u row.0 ≡ false) plan.let_goes) (λ u. Each (IsOther u) (map let_go_ask plan.let_goes))
      (λ u h. all-others let_go_ask (λ row. row.0) (λ row. refl) u plan.let_goes h) plan.marks fit.marked_stay)))
      (all-spare MakePod (λ index. refl) pods plan.creates))
      (apart-append (first_asks plan.first) (last_asks plan.releases plan.second) (first-apart plan.first)
      (apart-append (map ReleasePod plan.releases) (second_asks plan.second)
      (ascend-apart ReleasePod (λ u. u) (λ u. refl) 0 plan.releases (subst (λ us. AscendsFrom 0 us) (sym (map-itself plan.releases)) fit.releases_ascend))
      (second-apart plan.second)
      (all-spared ReleasePod (λ u. u) (λ u. refl) (second_asks plan.second) plan.releases (each-one plan.releases)))
      (first-spares (last_asks plan.releases plan.second) plan.first))
      (Each-append (Spares (late_asks plan)) (map MakePod plan.creates) pods (all-spare MakePod (λ index. refl) (late_asks plan) plan.creates)
      (Each-append (Spares (late_asks plan)) (map MarkPod plan.marks) (map let_go_ask plan.let_goes)
      (all-spared MarkPod (λ u. u) (λ u. refl) (late_asks plan) plan.marks
      (Each-weaker (λ u. Each (λ v. same_uid u v ≡ false) plan.releases) (λ u. Each (IsOther u) (late_asks plan)) (late-other plan) plan.marks fit.marked_kept))
      (all-spared let_go_ask (λ row. row.0) (λ row. refl) (late_asks plan) plan.let_goes
      (Each-weaker (λ row. Each (λ v. same_uid row.0 v ≡ false) plan.releases) (λ row. Each (IsOther row.0) (late_asks plan)) (λ row. late-other plan row.0) plan.let_goes fit.gone_kept))))
    where
      pods : List Ask
      pods = map MarkPod plan.marks ++ map let_go_ask plan.let_goes

      each-one : (us : List Uid) → Each (λ u. Each (IsOther u) (second_asks plan.second)) us
      each-one [] = tt
      each-one (u ∷ us) = (second-other u plan.second, each-one us)

  pub all-ready : (plan : Planned) → Fit plan → AreReady log flight (asks_of plan)
  all-ready plan fit = record {
    each =
        Each-append Ready (early_asks plan) (late_asks plan)
        (Each-append Ready (map MakePod plan.creates) (map MarkPod plan.marks ++ map let_go_ask plan.let_goes) (Each-map MakePod Ready plan.creates fit.creates)
        (Each-append Ready (map MarkPod plan.marks) (map let_go_ask plan.let_goes) (Each-map MarkPod Ready plan.marks fit.marks) (Each-map let_go_ask Ready plan.let_goes fit.let_goes)))
        (Each-append Ready (first_asks plan.first) (last_asks plan.releases plan.second) (first-ready plan.first fit.first)
        (Each-append Ready (map ReleasePod plan.releases) (second_asks plan.second) (Each-map ReleasePod Ready plan.releases fit.releases) (second-ready plan.second fit.second)));
    apart = all-apart plan fit;
  }
