-- The pods that a sync releases and lets go, as it saw them.
use Rattle.std.proofs.Common.{◌≡◌, Bool, true, false, cond, ◌||◌, List, [], ◌∷◌, ◌++◌, map, filter, find, Option, Some, None, IfSome, refl, sym, ap, ◌∙◌, subst, true≢false}
use Rattle.std.specs.List.{cons_option, AllByRecursion as Each, Contains}
use Rattle.std.proofs.lemmas.Bool.{and_parts, or_left, or_right}
use Rattle.std.proofs.lemmas.List.{append-nil}
use Rattle.std.proofs.lemmas.List.Elements.{filter_map-append, All-contains, All-contains_itself, All-from_recursion, recursion_from_All}
use Rattle.std.proofs.lemmas.List.Folds.{list_any-append}
use Rattle.jc_types.specs.declared.numbers.Uid.{Uid}
use Rattle.jc_types.specs.declared.numbers.Version.{Version}
use Rattle.jc_types.specs.declared.objects.Job.{Job}
use Rattle.jc_types.specs.declared.objects.Pod.{Pod}
use Rattle.jc_types.specs.declared.statuses.JobStatus.{JobStatus}
use Rattle.jc_states.specs.declared.bases.Basis.{Basis}
use Rattle.jc_states.specs.Bases.{is_own, own_pods}
use Rattle.jc_types.specs.Keys.{same_uid}
use Rattle.jc_states.specs.PodLists.{IsRising}
use Rattle.jc_states.specs.Pods.{is_active, is_tracked}
use Rattle.jc_states.specs.UidLists.{AscendsFrom, is_in}
use Rattle.jc_types.proofs.KeyFacts.{same_uid-itself}
use Rattle.jc_types.proofs.ListFacts.{Each-append, Each-filter, Each-map, Each-weaker, find_each}
use Rattle.jc_states.proofs.PodListFacts.{pod_among, rises-found}
use Rattle.jc_plan.specs.Creations.{IsIndexFor}
use Rattle.jc_plan.specs.SeenPods.{IsSeen}
use Rattle.jc_plan.specs.LetGoes.{seen, seen_uids}
use Rattle.jc_plan.proofs.OneWay.{goes-seen}
use Rattle.jc_plan.specs.declared.plans.Planned.{Planned}
use Rattle.jc_plan.specs.Plans.{planned, planned_for}
use Rattle.jc_plan.specs.Statuses.{accounted, decided_in, is_end_decided, wants_in}
use Rattle.jc_plan.proofs.PartFacts.{planned-here}
use Rattle.jc_plan.proofs.OrderFacts.{let_goes-ascend}
use Rattle.jc_plan.proofs.PlanBounds.{plan-numbered}
use Rattle.jc_plan.proofs.RoomFacts.{unfiltered as Each-unfilter}
use Rattle.jc_asks.specs.declared.asks.Ask.{Ask}
use Rattle.jc_asks.specs.declared.asks.Ask.TheVariants.{MakePod, MarkPod, ReleasePod, WriteSecond}
use Rattle.jc_asks.specs.Asks.{asks_of, early_asks, first_asks, last_asks, late_asks, let_go_ask}
use Rattle.jc_sync.specs.Leftovers.{let_of, lets_of}
use Rattle.jc_sync.specs.SyncPlaces.{SeenActive, IsEarly}

-- ---- lists

-- What is in the middle is in the list.
pub in_middle : (u : Uid) (front rest : List Uid) → is_in u (front ++ u ∷ rest) ≡ true
in_middle u front rest =
    list_any-append (λ v. same_uid v u) front (u ∷ rest)
    ∙ or_right (is_in u front) (same_uid u u || is_in u rest) (or_left (same_uid u u) (is_in u rest) (same_uid-itself u))

-- A pod that is found and own is among the own ones.
pub own_contains : (job : Job) (pods : List Pod) (seen : Pod) → find (λ (p : Pod). same_uid p.uid seen.uid) pods ≡ Some seen → is_own job seen ≡ true → Contains (own_pods job pods) seen
own_contains job pods seen is_seen own =
    find_each (λ p. is_own job p ≡ true → Contains (own_pods job pods) p) (λ p. same_uid p.uid seen.uid) pods seen
    (Each-unfilter (Contains (own_pods job pods)) (is_own job) pods (recursion_from_All (Contains (own_pods job pods)) (own_pods job pods) (All-contains_itself (own_pods job pods))))
    is_seen own

-- ---- before the first status

-- Each pod that is let go was seen active.
goes-active : (job : Job) (basis : Basis) → IsRising basis.pods → Each (λ row. SeenActive basis row.0 row.1) (wants_in job basis).let_goes
goes-active job basis rising =
    Each-weaker (IsSeen own) (λ row. SeenActive basis row.0 row.1) at_row (wants_in job basis).let_goes
    (recursion_from_All (IsSeen own) (wants_in job basis).let_goes (goes-seen own (is_end_decided job (decided_in job basis)) job (accounted job basis)))
  where
    own : List Pod
    own = own_pods job basis.pods

    at_row : (row : Uid × Version) → IsSeen own row → SeenActive basis row.0 row.1
    at_row row seen = record {
      seen = seen.pod;
      is_seen = ap (λ r. find (λ (p : Pod). same_uid p.uid r.0) basis.pods) seen.here
          ∙ All-contains (λ (p : Pod). pod_among p.uid basis.pods ≡ Some p) own seen.pod
          (All-from_recursion (λ (p : Pod). pod_among p.uid basis.pods ≡ Some p) own
          (Each-filter (λ (p : Pod). pod_among p.uid basis.pods ≡ Some p) (is_own job) basis.pods (rises-found 0 basis.pods rising)))
          seen.among;
      uid = sym (ap (λ r. r.0) seen.here);
      active = (and_parts (is_active seen.pod) (is_tracked seen.pod) seen.active).0;
      version = sym (ap (λ r. r.1) seen.here);
    }

-- All that a plan asks before the first status may come there.
pub early_all : (basis : Basis) → IsRising basis.pods → Each (IsEarly basis) (early_asks (planned basis))
early_all basis rising = by basis.job refl
  where
    marks_early : (us : List Uid) → Each (IsEarly basis) (map MarkPod us)
    marks_early [] = tt
    marks_early (u ∷ us) = (tt, marks_early us)

    parts : (plan : Planned) → Each (λ index. IsEarly basis (MakePod index)) plan.creates → Each (λ row. SeenActive basis row.0 row.1) plan.let_goes → Each (IsEarly basis) (early_asks plan)
    parts plan made gone =
        Each-append (IsEarly basis) (map MakePod plan.creates) (map MarkPod plan.marks ++ map let_go_ask plan.let_goes)
        (Each-map MakePod (IsEarly basis) plan.creates made)
        (Each-append (IsEarly basis) (map MarkPod plan.marks) (map let_go_ask plan.let_goes) (marks_early plan.marks)
        (Each-map let_go_ask (IsEarly basis) plan.let_goes gone))

    by : (o : Option Job) → basis.job ≡ o → Each (IsEarly basis) (early_asks (planned basis))
    by None is = subst (λ p. Each (IsEarly basis) (early_asks p)) (planned-here basis None is) (parts (planned_for basis None) tt tt)
    by (Some job) is =
        subst (λ p. Each (IsEarly basis) (early_asks p)) (planned-here basis (Some job) is)
        (parts (planned_for basis (Some job))
        (Each-weaker (IsIndexFor job) (λ index. IsEarly basis (MakePod index))
        (λ index h. subst (λ (o : Option Job). IfSome o (λ j. IsIndexFor j index)) (sym is) h)
        (wants_in job basis).creates (recursion_from_All (IsIndexFor job) (wants_in job basis).creates (plan-numbered job basis)))
        (goes-active job basis rising))

-- ---- the let-goes of a plan

lets-none : {X : Type 0} (f : X → Ask) → ((x : X) → let_of (f x) ≡ None) → (xs : List X) → lets_of (map f xs) ≡ []
lets-none f none [] = refl
lets-none f none (x ∷ xs) = ap (λ o. cons_option o (lets_of (map f xs))) (none x) ∙ lets-none f none xs

lets-seen : (rows : List (Uid × Version)) → lets_of (map let_go_ask rows) ≡ seen_uids rows
lets-seen [] = refl
lets-seen (row ∷ rows) = ap (λ l. row.0 ∷ l) (lets-seen rows)

lets-late : (plan : Planned) → lets_of (late_asks plan) ≡ []
lets-late plan = by plan.first plan.second
  where
    last : (o : Option JobStatus) → lets_of (last_asks plan.releases o) ≡ []
    last None = filter_map-append let_of (map ReleasePod plan.releases) [] ∙ ap (λ l. l ++ []) (lets-none ReleasePod (λ x. refl) plan.releases)
    last (Some s) = filter_map-append let_of (map ReleasePod plan.releases) (WriteSecond ∷ []) ∙ ap (λ l. l ++ []) (lets-none ReleasePod (λ x. refl) plan.releases)

    by : (o s : Option JobStatus) → lets_of (first_asks o ++ last_asks plan.releases s) ≡ []
    by None s = last s
    by (Some f) s = last s

lets-plan : (plan : Planned) → lets_of (asks_of plan) ≡ lets_of (map let_go_ask plan.let_goes)
lets-plan plan =
    filter_map-append let_of (early_asks plan) (late_asks plan)
    ∙ ap (λ l. lets_of (early_asks plan) ++ l) (lets-late plan)
    ∙ append-nil (lets_of (early_asks plan))
    ∙ filter_map-append let_of (map MakePod plan.creates) (map MarkPod plan.marks ++ map let_go_ask plan.let_goes)
    ∙ ap (λ l. l ++ lets_of (map MarkPod plan.marks ++ map let_go_ask plan.let_goes)) (lets-none MakePod (λ x. refl) plan.creates)
    ∙ filter_map-append let_of (map MarkPod plan.marks) (map let_go_ask plan.let_goes)
    ∙ ap (λ l. l ++ lets_of (map let_go_ask plan.let_goes)) (lets-none MarkPod (λ x. refl) plan.marks)

-- They ascend by UID.
pub lets-rise : (basis : Basis) → IsRising basis.pods → AscendsFrom 0 (lets_of (asks_of (planned basis)))
lets-rise basis rising =
    subst (AscendsFrom 0) (sym (lets-plan (planned basis) ∙ lets-seen (planned basis).let_goes)) (let_goes-ascend basis rising)
