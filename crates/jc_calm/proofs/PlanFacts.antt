-- What a plan asks first: nothing, a request about a pod, or the write of the first status.
use Rattle.std.proofs.Common.{◌≡◌, ℕ, ◌<◌, true, false, List, [], ◌∷◌, ◌++◌, length, map, Option, Some, None, refl, sym, ap, ◌∙◌, arith, true≢false, ◌||◌}
use Rattle.std.proofs.lemmas.Option.{none-some as none_some}
use Rattle.std.specs.List.{list_any}
use Rattle.jc_types.specs.declared.numbers.Uid.{Uid}
use Rattle.jc_types.specs.declared.numbers.Version.{Version}
use Rattle.jc_types.specs.declared.objects.Job.{Job}
use Rattle.jc_types.specs.declared.statuses.JobStatus.{JobStatus}
use Rattle.jc_types.specs.Keys.{same_uid}
use Rattle.jc_types.proofs.KeyFacts.{same_uid-itself}
use Rattle.jc_states.specs.declared.bases.Basis.{Basis}
use Rattle.jc_states.specs.UidLists.{is_in}
use Rattle.jc_plan.specs.declared.plans.Planned.{Planned}
use Rattle.jc_plan.specs.Plans.{planned}
use Rattle.jc_plan.specs.Statuses.{first_value, second_value}
use Rattle.jc_plan.proofs.NextFacts.{changed-none}
use Rattle.jc_plan.proofs.OrderFacts.{due-released}
use Rattle.jc_plan.proofs.PlanFacts.{plan-second}
use Rattle.jc_plan.proofs.ValueFacts.{values-same}
use Rattle.jc_sync.proofs.PlanFacts.{plan-no_first, plan-no_second}
use Rattle.jc_asks.specs.declared.asks.Ask.{Ask}
use Rattle.jc_asks.specs.declared.asks.Ask.TheVariants.{MakePod, MarkPod, WriteFirst, ReleasePod}
use Rattle.jc_asks.specs.Asks.{as_request, asks_of, first_asks, last_asks, let_go_ask, second_asks}
use Rattle.jc_history.specs.Registers.{asks_status}
use Rattle.jc_calm.specs.SettleTurns.{pods_asked}

-- ---- a plan that releases nothing has no second status

empty-of : (uids : List Uid) → ((u : Uid) → is_in u uids ≡ true → ⊥) → uids ≡ []
empty-of [] none = refl
empty-of (u ∷ uids) none = absurd (none u (ap (λ b. b || list_any (λ v. same_uid v u) uids) (same_uid-itself u)))

pub second-none : (basis : Basis) → (planned basis).releases ≡ [] → (planned basis).second ≡ None
second-none basis none = by basis.job refl
  where
    by : (o : Option Job) → basis.job ≡ o → (planned basis).second ≡ None
    by None this = plan-no_second basis this
    by (Some job) this =
        plan-second basis job this
        ∙ changed-none (first_value job basis) (second_value job basis)
        (sym (values-same job basis (empty-of _ (λ u h. true≢false (sym (due-released u job basis this h) ∙ ap (is_in u) none)))))

-- ---- by its parts

-- Nothing is asked before the first status.
pub record IsLate (basis : Basis) : Type 0 where
  pub creates : (planned basis).creates ≡ []
  pub marks : (planned basis).marks ≡ []
  pub let_goes : (planned basis).let_goes ≡ []

pub data AsksFirst (basis : Basis) : Type 0 where
  Nothing : asks_of (planned basis) ≡ [] → (planned basis).first ≡ None → AsksFirst basis
  Pod : (ask : Ask) (left : List Ask) → asks_of (planned basis) ≡ ask ∷ left → asks_status (as_request ask) ≡ false → 0 < pods_asked (planned basis) → AsksFirst basis
  First : (job : Job) (status : JobStatus) → basis.job ≡ Some job → (planned basis).first ≡ Some status → IsLate basis
      → asks_of (planned basis) ≡ WriteFirst ∷ last_asks (planned basis).releases (planned basis).second → AsksFirst basis

pub asks-first : (basis : Basis) → AsksFirst basis
asks-first basis = by plan.creates plan.marks plan.let_goes plan.first plan.releases refl refl refl refl refl
  where
    plan : Planned
    plan = planned basis

    early : List (Option ℕ) → List Uid → List (Uid × Version) → List Ask
    early creates marks let_goes = map MakePod creates ++ (map MarkPod marks ++ map let_go_ask let_goes)

    all : List (Option ℕ) → List Uid → List (Uid × Version) → Option JobStatus → List Uid → List Ask
    all creates marks let_goes first releases = early creates marks let_goes ++ (first_asks first ++ (map ReleasePod releases ++ second_asks plan.second))

    with-job : (status : JobStatus) → plan.first ≡ Some status → IsLate basis → asks_of plan ≡ WriteFirst ∷ last_asks plan.releases plan.second → (o : Option Job) → basis.job ≡ o → AsksFirst basis
    with-job status f none are None this = absurd (none_some status (sym (plan-no_first basis this) ∙ f))
    with-job status f none are (Some job) this = First job status this f none are

    by : (creates : List (Option ℕ)) (marks : List Uid) (let_goes : List (Uid × Version)) (first : Option JobStatus) (releases : List Uid)
        → plan.creates ≡ creates → plan.marks ≡ marks → plan.let_goes ≡ let_goes → plan.first ≡ first → plan.releases ≡ releases → AsksFirst basis
    by (index ∷ more) marks let_goes first releases c m l f r = Pod (MakePod index) _ (λ i. all (c i) (m i) (l i) (f i) (r i)) refl (let n = ap length c in omega (arith, n))
    by [] (u ∷ more) let_goes first releases c m l f r = Pod (MarkPod u) _ (λ i. all (c i) (m i) (l i) (f i) (r i)) refl (let n = ap length m in omega (arith, n))
    by [] [] (row ∷ more) first releases c m l f r = Pod (let_go_ask row) _ (λ i. all (c i) (m i) (l i) (f i) (r i)) refl (let n = ap length l in omega (arith, n))
    by [] [] [] (Some status) releases c m l f r =
        with-job status f (record { creates = c; marks = m; let_goes = l }) (λ i. early (c i) (m i) (l i) ++ (first_asks (f i) ++ last_asks plan.releases plan.second)) basis.job refl
    by [] [] [] None (u ∷ more) c m l f r = Pod (ReleasePod u) _ (λ i. all (c i) (m i) (l i) (f i) (r i)) refl (let n = ap length r in omega (arith, n))
    by [] [] [] None [] c m l f r = Nothing ((λ i. all (c i) (m i) (l i) (f i) (r i)) ∙ ap second_asks (second-none basis r)) f
