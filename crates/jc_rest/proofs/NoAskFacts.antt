-- A plan without requests.
use Rattle.std.proofs.Common.{◌≡◌, true, false, List, [], ◌∷◌, ◌++◌, map, Option, Some, None, refl, ap, true≢false}
use Rattle.jc_sync.specs.Ask.{Ask}
use Rattle.jc_sync.specs.Ask.TheVariants.{MakePod, MarkPod, ReleasePod}
use Rattle.jc_sync.specs.Asks.{asks_of, early_asks, first_asks, last_asks, late_asks, let_go_ask, second_asks}
use Rattle.jc_types.specs.declared.statuses.JobStatus.{JobStatus}
use Rattle.jc_plan.specs.declared.plans.Planned.{Planned}
use Rattle.jc_plan.specs.Finishes.{Idles}

front : {A : Type 0} (xs ys : List A) → xs ++ ys ≡ [] → (xs ≡ []) × (ys ≡ [])
front [] ys e = (refl, e)
front (x ∷ xs) ys e = absurd (true≢false (ap (λ (l : List _). elim l [ [] ↦ false | y ∷ ys ↦ true ]) e))

unmapped : {A B : Type 0} (f : A → B) (xs : List A) → map f xs ≡ [] → xs ≡ []
unmapped f [] e = refl
unmapped f (x ∷ xs) e = absurd (true≢false (ap (λ (l : List _). elim l [ [] ↦ false | y ∷ ys ↦ true ]) e))

none-first : (o : Option JobStatus) → first_asks o ≡ [] → o ≡ None
none-first None e = refl
none-first (Some s) e = absurd (true≢false (ap (λ (l : List Ask). elim l [ [] ↦ false | y ∷ ys ↦ true ]) e))

none-second : (o : Option JobStatus) → second_asks o ≡ [] → o ≡ None
none-second None e = refl
none-second (Some s) e = absurd (true≢false (ap (λ (l : List Ask). elim l [ [] ↦ false | y ∷ ys ↦ true ]) e))

pub asks-empty : (plan : Planned) → asks_of plan ≡ [] → Idles plan × (plan.releases ≡ [])
asks-empty plan e =
    let one = front (early_asks plan) (late_asks plan) e in
    let two = front (map MakePod plan.creates) (map MarkPod plan.marks ++ map let_go_ask plan.let_goes) one.0 in
    let three = front (map MarkPod plan.marks) (map let_go_ask plan.let_goes) two.1 in
    let four = front (first_asks plan.first) (last_asks plan.releases plan.second) one.1 in
    let five = front (map ReleasePod plan.releases) (second_asks plan.second) four.1 in (
      record {
        creates = unmapped MakePod plan.creates two.0;
        marks = unmapped MarkPod plan.marks three.0;
        let_goes = unmapped let_go_ask plan.let_goes three.1;
        first = none-first plan.first four.0;
        second = none-second plan.second five.1;
      },
      unmapped ReleasePod plan.releases five.0,
    )
