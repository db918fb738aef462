-- The requests with their marks are those of the plan, kind by kind.
use Rattle.std.proofs.Common.{◌≡◌, ℕ, zero, suc, Bool, true, false, cond, List, [], ◌∷◌, ◌++◌, length, map, drop, slice_get, Option, Some, None, refl, sym, ap, ◌∙◌, append_assoc}
use Rattle.std.specs.List.{flat_map}
use Rattle.std.specs.Option.{option_to_list}
use Rattle.jc_plan.specs.declared.plans.Planned.{Planned}
use Rattle.jc_types.specs.declared.numbers.Uid.{Uid}
use Rattle.jc_types.specs.declared.numbers.Version.{Version}
use Rattle.jc_types.specs.declared.replies.Answer.{Answer}
use Rattle.jc_types.specs.declared.replies.Request.{Request}
use Rattle.jc_types.specs.declared.statuses.JobStatus.{JobStatus}
use Rattle.jc_states.specs.UidLists.{is_in}
use Rattle.jc_asks.specs.declared.asks.Ask.{Ask}
use Rattle.jc_asks.specs.declared.asks.Ask.TheVariants.{MakePod, MarkPod, LetPodGo, WriteFirst, ReleasePod, WriteSecond}
use Rattle.jc_asks.specs.Asks.{first_asks, let_go_ask, second_asks}
use Rattle.jc_asks.specs.Readings.{gone_in, requests, with_marks}
use Rattle.jc_bounds.specs.RequestKinds.{asks, let_go_asks, next_by_kind}
use Rattle.jc_history.proofs.RequestFacts.{first_of_drop as first-of_drop}

marks-append : (gone : List Uid) (xs ys : List Ask) → with_marks gone (xs ++ ys) ≡ with_marks gone xs ++ with_marks gone ys
marks-append gone [] ys = refl
marks-append gone (MakePod index ∷ xs) ys = ap (λ l. MakePod index ∷ l) (marks-append gone xs ys)
marks-append gone (MarkPod u ∷ xs) ys = ap (λ l. MarkPod u ∷ l) (marks-append gone xs ys)
marks-append gone (LetPodGo u v ∷ xs) ys = by (is_in u gone) (marks-append gone xs ys)
  where
    by : (b : Bool) → with_marks gone (xs ++ ys) ≡ with_marks gone xs ++ with_marks gone ys
        → (LetPodGo u v ∷ cond b (MarkPod u ∷ with_marks gone (xs ++ ys)) (with_marks gone (xs ++ ys))) ≡ (LetPodGo u v ∷ cond b (MarkPod u ∷ with_marks gone xs) (with_marks gone xs)) ++ with_marks gone ys
    by true ih = ap (λ l. LetPodGo u v ∷ MarkPod u ∷ l) ih
    by false ih = ap (λ l. LetPodGo u v ∷ l) ih
marks-append gone (WriteFirst ∷ xs) ys = ap (λ l. WriteFirst ∷ l) (marks-append gone xs ys)
marks-append gone (ReleasePod u ∷ xs) ys = ap (λ l. ReleasePod u ∷ l) (marks-append gone xs ys)
marks-append gone (WriteSecond ∷ xs) ys = ap (λ l. WriteSecond ∷ l) (marks-append gone xs ys)

makes-are : (gone : List Uid) (indexes : List (Option ℕ)) → with_marks gone (map MakePod indexes) ≡ map MakePod indexes
makes-are gone [] = refl
makes-are gone (index ∷ indexes) = ap (λ l. MakePod index ∷ l) (makes-are gone indexes)

marks-are : (gone : List Uid) (uids : List Uid) → with_marks gone (map MarkPod uids) ≡ map MarkPod uids
marks-are gone [] = refl
marks-are gone (u ∷ uids) = ap (λ l. MarkPod u ∷ l) (marks-are gone uids)

releases-are : (gone : List Uid) (uids : List Uid) → with_marks gone (map ReleasePod uids) ≡ map ReleasePod uids
releases-are gone [] = refl
releases-are gone (u ∷ uids) = ap (λ l. ReleasePod u ∷ l) (releases-are gone uids)

firsts-are : (gone : List Uid) (o : Option JobStatus) → with_marks gone (first_asks o) ≡ map (λ status. WriteFirst) (option_to_list o)
firsts-are gone None = refl
firsts-are gone (Some status) = refl

seconds-are : (gone : List Uid) (o : Option JobStatus) → with_marks gone (second_asks o) ≡ map (λ status. WriteSecond) (option_to_list o)
seconds-are gone None = refl
seconds-are gone (Some status) = refl

lets-are : (made : List (Request × Answer)) (rows : List (Uid × Version)) → with_marks (gone_in made) (map let_go_ask rows) ≡ flat_map (let_go_asks made) rows
lets-are made [] = refl
lets-are made (row ∷ rows) = by (is_in row.0 (gone_in made)) (lets-are made rows)
  where
    by : (b : Bool) → with_marks (gone_in made) (map let_go_ask rows) ≡ flat_map (let_go_asks made) rows
        → (LetPodGo row.0 row.1 ∷ cond b (MarkPod row.0 ∷ with_marks (gone_in made) (map let_go_ask rows)) (with_marks (gone_in made) (map let_go_ask rows)))
        ≡ (LetPodGo row.0 row.1 ∷ cond b (MarkPod row.0 ∷ []) []) ++ flat_map (let_go_asks made) rows
    by true ih = ap (λ l. LetPodGo row.0 row.1 ∷ MarkPod row.0 ∷ l) ih
    by false ih = ap (λ l. LetPodGo row.0 row.1 ∷ l) ih

pub requests-are : (plan : Planned) (made : List (Request × Answer)) → requests plan (gone_in made) ≡ asks plan made
requests-are plan made =
    marks-append gone early late
    ∙ (λ i. front i ++ back i)
    ∙ append_assoc (map MakePod plan.creates) _ _
    ∙ ap (λ l. map MakePod plan.creates ++ l) (append_assoc (map MarkPod plan.marks) _ _)
  where
    gone : List Uid
    gone = gone_in made

    early : List Ask
    early = map MakePod plan.creates ++ (map MarkPod plan.marks ++ map let_go_ask plan.let_goes)

    late : List Ask
    late = first_asks plan.first ++ (map ReleasePod plan.releases ++ second_asks plan.second)

    front : with_marks gone early ≡ map MakePod plan.creates ++ (map MarkPod plan.marks ++ flat_map (let_go_asks made) plan.let_goes)
    front =
        marks-append gone (map MakePod plan.creates) _
        ∙ (λ i. makes-are gone plan.creates i ++ marks-append gone (map MarkPod plan.marks) (map let_go_ask plan.let_goes) i)
        ∙ (λ i. map MakePod plan.creates ++ (marks-are gone plan.marks i ++ lets-are made plan.let_goes i))

    back : with_marks gone late ≡ map (λ status. WriteFirst) (option_to_list plan.first) ++ (map ReleasePod plan.releases ++ map (λ status. WriteSecond) (option_to_list plan.second))
    back =
        marks-append gone (first_asks plan.first) _
        ∙ (λ i. firsts-are gone plan.first i ++ marks-append gone (map ReleasePod plan.releases) (second_asks plan.second) i)
        ∙ (λ i. map (λ status. WriteFirst) (option_to_list plan.first) ++ (releases-are gone plan.releases i ++ seconds-are gone plan.second i))

-- What is left begins with the next request.
pub next-is : (plan : Planned) (made : List (Request × Answer)) (ask : Ask) (rest : List Ask) → drop (length made) (requests plan (gone_in made)) ≡ ask ∷ rest → next_by_kind plan made ≡ Some ask
next-is plan made ask rest e = ap (λ l. slice_get l (length made)) (sym (requests-are plan made)) ∙ sym (first-of_drop (length made) _) ∙ ap (λ l. slice_get l 0) e
