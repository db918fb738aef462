-- A ledger has one record of a pod.
use Rattle.std.proofs.Common.{◌≡◌, ℕ, ◌+◌, ◌≤◌, Bool, true, false, cond, not, ◌&&◌, ◌||◌, List, [], ◌∷◌, ◌++◌, map, Option, Some, None, is_some, refl, sym, ap, ◌∙◌, subst, arith, ne_eqb, true≢false}
use Rattle.std.specs.List.{AllByRecursion as Each, IsDistinct}
use Rattle.std.proofs.lemmas.Bool.{and_parts, not-true}
use Rattle.jc_types.specs.declared.numbers.Uid.{Uid}
use Rattle.jc_types.specs.declared.objects.Entry.{Entry}
use Rattle.jc_types.specs.declared.objects.Job.{Job}
use Rattle.jc_types.specs.declared.objects.Pod.{Pod}
use Rattle.jc_log.specs.Deeds.{Deed}
use Rattle.jc_types.specs.Keys.{same_uid}
use Rattle.jc_log.specs.Log.{upto, pods_in, pods_of}
use Rattle.jc_states.specs.PodLists.{RisesFrom}
use Rattle.jc_states.specs.Pods.{is_tracked}
use Rattle.jc_states.specs.UidLists.{is_in, AscendsFrom, uids_of}
use Rattle.jc_types.proofs.ListFacts.{Each-filter, Each-weaker, Each-passes, Each-map}
use Rattle.jc_log.proofs.PodFacts.{pods_in-rises}
use Rattle.jc_states.proofs.PodListFacts.{rises_filter}
use Rattle.jc_states.proofs.UidListFacts.{uids_of-ascends}
use Rattle.jc_failpol.specs.Outcomes.{is_verdict, outcome_of}
use Rattle.jc_account.specs.Judged.{is_fresh}
use Rattle.jc_account.specs.Rooms.{has_room}
use Rattle.jc_ledger.specs.Ledger.{Record, record_of, judged_uids, has_record, space, fresh, chosen, recorded, entered, Judging, judging_of, judged_by, Ledger, ledger_of}

-- ---- lists of UIDs

-- Each of ascending UIDs is from the bound on.
pub ascends_each : (low : ℕ) (uids : List Uid) → AscendsFrom low uids → Each (λ u. low ≤ u.0) uids
ascends_each low [] r = tt
ascends_each low (u ∷ uids) r =
    (r.0, Each-weaker (λ v. u.0 + 1 ≤ v.0) (λ v. low ≤ v.0) (λ v h. omega (arith, h, r.0)) uids (ascends_each (u.0 + 1) uids r.1))

-- Ascending UIDs are distinct.
pub ascends_distinct : (low : ℕ) (uids : List Uid) → AscendsFrom low uids → IsDistinct same_uid uids
unfolding IsDistinct
ascends_distinct low [] r = tt
ascends_distinct low (u ∷ uids) r =
    (Each-weaker (λ v. u.0 + 1 ≤ v.0) (λ v. same_uid u v ≡ false) (λ v h. ne_eqb u.0 v.0 (λ e. omega (arith, e, h))) uids (ascends_each (u.0 + 1) uids r.1), ascends_distinct (u.0 + 1) uids r.1)

-- No UID of the list is u, if u is none of them and of more.
each-append : (u : Uid) (uids more : List Uid) → Each (λ v. same_uid u v ≡ false) uids → Each (λ v. same_uid u v ≡ false) more → Each (λ v. same_uid u v ≡ false) (uids ++ more)
each-append u [] more h g = g
each-append u (v ∷ uids) more h g = (h.0, each-append u uids more h.1 g)

-- A UID that is in no list with this one differs from it.
apart_head : (u v : Uid) (uids : List Uid) → is_in v (u ∷ uids) ≡ false → same_uid u v ≡ false
apart_head u v uids h = by (same_uid u v) h
  where
    by : (b : Bool) → (b || is_in v uids) ≡ false → b ≡ false
    by true g = absurd (true≢false g)
    by false g = refl

-- And is not in the rest.
apart_rest : (u v : Uid) (uids : List Uid) → is_in v (u ∷ uids) ≡ false → is_in v uids ≡ false
apart_rest u v uids h = by (same_uid u v) h
  where
    by : (b : Bool) → (b || is_in v uids) ≡ false → is_in v uids ≡ false
    by true g = absurd (true≢false g)
    by false g = g

-- Distinct UIDs and others that are none of them are distinct.
pub distinct_append : (uids more : List Uid) → IsDistinct same_uid uids → IsDistinct same_uid more → Each (λ v. is_in v uids ≡ false) more → IsDistinct same_uid (uids ++ more)
unfolding IsDistinct
distinct_append [] more d e apart = e
distinct_append (u ∷ uids) more d e apart = (
  each-append u uids more d.0 (Each-weaker (λ v. is_in v (u ∷ uids) ≡ false) (λ v. same_uid u v ≡ false) (λ v h. apart_head u v uids h) more apart),
  distinct_append uids more d.1 e (Each-weaker (λ v. is_in v (u ∷ uids) ≡ false) (λ v. is_in v uids ≡ false) (λ v h. apart_rest u v uids h) more apart),
)

-- ---- records

-- A pod has a record exactly where its UID is among those of the records.
pub is_in-judged : (u : Uid) (records : List Record) → is_in u (judged_uids records) ≡ is_some (record_of u records)
is_in-judged u [] = refl
is_in-judged u (r ∷ records) = by (same_uid r.pod.uid u) (is_in-judged u records)
  where
    by : (b : Bool) → is_in u (judged_uids records) ≡ is_some (record_of u records) → (b || is_in u (judged_uids records)) ≡ is_some (cond b (Some r) (record_of u records))
    by true ih = refl
    by false ih = ih

-- The UIDs of new records are those of their pods.
recorded_uids : (job : Job) (seen at : ℕ) (pods : List Pod) → judged_uids (map (recorded job seen at) pods) ≡ uids_of pods
recorded_uids job seen at [] = refl
recorded_uids job seen at (pod ∷ pods) = ap (λ (l : List Uid). pod.uid ∷ l) (recorded_uids job seen at pods)

-- And come after those of the old ones.
judged_uids-more : (job : Job) (seen at : ℕ) (records : List Record) (pods : List Pod) → judged_uids (records ++ map (recorded job seen at) pods) ≡ judged_uids records ++ uids_of pods
judged_uids-more job seen at [] pods = recorded_uids job seen at pods
judged_uids-more job seen at (r ∷ records) pods = ap (λ (l : List Uid). r.pod.uid ∷ l) (judged_uids-more job seen at records pods)

-- A pod that is still to be judged has no record.
fresh_new : (job : Job) (records : List Record) (pod : Pod) → is_fresh job.spec (has_record records) pod ≡ true → is_in pod.uid (judged_uids records) ≡ false
fresh_new job records pod h =
    let tracked = is_tracked pod in
    let verdict = is_verdict (outcome_of job.spec pod) in
    let new = not (is_some (record_of pod.uid records)) in
    is_in-judged pod.uid records ∙ not-true (is_some (record_of pod.uid records)) (and_parts verdict new (and_parts tracked (verdict && new) h).1).1

-- What a write judges of ascending pods keeps one record of a pod.
distinct_entered : (job : Job) (pods : List Pod) (seen at : ℕ) (ledger : Ledger) → RisesFrom 0 pods → IsDistinct same_uid (judged_uids ledger.records)
    → IsDistinct same_uid (judged_uids (entered job pods seen at ledger).records)
distinct_entered job pods seen at ledger rises d =
    let unjudged = fresh job ledger.records pods in
    let few = chosen job ledger.records pods in
    let picks = has_room job.spec (space job ledger.records pods) unjudged in
    let test = is_fresh job.spec (has_record ledger.records) in
    subst (IsDistinct same_uid) (sym (judged_uids-more job seen at ledger.records few))
    (distinct_append (judged_uids ledger.records) (uids_of few) d
    (ascends_distinct 0 (uids_of few) (uids_of-ascends 0 few (rises_filter 0 picks unjudged (rises_filter 0 test pods rises))))
    (Each-map (λ (pod : Pod). pod.uid) (λ u. is_in u (judged_uids ledger.records) ≡ false) few
    (Each-weaker (λ pod. test pod ≡ true) (λ pod. is_in pod.uid (judged_uids ledger.records) ≡ false) (λ pod h. fresh_new job ledger.records pod h) few
    (Each-filter (λ pod. test pod ≡ true) picks unjudged (Each-passes test pods)))))

-- So does any deed.
distinct_judged : (j : Uid) (log : List Entry) (judging : Option Judging) (ledger : Ledger) → IsDistinct same_uid (judged_uids ledger.records)
    → IsDistinct same_uid (judged_uids (judged_by j log judging ledger).records)
distinct_judged j log None ledger d = d
distinct_judged j log (Some judging) ledger d = by (same_uid judging.job.uid j)
  where
    pods : List Pod
    pods = pods_of j (upto judging.seen log)

    rising : RisesFrom 0 pods
    rising = rises_filter 0 (λ pod. same_uid pod.owner_uid j) (pods_in (upto judging.seen log)) (pods_in-rises (upto judging.seen log))

    by : (b : Bool) → IsDistinct same_uid (judged_uids (cond b (entered judging.job pods judging.seen judging.at ledger) ledger).records)
    by true = distinct_entered judging.job pods judging.seen judging.at ledger rising d
    by false = d

-- In every history a ledger has one record of a pod.
pub ledger_of-distinct : (j : Uid) (deeds : List Deed) (log : List Entry) → IsDistinct same_uid (judged_uids (ledger_of j deeds log).records)
ledger_of-distinct j [] log = ascends_distinct 0 [] tt
ledger_of-distinct j (d ∷ past) log = distinct_judged j log (judging_of d past log) (ledger_of j past log) (ledger_of-distinct j past log)
