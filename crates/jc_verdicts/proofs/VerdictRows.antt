-- What is kept of a ledger: its rows, and the set of its indexes.
use Rattle.std.proofs.Common.{◌≡◌, ℕ, ◌+◌, ◌-◌, ◌<◌, Bool, true, false, cond, not, ◌&&◌, ◌||◌, List, [], ◌∷◌, ◌++◌, map, filter, find, length, get_or, take, Option, Some, None, is_some, Result, Ok, Err, refl, sym, ap, ◌∙◌, subst, arith}
use Rattle.std.specs.Prelude.{IfOk, Vec, option_and_then, option_map, slice_get}
use Rattle.std.specs.declared.alloc.Global.{Global}
use Rattle.std.specs.List.{cons_option, insert}
use Rattle.std.specs.Option.{option_map_or, option_or}
use Rattle.std.proofs.lemmas.Bool.{both_ways}
use Rattle.std.proofs.lemmas.List.Elements.{filter-append, filter_agree, filter_map-append}
use Rattle.std.proofs.lemmas.List.Folds.{find-append}
use Rattle.std.proofs.lemmas.Option.{slice_get-map}
use Rattle.std.specs.List.Sorted.{IsBinarySearchResult}
use Rattle.std.specs.Ordering.{nat_cmp}
use Rattle.std.specs.Result.{MatchResult}
use Rattle.std.proofs.lemmas.List.{append-nil, map-append, length-map, take_more}
use Rattle.std.proofs.lemmas.List.Sorted.{searched}
use Rattle.std.proofs.lemmas.Result.{MatchResult-weaker}
use Rattle.jc_ranges.specs.Sets.{IsIncreasing, with_member}
use Rattle.jc_ranges.proofs.Order.{non_decreasing, present, absent}
use Rattle.jc_types.specs.declared.limits.TheConstants.{MOST_UNCOUNTED}
use Rattle.jc_types.specs.declared.numbers.Uid.{Uid}
use Rattle.jc_types.specs.declared.objects.Job.{Job}
use Rattle.jc_types.specs.declared.objects.Phase.{Phase}
use Rattle.jc_types.specs.declared.objects.Phase.TheVariants as phase
use Rattle.jc_types.specs.declared.objects.Pod.{Pod}
use Rattle.jc_types.specs.declared.policies.FailurePolicy.{FailurePolicy}
use Rattle.jc_types.specs.declared.specifications.JobSpec.{JobSpec}
use Rattle.jc_types.specs.declared.specifications.Mode.{Mode}
use Rattle.jc_types.specs.Keys.{same_uid}
use Rattle.jc_states.specs.PodLists.{IsRising, RisesFrom}
use Rattle.jc_states.proofs.PodListFacts.{rises_filter}
use Rattle.jc_states.specs.Pods.{is_marked, is_tracked}
use Rattle.jc_states.specs.UidLists.{join}
use Rattle.jc_types.proofs.ListFacts.{filter_same, filter-map}
use Rattle.jc_failpol.specs.declared.outcomes.Outcome.{Outcome}
use Rattle.jc_failpol.specs.declared.outcomes.Outcome.TheVariants.{Alive, Failed, Ignored, Succeeded}
use Rattle.jc_failpol.specs.Outcomes.{counts_marked, failure_of, is_failed, is_ignore, is_succeeded, is_verdict, outcome_of, same_outcome}
use Rattle.jc_failpol.specs.Rules.{action_of}
use Rattle.jc_account.specs.Modes.{indexes_of}
use Rattle.jc_account.specs.Judgements.{first_beyond, is_fit, rows_within}
use Rattle.jc_account.specs.Rooms.{has_room, joins_list, judged_within, takes_room}
use Rattle.jc_account.proofs.RoomFacts.{first_of, room-below}
use Rattle.jc_account.specs.declared.judgements.Judgement.{Judgement as Row}
use Rattle.jc_account.specs.Judged.{has_come_to, is_fresh}
use Rattle.jc_ledger.specs.Ledger.{Record, Ledger, record_of, has_record, is_held, is_success, is_within, fresh, chosen, kept, recorded, judged_as, successes, entered, within}
use Rattle.jc_verdicts.proofs.IndexSets.{join-append}
use Rattle.jc_verdicts.specs.Verdicts.{row_of, row_for, done_by, fresh_row, has_joined_list, is_row_of, is_success_by, new_rows, outcome_in, rows_for, space_by, success_index, success_indexes, waiting, IsCount}

-- ---- the set of indexes

-- Where a search among increasing numbers ends.
pub searched_place : (n : ℕ) (xs ys : List ℕ) (r : Result ℕ ℕ) → ys ≡ xs → IsIncreasing xs → IsBinarySearchResult (λ y. nat_cmp y n) ys r → MatchResult r (λ i. xs ≡ with_member n xs) (λ i. insert xs i n ≡ with_member n xs)
searched_place n xs ys r same s h =
    let found = searched xs n r (subst (λ zs. IsBinarySearchResult (λ y. nat_cmp y n) zs r) same h) (λ i j q k. non_decreasing xs s i j 0 q k) in
    MatchResult-weaker r found (λ i q. present n xs i s q.0 q.1) (λ i q. (absent n xs i q.0 q.1 q.2).1)

-- ---- the rows

-- The rows of records say what the pods were judged.
outcome_is : (u : Uid) (records : List Record) → option_map (λ (r : Record). r.outcome) (record_of u records) ≡ outcome_in (map row_of records) u
outcome_is u [] = refl
outcome_is u (r ∷ records) = by (same_uid r.pod.uid u) (outcome_is u records)
  where
    by : (b : Bool) → option_map (λ (x : Record). x.outcome) (record_of u records) ≡ outcome_in (map row_of records) u
        → option_map (λ (x : Record). x.outcome) (cond b (Some r) (record_of u records)) ≡ option_map (λ (row : Row). row.outcome) (cond b (Some (row_of r)) (find (is_row_of u) (map row_of records)))
    by true ih = refl
    by false ih = ih

-- A pod has a record where a row has its UID.
known_is : (u : Uid) (records : List Record) → has_record records u ≡ is_some (outcome_in (map row_of records) u)
known_is u records = by (record_of u records) ∙ ap is_some (outcome_is u records)
  where
    by : (o : Option Record) → is_some o ≡ is_some (option_map (λ (r : Record). r.outcome) o)
    by None = refl
    by (Some r) = refl

-- A pod joined a list by its record where it did by its row.
held_is : (spec : JobSpec) (records : List Record) (pod : Pod) → is_held spec records pod ≡ has_joined_list spec (outcome_in (map row_of records)) pod
held_is spec records pod =
    ap (λ b. is_tracked pod && b)
    (by (record_of pod.uid records) ∙ ap (λ o. option_map_or (λ outcome. joins_list spec.mode outcome) o false) (outcome_is pod.uid records))
  where
    by : (o : Option Record) → option_map_or (λ (r : Record). joins_list spec.mode r.outcome) o false ≡ option_map_or (λ outcome. joins_list spec.mode outcome) (option_map (λ (r : Record). r.outcome) o) false
    by None = refl
    by (Some r) = refl

-- The pods that a write judges.
pub chosen_is : (job : Job) (records : List Record) (pods : List Pod) → chosen job records pods
    ≡ judged_within job.spec (space_by job.spec (outcome_in (map row_of records)) pods) (waiting job.spec (outcome_in (map row_of records)) pods)
chosen_is job records pods =
    let known = outcome_in (map row_of records) in
    let held = filter_agree (is_held job.spec records) (has_joined_list job.spec known) (held_is job.spec records) pods in
    let unjudged = filter_agree (is_fresh job.spec (has_record records)) (is_fresh job.spec (λ u. is_some (known u)))
    (λ pod. ap (λ b. is_tracked pod && (is_verdict (outcome_of job.spec pod) && not b)) (known_is pod.uid records)) pods in
    ap (λ (ps : List Pod). judged_within job.spec (MOST_UNCOUNTED - length ps) (fresh job records pods)) held
    ∙ ap (judged_within job.spec (space_by job.spec known pods)) unjudged

-- The rows among those of waiting pods for which there is room.
pub fitting_rows : (spec : JobSpec) (n : ℕ) (pods : List Pod) → RisesFrom 0 pods
    → rows_within spec.mode (first_beyond spec.mode n (map (row_for spec) pods)) (map (row_for spec) pods) ≡ map (row_for spec) (judged_within spec n pods)
fitting_rows spec n pods rises =
    ap (λ first. rows_within spec.mode first (map (row_for spec) pods)) first_is
    ∙ filter-map (row_for spec) (λ row. is_fit spec.mode (first_of spec n pods) row.outcome row.uid) pods
    ∙ ap (map (row_for spec))
    (sym
    (filter_same (has_room spec n pods) (λ p. is_fit spec.mode (first_of spec n pods) (outcome_of spec p) p.uid) pods (room-below spec n 0 pods rises)))
  where
    uid_of : (o : Option Pod) → option_map (λ (row : Row). row.uid) (option_map (row_for spec) o) ≡ option_map (λ (pod : Pod). pod.uid) o
    uid_of None = refl
    uid_of (Some pod) = refl

    first_is : first_beyond spec.mode n (map (row_for spec) pods) ≡ first_of spec n pods
    first_is =
        ap (λ rows. option_map (λ (row : Row). row.uid) (slice_get rows n)) (filter-map (row_for spec) (λ row. joins_list spec.mode row.outcome) pods)
        ∙ ap (option_map (λ (row : Row). row.uid)) (slice_get-map (row_for spec) (filter (takes_room spec) pods) n)
        ∙ uid_of (slice_get (filter (takes_room spec) pods) n)

-- The rows of waiting pods and of one more.
pub one-row : (spec : JobSpec) (known : Uid → Option Outcome) (pods : List Pod) (pod : Pod) (rows new : List Row) (o : Option Row) → rows ≡ map (row_for spec) (waiting spec known pods) → o ≡ fresh_row spec known pod → new ≡ rows ++ cons_option o []
    → new ≡ map (row_for spec) (waiting spec known (pods ++ pod ∷ []))
one-row spec known pods pod rows new o are is more =
    more ∙ ap (λ rs. rs ++ cons_option o []) are ∙ ap (λ r. map (row_for spec) (waiting spec known pods) ++ cons_option r []) is
    ∙ ap (λ rs. map (row_for spec) (waiting spec known pods) ++ rs) (by (is_fresh spec (λ u. is_some (known u)) pod))
    ∙ sym (ap (map (row_for spec)) (filter-append (is_fresh spec (λ u. is_some (known u))) pods (pod ∷ [])) ∙ map-append (row_for spec) (waiting spec known pods) (waiting spec known (pod ∷ [])))
  where
    by : (b : Bool) → cons_option (cond b (Some (row_for spec pod)) None) [] ≡ map (row_for spec) (cond b (pod ∷ []) [])
    by true = refl
    by false = refl

-- Where none waits, none is judged.
pub no_rows : (spec : JobSpec) (known : Uid → Option Outcome) (pods : List Pod) (rows : List Row) → rows ≡ map (row_for spec) (waiting spec known pods) → length rows ≡ 0 → rows ≡ rows_for spec known pods
no_rows spec known pods rows are none = by rows (waiting spec known pods) are none
  where
    by : (some : List Row) (left : List Pod) → some ≡ map (row_for spec) left → length some ≡ 0 → some ≡ map (row_for spec) (judged_within spec (space_by spec known pods) left)
    by [] [] e n = refl
    by [] (pod ∷ left) e n = absurd (omega (arith, ap length e))
    by (row ∷ some) left e n = absurd (omega (arith, n))

-- The outcomes by rows and more.
pub outcomes-append : (u : Uid) (rows more : List Row) → outcome_in (rows ++ more) u ≡ option_or (outcome_in rows u) (outcome_in more u)
outcomes-append u rows more = ap (option_map (λ (row : Row). row.outcome)) (find-append (is_row_of u) rows more) ∙ by (find (is_row_of u) rows)
  where
    by : (o : Option Row) → option_map (λ (row : Row). row.outcome) (option_or o (find (is_row_of u) more)) ≡ option_or (option_map (λ (row : Row). row.outcome) o) (outcome_in more u)
    by None = refl
    by (Some row) = refl

-- Where there are no rows more, the rows and the outcomes stay.
pub none-entered : (rows new : List Row) → length new ≡ 0 → rows ≡ rows ++ new
none-entered rows [] none = sym (append-nil rows)
none-entered rows (row ∷ new) none = absurd (omega (arith, none))

pub none-noted : (u : Uid) (old : Option Outcome) (new : List Row) → length new ≡ 0 → old ≡ option_or old (outcome_in new u)
none-noted u None [] none = refl
none-noted u (Some outcome) [] none = refl
none-noted u old (row ∷ new) none = absurd (omega (arith, none))

-- One row more is added.
pub noted_more : (u : Uid) (old mid new : Option Outcome) (rows : List Row) (i : ℕ) (row : Row) → i < length rows → mid ≡ option_or old (outcome_in (take i rows) u) → new ≡ option_or mid (outcome_in (get_or rows i row ∷ []) u)
    → new ≡ option_or old (outcome_in (take (i + 1) rows) u)
noted_more u old mid new rows i row within so_far notes =
    notes ∙ ap (λ o. option_or o (outcome_in (get_or rows i row ∷ []) u)) so_far ∙ by old
    ∙ ap (option_or old) (sym (outcomes-append u (take i rows) (get_or rows i row ∷ [])) ∙ ap (λ rs. outcome_in rs u) (sym (take_more rows i row within)))
  where
    by : (o : Option Outcome) → option_or (option_or o (outcome_in (take i rows) u)) (outcome_in (get_or rows i row ∷ []) u) ≡ option_or o (option_or (outcome_in (take i rows) u) (outcome_in (get_or rows i row ∷ []) u))
    by None = refl
    by (Some x) = refl

-- The rows that a search for the first UID without room leaves.
pub fitting_result : (spec : JobSpec) (known : Uid → Option Outcome) (pods : List Pod) (space : ℕ) (rows others : List Row) (first : Option Uid) → IsRising pods → space ≡ space_by spec known pods
    → rows ≡ map (row_for spec) (waiting spec known pods) → others ≡ map (row_for spec) (waiting spec known pods)
    → first ≡ first_beyond spec.mode space rows → (judged : List Row) → judged ≡ rows_within spec.mode first others → judged ≡ rows_for spec known pods
fitting_result spec known pods space rows others first rises room are same found judged h =
    h ∙ ap (rows_within spec.mode first) same
    ∙ ap (λ f. rows_within spec.mode f (map (row_for spec) (waiting spec known pods))) (found ∙ ap (λ n. first_beyond spec.mode n rows) room ∙ ap (first_beyond spec.mode (space_by spec known pods)) are)
    ∙ fitting_rows spec (space_by spec known pods) (waiting spec known pods) (rises_filter 0 (is_fresh spec (λ u. is_some (known u))) pods rises)

-- The rows of new records.
recorded_rows : (job : Job) (seen at : ℕ) (pods : List Pod) → map row_of (map (recorded job seen at) pods) ≡ map (row_for job.spec) pods
recorded_rows job seen at [] = refl
recorded_rows job seen at (pod ∷ pods) = ap (λ rest. row_for job.spec pod ∷ rest) (recorded_rows job seen at pods)

-- A pod has succeeded where its phase says so.
pub succeeded_is : (spec : JobSpec) (pod : Pod) → same_outcome (outcome_of spec pod) Succeeded ≡ is_succeeded pod.phase
succeeded_is spec pod = by pod.phase
  where
    failed : (f : Option FailurePolicy) → same_outcome (failure_of f pod) Succeeded ≡ false
    failed None = refl
    failed (Some policy) = ignored (is_ignore (action_of policy pod))
      where
        ignored : (b : Bool) → same_outcome (cond b Ignored Failed) Succeeded ≡ false
        ignored true = refl
        ignored false = refl

    other : (b : Bool) → same_outcome (cond b (failure_of spec.failure pod) Alive) Succeeded ≡ false
    other true = failed spec.failure
    other false = refl

    by : (p : Phase) → same_outcome (cond (is_succeeded p) Succeeded (cond (is_failed p || (counts_marked spec.replacement && is_marked pod)) (failure_of spec.failure pod) Alive)) Succeeded ≡ is_succeeded p
    by phase.Pending = other (counts_marked spec.replacement && is_marked pod)
    by phase.Running = other (counts_marked spec.replacement && is_marked pod)
    by phase.Succeeded = refl
    by phase.Failed = failed spec.failure

-- A pod is a success by its record where it is by its row.
success_is : (job : Job) (records : List Record) (pod : Pod) → is_success job records pod ≡ is_success_by job (outcome_in (map row_of records)) pod
success_is job records pod =
    ap (λ b. has_come_to job Succeeded pod && not b)
    (by (record_of pod.uid records) ∙ ap (λ o. option_map_or (λ outcome. same_outcome outcome Failed) o false) (outcome_is pod.uid records))
  where
    by : (o : Option Record) → option_map_or (λ (r : Record). same_outcome r.outcome Failed) o false ≡ option_map_or (λ outcome. same_outcome outcome Failed) (option_map (λ (r : Record). r.outcome) o) false
    by None = refl
    by (Some r) = refl

-- Their indexes that are below the number of completions.
pub indexes_are : (job : Job) (known : Uid → Option Outcome) (pods : List Pod) → within job.spec (indexes_of (filter (is_success_by job known) pods)) ≡ success_indexes job known pods
indexes_are job known [] = refl
indexes_are job known (pod ∷ pods) = by (is_success_by job known pod) pod.index refl (indexes_are job known pods)
  where
    rest : List ℕ
    rest = success_indexes job known pods

    one : (n : ℕ) (w : Bool) → within job.spec (indexes_of (filter (is_success_by job known) pods)) ≡ rest
        → cond w (n ∷ within job.spec (indexes_of (filter (is_success_by job known) pods))) (within job.spec (indexes_of (filter (is_success_by job known) pods))) ≡ cons_option (cond w (Some n) None) rest
    one n true h = ap (λ ns. n ∷ ns) h
    one n false h = h

    index : (o : Option ℕ) → within job.spec (indexes_of (filter (is_success_by job known) pods)) ≡ rest
        → within job.spec (cons_option o (indexes_of (filter (is_success_by job known) pods))) ≡ cons_option (option_and_then (λ n. cond (is_within job.spec n) (Some n) None) o) rest
    index None h = h
    index (Some n) h = one n (is_within job.spec n) h

    by : (b : Bool) (o : Option ℕ) → pod.index ≡ o → within job.spec (indexes_of (filter (is_success_by job known) pods)) ≡ rest
        → within job.spec (indexes_of (cond b (pod ∷ filter (is_success_by job known) pods) (filter (is_success_by job known) pods)))
        ≡ cons_option (cond b (option_and_then (λ n. cond (is_within job.spec n) (Some n) None) pod.index) None) rest
    by true o e h = index pod.index h
    by false o e h = h

-- The indexes that are done.
pub done_is : (job : Job) (records : List Record) (done : List ℕ) (pods : List Pod) → join (kept job done) (within job.spec (indexes_of (successes job records pods))) ≡ done_by job (outcome_in (map row_of records)) done pods
done_is job records done pods =
    ap (λ ps. join (kept job done) (within job.spec (indexes_of ps))) (filter_agree (is_success job records) (is_success_by job (outcome_in (map row_of records))) (success_is job records) pods)
    ∙ ap (join (kept job done)) (indexes_are job (outcome_in (map row_of records)) pods)

-- The indexes of pods are put in, and then that of one more.
pub joined-more : (job : Job) (known : Uid → Option Outcome) (pods : List Pod) (pod : Pod) (set so_far new : List ℕ) → so_far ≡ join set (success_indexes job known pods)
    → new ≡ join so_far (success_indexes job known (pod ∷ [])) → new ≡ join set (success_indexes job known (pods ++ pod ∷ []))
joined-more job known pods pod set so_far new are puts =
    puts ∙ ap (λ ns. join ns (success_indexes job known (pod ∷ []))) are
    ∙ sym (join-append set (success_indexes job known pods) (success_indexes job known (pod ∷ [])))
    ∙ ap (join set) (sym (filter_map-append (success_index job known) pods (pod ∷ [])))

-- What is kept after a write that judges.
pub count_entered : (job : Job) (pods : List Pod) (seen at : ℕ) (ledger : Ledger) (rows rows' : List Row) (done done' : List ℕ) → IsCount rows done ledger → rows' ≡ rows ++ new_rows job.spec rows pods → done' ≡ done_by job (outcome_in rows) done pods
    → IsCount rows' done' (entered job pods seen at ledger)
count_entered job pods seen at ledger rows rows' done done' is more joins = record {
  rows_are =
      more ∙ ap (λ rs. rs ++ new_rows job.spec rs pods) is.rows_are
      ∙ ap (λ ps. map row_of ledger.records ++ map (row_for job.spec) ps) (sym picks)
      ∙ ap (λ rs. map row_of ledger.records ++ rs) (sym (recorded_rows job seen at (chosen job ledger.records pods)))
      ∙ sym (map-append row_of ledger.records (map (recorded job seen at) (chosen job ledger.records pods)));
  done_is =
      joins ∙ ap (λ ds. done_by job (outcome_in rows) ds pods) is.done_is
      ∙ ap (λ rs. done_by job (outcome_in rs) ledger.done pods) is.rows_are
      ∙ sym (done_is job ledger.records ledger.done pods);
}
  where
    picks : chosen job ledger.records pods
        ≡ judged_within job.spec (space_by job.spec (outcome_in (map row_of ledger.records)) pods) (waiting job.spec (outcome_in (map row_of ledger.records)) pods)
    picks = chosen_is job ledger.records pods

-- How many are judged so, by the rows.
pub judged_rows : (outcome : Outcome) (records : List Record) (rows : List Row) → rows ≡ map row_of records → length (filter (λ (row : Row). same_outcome row.outcome outcome) rows) ≡ length (judged_as outcome records)
judged_rows outcome records rows is =
    ap (λ rs. length (filter (λ (row : Row). same_outcome row.outcome outcome) rs)) is
    ∙ ap length (filter-map row_of (λ (row : Row). same_outcome row.outcome outcome) records)
    ∙ length-map (judged_as outcome records) row_of
