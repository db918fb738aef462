-- What stands in front among ascending pods: those that were judged, and those that a write judges where each joins a list.
use Rattle.std.proofs.Common.{◌≡◌, ℕ, ◌+◌, ◌-◌, ◌<◌, ◌≤◌, zero, suc, Bool, true, false, cond, not, ◌&&◌, ◌||◌, List, [], ◌∷◌, ◌++◌, map, filter, length, take, drop, get_or, Option, Some, None, option_map, is_some, refl, sym, ap, ◌∙◌, arith}
use Rattle.std.proofs.lemmas.Bool.{ne_eqb}
use Rattle.std.specs.List.{cons_option, slice_get}
use Rattle.std.specs.Option.{option_map_or, option_or}
use Rattle.std.proofs.lemmas.List.{append-nil, length-append, length-map, map-append, take-map, take-append-drop, take_all, take-take}
use Rattle.std.proofs.lemmas.List.Elements.{filter-append}
use Rattle.std.proofs.Math.Seq.{take-append_seam}
use Rattle.jc_types.specs.declared.limits.TheConstants.{MOST_UNCOUNTED}
use Rattle.jc_types.specs.declared.numbers.Uid.{Uid}
use Rattle.jc_types.specs.declared.objects.Pod.{Pod}
use Rattle.jc_types.specs.declared.specifications.JobSpec.{JobSpec}
use Rattle.jc_types.specs.declared.specifications.Mode.TheVariants.{NonIndexed}
use Rattle.jc_types.proofs.ListFacts.{Each-weaker, filter_all, filter_none, filter_same}
use Rattle.jc_states.specs.PodLists.{IsRising, RisesFrom}
use Rattle.jc_states.specs.Pods.{is_tracked}
use Rattle.jc_states.proofs.PodListFacts.{length-filter-le, rises-each, rises_filter}
use Rattle.jc_failpol.specs.declared.outcomes.Outcome.{Outcome}
use Rattle.jc_failpol.specs.Outcomes.{outcome_of}
use Rattle.jc_account.specs.declared.judgements.Judgement.{Judgement as Row}
use Rattle.jc_account.specs.Judged.{is_fresh}
use Rattle.jc_account.specs.Judgements.{has_room_for, is_fit}
use Rattle.jc_account.specs.Rooms.{has_room, joins_list, judged_within, takes_room}
use Rattle.jc_account.proofs.ListedFacts.{each}
use Rattle.jc_account.proofs.RoomFacts.{before-all, first-preceded, first_of, room-below}
use Rattle.jc_verdicts.specs.Verdicts.{EndsAt, has_joined_list, outcome_in, row_for, rows_for, space_by, waiting}

-- ---- the first of ascending pods

-- Those below the one at a place are those in front of it.
first-few : (low n : ℕ) (xs : List Pod) → RisesFrom low xs → filter (λ p. has_room_for (option_map (λ (q : Pod). q.uid) (slice_get xs n)) p.uid) xs ≡ take n xs
first-few low zero [] r = refl
first-few low (suc n) [] r = refl
first-few low zero (x ∷ xs) r = first-preceded x xs r.1
first-few low (suc n) (x ∷ xs) r =
    ap (λ b. cond b (x ∷ filter (λ p. has_room_for (option_map (λ (q : Pod). q.uid) (slice_get xs n)) p.uid) xs) (filter (λ p. has_room_for (option_map (λ (q : Pod). q.uid) (slice_get xs n)) p.uid) xs))
    (before-all x.uid (x.uid.0 + 1) n xs (omega arith) r.1)
    ∙ ap (λ rest. x ∷ rest) (first-few (x.uid.0 + 1) n xs r.1)

-- Where each joins a list, the first of ascending pods are judged.
pub front-judged : (spec : JobSpec) (n low : ℕ) (pods : List Pod) → spec.mode ≡ NonIndexed → RisesFrom low pods → judged_within spec n pods ≡ take n pods
front-judged spec n low pods mode r =
    filter_same (has_room spec n pods) (λ p. is_fit spec.mode (first_of spec n pods) (outcome_of spec p) p.uid) pods (room-below spec n low pods r)
    ∙ filter_same (λ p. is_fit spec.mode (first_of spec n pods) (outcome_of spec p) p.uid) (λ p. has_room_for (option_map (λ (q : Pod). q.uid) (slice_get pods n)) p.uid) pods
    (each (λ p. is_fit spec.mode (first_of spec n pods) (outcome_of spec p) p.uid ≡ has_room_for (option_map (λ (q : Pod). q.uid) (slice_get pods n)) p.uid) fits pods)
    ∙ first-few low n pods r
  where
    joins : (p : Pod) → takes_room spec p ≡ true
    joins p = ap (λ m. joins_list m (outcome_of spec p)) mode

    all : filter (takes_room spec) pods ≡ pods
    all = filter_all (takes_room spec) pods (each (λ p. takes_room spec p ≡ true) joins pods)

    fits : (p : Pod) → is_fit spec.mode (first_of spec n pods) (outcome_of spec p) p.uid ≡ has_room_for (option_map (λ (q : Pod). q.uid) (slice_get pods n)) p.uid
    fits p =
        ap (λ b. not b || has_room_for (first_of spec n pods) p.uid) (joins p)
        ∙ ap (λ ps. has_room_for (option_map (λ (q : Pod). q.uid) (slice_get ps n)) p.uid) all

-- So their rows are the first of all rows.
pub front-rows : (spec : JobSpec) (known : Uid → Option Outcome) (pods : List Pod) (n : ℕ) (rows : List Row) → spec.mode ≡ NonIndexed → IsRising pods → n ≡ space_by spec known pods
    → rows ≡ take n (map (row_for spec) (waiting spec known pods)) → rows ≡ rows_for spec known pods
front-rows spec known pods n rows mode rises room are =
    are ∙ take-map (row_for spec) n (waiting spec known pods)
    ∙ ap (map (row_for spec)) (sym (front-judged spec n 0 (waiting spec known pods) mode (rises_filter 0 (is_fresh spec (λ u. is_some (known u))) pods rises)))
    ∙ ap (λ m. map (row_for spec) (judged_within spec m (waiting spec known pods))) room

-- Where each joins a list, the first of the rows for which there is room are those that are judged, also among no more rows than the lists hold.
pub front-short : (spec : JobSpec) (known : Uid → Option Outcome) (pods : List Pod) (n : ℕ) (rows judged : List Row) → spec.mode ≡ NonIndexed → IsRising pods → n ≡ space_by spec known pods
    → rows ≡ take MOST_UNCOUNTED (map (row_for spec) (waiting spec known pods)) → judged ≡ take n rows → judged ≡ rows_for spec known pods
front-short spec known pods n rows judged mode rises room are first =
    front-rows spec known pods n judged mode rises room
    (first ∙ ap (take n) are ∙ take-take n MOST_UNCOUNTED (map (row_for spec) (waiting spec known pods)) (omega (arith, room)))

-- So it is where there are none.
pub front-none : (spec : JobSpec) (known : Uid → Option Outcome) (pods : List Pod) (rows : List Row) → spec.mode ≡ NonIndexed → IsRising pods
    → rows ≡ take MOST_UNCOUNTED (map (row_for spec) (waiting spec known pods)) → length rows ≡ 0 → rows ≡ rows_for spec known pods
front-none spec known pods rows mode rises are none =
    front-short spec known pods (space_by spec known pods) rows rows mode rises refl are (by (space_by spec known pods) rows none)
  where
    by : (n : ℕ) (some : List Row) → length some ≡ 0 → some ≡ take n some
    by zero [] e = refl
    by (suc n) [] e = refl
    by n (row ∷ some) e = absurd (omega (arith, e))

-- ---- rows of the first pods

-- Rows of pods in front, as many as there may be, are the first of the rows of all.
pub rows-full : (spec : JobSpec) (known : Uid → Option Outcome) (pods : List Pod) (i most : ℕ) (rows : List Row) → rows ≡ map (row_for spec) (waiting spec known (take i pods)) → length rows ≡ most
    → rows ≡ take most (map (row_for spec) (waiting spec known pods))
rows-full spec known pods i most rows are full =
    sym (take-append_seam rows (map (row_for spec) (waiting spec known (drop i pods))))
    ∙ ap (λ n. take n (rows ++ map (row_for spec) (waiting spec known (drop i pods)))) full
    ∙ ap (take most) (whole ∙ ap (λ ps. map (row_for spec) (waiting spec known ps)) (take-append-drop i pods))
  where
    whole : rows ++ map (row_for spec) (waiting spec known (drop i pods)) ≡ map (row_for spec) (waiting spec known (take i pods ++ drop i pods))
    whole =
        ap (λ rs. rs ++ map (row_for spec) (waiting spec known (drop i pods))) are
        ∙ sym (map-append (row_for spec) (waiting spec known (take i pods)) (waiting spec known (drop i pods)))
        ∙ ap (map (row_for spec)) (sym (filter-append (is_fresh spec (λ u. is_some (known u))) (take i pods) (drop i pods)))

-- ---- those that were judged

module _ (spec : JobSpec) (known : Uid → Option Outcome) (last : Uid) (ends : EndsAt last known) where
  -- Of a greater UID none joined a list.
  none_joined : (pod : Pod) → last.0 + 1 ≤ pod.uid.0 → has_joined_list spec known pod ≡ false
  none_joined pod above = ap (λ o. is_tracked pod && option_map_or (λ outcome. joins_list spec.mode outcome) o false) (ends pod.uid (omega (arith, above))) ∙ by (is_tracked pod)
    where
      by : (b : Bool) → (b && false) ≡ false
      by true = refl
      by false = refl

  -- So it is of all that follow one.
  joined-front : (i low : ℕ) (pods : List Pod) (pod : Pod) → RisesFrom low pods → i < length pods → last.0 < (get_or pods i pod).uid.0
      → filter (has_joined_list spec known) (take i pods) ≡ filter (has_joined_list spec known) pods
  joined-front i low [] pod r within above = absurd (omega (arith, within))
  joined-front zero low (q ∷ pods) pod r within above =
      sym
      (filter_none (has_joined_list spec known) (q ∷ pods)
      (Each-weaker (λ p. last.0 + 1 ≤ p.uid.0) (λ p. has_joined_list spec known p ≡ false) none_joined (q ∷ pods)
      (rises-each (last.0 + 1) (q ∷ pods) (omega (arith, above), r.1))))
  joined-front (suc i) low (q ∷ pods) pod r within above =
      ap (λ ps. cond (has_joined_list spec known q) (q ∷ ps) ps) (joined-front i (q.uid.0 + 1) pods pod r.1 (omega (arith, within)) above)

  pub space-front : (i : ℕ) (pods : List Pod) (pod : Pod) → IsRising pods → i < length pods → last.0 < (get_or pods i pod).uid.0 → space_by spec known (take i pods) ≡ space_by spec known pods
  space-front i pods pod r within above = ap (λ (ps : List Pod). MOST_UNCOUNTED - length ps) (joined-front i 0 pods pod r within above)

-- One more is judged.
pub ends-more : (row : Row) (last new : Uid) (known more : Uid → Option Outcome) → EndsAt last known → last.0 ≤ new.0 → row.uid.0 ≤ new.0
    → ((u : Uid) → more u ≡ option_or (known u) (outcome_in (row ∷ []) u)) → EndsAt new more
ends-more row last new known more ends low high notes u above =
    notes u ∙ ap (λ o. option_or o (outcome_in (row ∷ []) u)) (ends u (omega (arith, low, above)))
    ∙ ap (λ b. option_map (λ (r : Row). r.outcome) (cond b (Some row) None)) (ne_eqb row.uid.0 u.0 (λ e. omega (arith, e, high, above)))

-- ---- rows by steps

-- One row more, or none, where there were fewer than there may be.
pub few-more : (rows new : List Row) (o : Option Row) (most : ℕ) → length rows < most → new ≡ rows ++ cons_option o [] → length new ≤ most
few-more rows new None most h e = let same = ap length (e ∙ append-nil rows) in omega (arith, h, same)
few-more rows new (Some row) most h e =
    let same = ap length e in
    let long = length-append rows (row ∷ []) in
    omega (arith, h, same, long)

-- Rows of all pods, where there are no more than there may be, are the first of them.
pub rows-whole : (spec : JobSpec) (known : Uid → Option Outcome) (pods : List Pod) (i most : ℕ) (rows : List Row) → rows ≡ map (row_for spec) (waiting spec known (take i pods)) → length pods ≤ i → length rows ≤ most
    → rows ≡ take most (map (row_for spec) (waiting spec known pods))
rows-whole spec known pods i most rows are end few =
    sym (take_all most rows few) ∙ ap (take most) (are ∙ ap (λ ps. map (row_for spec) (waiting spec known ps)) (take_all i pods end))

-- As many rows as there are pods are the rows of all that wait.
pub rows-each : (spec : JobSpec) (known : Uid → Option Outcome) (pods : List Pod) (most : ℕ) (rows : List Row) → most ≡ length pods → rows ≡ take most (map (row_for spec) (waiting spec known pods))
    → rows ≡ map (row_for spec) (waiting spec known pods)
rows-each spec known pods most rows is are =
    let long = length-map (waiting spec known pods) (row_for spec) in
    let few = length-filter-le (is_fresh spec (λ u. is_some (known u))) pods in
    are ∙ take_all most (map (row_for spec) (waiting spec known pods)) (omega (arith, is, long, few))
