-- The sets and the success policy that an accepted manifest says are such as its table allows.
use Rattle.std.proofs.Common.{◌≡◌, ℕ, ℤ, pos, negsuc, nat_abs, suc, ◌+◌, ◌≤◌, List, [], ◌∷◌, length, Bool, true, false, ◌&&◌, ◌||◌, cond, bytes_eq, codes, Option, Some, None, option_map, is_some, IfSome, Result, Ok, Err, refl, sym, ap, ap₂}
use Rattle.std.proofs.Common.{◌∙◌, subst, arith, true≢false}
use Rattle.std.specs.List.{AllByRecursion as Each, find, flat_map}
use Rattle.std.specs.Prelude.{int_le, nat_lt, nat_le, ok_or, option_and_then, unwrap_or}
use Rattle.std.specs.Option.{option_map_or}
use Rattle.std.specs.Result.{result_unwrap_or}
use Rattle.std.proofs.lemmas.Bool.{leb-true}
use Rattle.serde_json.specs.Data.{Data}
use Rattle.serde_json.specs.Find.{as_integer, as_number, as_str}
use Rattle.jc_json.specs.Place.{path_to, path_at}
use Rattle.jc_json.specs.Field.{Refusal, wrong_type, out_of_range, ◌>>=◌, member_of, within_bounds, bounded_number, may_be, text_of, optional_number, optional_object, optional_text, needed_list}
use Rattle.jc_ranges.specs.declared.bounds.TheConstants.{GREATEST_INDEX}
use Rattle.jc_ranges.specs.declared.runs.Run.{Run}
use Rattle.jc_ranges.specs.Texts.{AreRising, IsRunFrom, NamesSet, element, elements, joined, numbers, ranges_text}
use Rattle.jc_ranges.proofs.Back.{named_set, text_names}
use Rattle.jc_types.specs.declared.limits.TheConstants.{GREATEST_COMPLETIONS}
use Rattle.jc_types.specs.declared.policies.SuccessPolicy.{SuccessPolicy}
use Rattle.jc_types.proofs.ListFacts.{find_passes as passes_found}
use Rattle.jc_rows.specs.declared.counts.Counts.{Counts}
use Rattle.jc_log.specs.Requests.{is_indexed}
use Rattle.jc_rows.specs.PodCountRows.{completions_of}
use Rattle.jc_manifest.specs.IndexSets.{all_pairs, is_spelled, run_of, runs_of, set_of}
use Rattle.jc_rows.specs.ManifestRows.{each, reads, passes, given_text_row, rows_of_given}
use Rattle.jc_manifest.specs.SuccessPolicies.{are_indexes, indexes_read, names_indexes, indexes_row, succeeded_indexes_in, is_reachable, count_in, count_row, count_refusal, says_something, success_rule_refusal, success_rule_in}
use Rattle.jc_manifest.specs.SuccessPolicies.{success_rule_row, success_rules_from, success_rules_refusal, success_rules_in, given_success_refusal, success_refusal, success_in}
use Rattle.jc_rows.specs.Templates.{list_in}
use Rattle.jc_manifest.proofs.IndexSetFacts.{names_set}
use Rattle.jc_reading.specs.Allowed.{IsAllowedCount, IsAllowedSet, IsAllowedSuccessRule}
use Rattle.jc_manifest.proofs.IndexSetFacts.{left, right}
use Rattle.jc_manifest.proofs.AcceptedFacts.{parts, kept, passed}

-- ---- sets

run_fits : (text : List ℕ) (r : Run) → run_of text ≡ Some r → IsRunFrom 0 r
unfolding run_of
run_fits text r e =
    let spelled = passes_found (is_spelled text) all_pairs r e in
    let bounds = left (nat_le r.first r.last && nat_le r.last GREATEST_INDEX) (bytes_eq (element r) text) spelled in
    record {
      above = omega arith;
      ordered = leb-true r.first r.last (left (nat_le r.first r.last) _ bounds);
      small = leb-true r.last GREATEST_INDEX (right (nat_le r.first r.last) _ bounds);
    }

-- The rest of the runs rises, behind a run.
abbrev RestRises : List (List ℕ) → Type 0
RestRises es = (low : ℕ) (ss : List Run) → runs_of low es ≡ Some ss → AreRising low ss

module _ (low : ℕ) (es : List (List ℕ)) (rest : RestRises es) (rs : List Run) where
  add : (r : Run) → IsRunFrom 0 r → nat_le low r.first ≡ true → (o : Option (List Run)) → runs_of (suc r.last) es ≡ o → option_map (λ ss. r ∷ ss) o ≡ Some rs → AreRising low rs
  add r fits above None is e = absurd (true≢false (sym (ap is_some e)))
  add r fits above (Some ss) is e =
      subst (AreRising low) (ap (λ o. unwrap_or o []) e)
      (record { above = leb-true low r.first above; ordered = fits.ordered; small = fits.small }, rest (suc r.last) ss is)

  test : (r : Run) → IsRunFrom 0 r → (b : Bool) → nat_le low r.first ≡ b → cond b (option_map (λ ss. r ∷ ss) (runs_of (suc r.last) es)) None ≡ Some rs → AreRising low rs
  test r fits true above e = add r fits above (runs_of (suc r.last) es) refl e
  test r fits false above e = absurd (true≢false (sym (ap is_some e)))

  first_run : (text : List ℕ) (o : Option Run) → run_of text ≡ o → option_and_then (λ r. cond (nat_le low r.first) (option_map (λ ss. r ∷ ss) (runs_of (suc r.last) es)) None) o ≡ Some rs → AreRising low rs
  first_run text None is e = absurd (true≢false (sym (ap is_some e)))
  first_run text (Some r) is e = test r (run_fits text r is) (nat_le low r.first) refl e

runs_rise : (low : ℕ) (es : List (List ℕ)) (rs : List Run) → runs_of low es ≡ Some rs → AreRising low rs
runs_rise low [] rs e = subst (AreRising low) (ap (λ o. unwrap_or o []) e) tt
runs_rise low (t ∷ es) rs e = first_run low es (λ l ss is. runs_rise l es ss is) rs t (run_of t) refl e

-- The set that a text names is told by its own text.
pub told_again : (text set : List ℕ) → set_of text ≡ Some set → set_of (ranges_text set) ≡ Some set
unfolding set_of
told_again text set e = by (runs_of 0 (elements text)) refl e
  where
    names : (rs : List Run) → AreRising 0 rs → NamesSet (joined rs) (flat_map numbers rs)
    names rs rising = record { named = rs; rising = rising; spelled = refl; members = refl }

    by : (o : Option (List Run)) → runs_of 0 (elements text) ≡ o → option_map (flat_map numbers) o ≡ Some set → set_of (ranges_text set) ≡ Some set
    by None is e = absurd (true≢false (sym (ap is_some e)))
    by (Some rs) is e =
        let same : flat_map numbers rs ≡ set = ap (λ o. unwrap_or o []) e in
        let whole = named_set (joined rs) (flat_map numbers rs) (names rs (runs_rise 0 (elements text) rs is)) in
        subst (λ (xs : List ℕ). set_of (ranges_text xs) ≡ Some xs) same
        (sym (names_set (ranges_text (flat_map numbers rs)) (flat_map numbers rs) (text_names (ranges_text (flat_map numbers rs)) (flat_map numbers rs) whole refl)))

-- ---- success rules

read_set : (completions : ℕ) (text set : List ℕ) → indexes_read completions text ≡ Some set → IsAllowedSet completions set
read_set completions text set e = by (set_of text) refl e
  where
    test : (found : List ℕ) → set_of text ≡ Some found → (b : Bool) → are_indexes completions found ≡ b → cond b (Some found) None ≡ Some set → IsAllowedSet completions set
    test found is true good e =
        let same : found ≡ set = ap (λ o. unwrap_or o []) e in
        subst (IsAllowedSet completions) same (record { indexes = good; told = told_again text found is })
    test found is false good e = absurd (true≢false (sym (ap is_some e)))

    by : (o : Option (List ℕ)) → set_of text ≡ o → option_and_then (λ found. cond (are_indexes completions found) (Some found) None) o ≡ Some set → IsAllowedSet completions set
    by None is e = absurd (true≢false (sym (ap is_some e)))
    by (Some found) is e = test found is (are_indexes completions found) refl e

sets_allowed : (completions : ℕ) (o : Option (List ℕ)) → IfSome (option_and_then (indexes_read completions) o) (IsAllowedSet completions)
sets_allowed completions None = tt
sets_allowed completions (Some text) = by (indexes_read completions text) refl
  where
    by : (o : Option (List ℕ)) → indexes_read completions text ≡ o → IfSome o (IsAllowedSet completions)
    by None is = tt
    by (Some set) is = read_set completions text set is

-- what a rule says of indexes is there where its member is
indexes_there : (completions : ℕ) (path : List ℕ) (found : Option Data)
    → passes path 24 (λ o. option_map_or (names_indexes completions) o true) (may_be (text_of path) found) ≡ None
    → is_some (option_and_then (indexes_read completions) (result_unwrap_or (may_be (text_of path) found) None)) ≡ is_some found
indexes_there completions path None e = refl
indexes_there completions path (Some d) e = by (as_str d) e
  where
    by : (o : Option (List ℕ)) → passes path 24 (λ o. option_map_or (names_indexes completions) o true) (ok_or o (wrong_type path) >>= (λ a. Ok (Some a))) ≡ None
        → is_some (option_and_then (indexes_read completions) (result_unwrap_or (ok_or o (wrong_type path) >>= (λ a. Ok (Some a))) None)) ≡ true
    by None e = absurd (cc (e))
    by (Some text) e = kept path 24 (names_indexes completions text) e

-- a number within bounds is there where its member is
abbrev number_read : List ℕ → Option ℤ → Result (Option ℤ) Refusal
number_read path w = (ok_or w (wrong_type path) >>= within_bounds path (pos 1) (pos GREATEST_COMPLETIONS)) >>= (λ a. Ok (Some a))

number_there : (path : List ℕ) (w : Option ℤ) → reads (number_read path w) ≡ None → is_some (option_map nat_abs (result_unwrap_or (number_read path w) None)) ≡ true
number_there path None e = absurd (cc (e))
number_there path (Some z) e = by (int_le (pos 1) z && int_le z (pos GREATEST_COMPLETIONS)) e
  where
    by : (b : Bool) → reads (cond b (Ok z) (Err (out_of_range path)) >>= (λ a. Ok (Some a))) ≡ None
        → is_some (option_map nat_abs (result_unwrap_or (cond b (Ok z) (Err (out_of_range path)) >>= (λ a. Ok (Some a))) None)) ≡ true
    by true e = refl
    by false e = absurd (cc (e))

count_there : (path : List ℕ) (found : Option Data) → reads (may_be (bounded_number path (pos 1) (pos GREATEST_COMPLETIONS)) found) ≡ None
    → is_some (option_map nat_abs (result_unwrap_or (may_be (bounded_number path (pos 1) (pos GREATEST_COMPLETIONS)) found) None)) ≡ is_some found
count_there path None e = refl
count_there path (Some d) e = number_there path (option_and_then as_integer (as_number d)) e

number_fits : (path : List ℕ) (w : Option ℤ) → IfSome (option_map nat_abs (result_unwrap_or (number_read path w) None)) (λ n. (1 ≤ n) × (n ≤ GREATEST_COMPLETIONS))
number_fits path None = tt
number_fits path (Some (pos n)) = by (nat_le 1 n) (nat_le n GREATEST_COMPLETIONS) refl refl
  where
    by : (a b : Bool) → nat_le 1 n ≡ a → nat_le n GREATEST_COMPLETIONS ≡ b
        → IfSome (option_map nat_abs (result_unwrap_or (cond (a && b) (Ok (pos n)) (Err (out_of_range path)) >>= (λ a. Ok (Some a))) None)) (λ n. (1 ≤ n) × (n ≤ GREATEST_COMPLETIONS))
    by true true low high = (leb-true 1 n low, leb-true n GREATEST_COMPLETIONS high)
    by true false low high = tt
    by false b low high = tt
number_fits path (Some (negsuc n)) = tt

count_fits : (path : List ℕ) (found : Option Data) → IfSome (option_map nat_abs (result_unwrap_or (may_be (bounded_number path (pos 1) (pos GREATEST_COMPLETIONS)) found) None)) (λ n. (1 ≤ n) × (n ≤ GREATEST_COMPLETIONS))
count_fits path None = tt
count_fits path (Some d) = number_fits path (option_and_then as_integer (as_number d))

rule_allowed : (completions : ℕ) (path : List ℕ) (rule : Data) → success_rule_refusal completions path rule ≡ None → IsAllowedSuccessRule completions (success_rule_in completions path rule)
unfolding success_rule_refusal says_something indexes_row given_text_row count_refusal count_row success_rule_in succeeded_indexes_in count_in optional_text optional_number
rule_allowed completions path rule e =
    let rows = parts _ _ e in
    let later = parts _ _ rows.1 in
    let counts = parts _ _ (parts _ _ later.1).0 in
    let set_at = path_to path (codes "succeededIndexes") in
    let count_at = path_to path (codes "succeededCount") in
    let indexes = indexes_there completions set_at (member_of (codes "succeededIndexes") rule) later.0 in
    let count = count_there count_at (member_of (codes "succeededCount") rule) counts.0 in
    record {
      something = ap₂ (λ a b. a || b) indexes count ∙ kept path 23 _ rows.0;
      indexes = sets_allowed completions (result_unwrap_or (may_be (text_of set_at) (member_of (codes "succeededIndexes") rule)) None);
      count = counted (option_and_then (indexes_read completions) (result_unwrap_or (may_be (text_of set_at) (member_of (codes "succeededIndexes") rule)) None))
          (option_map nat_abs (result_unwrap_or (may_be (bounded_number count_at (pos 1) (pos GREATEST_COMPLETIONS)) (member_of (codes "succeededCount") rule)) None))
          (count_fits count_at (member_of (codes "succeededCount") rule)) (kept count_at 25 _ (parts _ _ counts.1).0);
    }
  where
    counted : (indexes : Option (List ℕ)) (o : Option ℕ) → IfSome o (λ n. (1 ≤ n) × (n ≤ GREATEST_COMPLETIONS)) → option_map_or (is_reachable completions indexes) o true ≡ true
        → IfSome o (IsAllowedCount completions indexes)
    counted indexes None fits reaches = tt
    counted indexes (Some n) fits reaches = record { some = fits.0; few = fits.1; reachable = reaches }

rules_allowed : (completions : ℕ) (path : List ℕ) (place : ℕ) (ds : List Data) → each (success_rule_row completions path) place ds ≡ None → Each (IsAllowedSuccessRule completions) (success_rules_from completions path place ds)
unfolding success_rule_row
rules_allowed completions path place [] e = tt
rules_allowed completions path place (d ∷ ds) e =
    let rows = parts (success_rule_row completions path place d) _ e in
    (rule_allowed completions (path_at path place) d rows.0, rules_allowed completions path (place + 1) ds rows.1)

rules_counted : (completions : ℕ) (path : List ℕ) (place : ℕ) (ds : List Data) → length (success_rules_from completions path place ds) ≡ length ds
rules_counted completions path place [] = refl
rules_counted completions path place (d ∷ ds) = let more = rules_counted completions path (place + 1) ds in omega (arith, more)

-- the policy of a Job with this mode and so many completions
pub record IsAllowedPolicy (counts : Counts) (policy : SuccessPolicy) : Type 0 where
  pub indexed : is_indexed counts.mode ≡ true
  pub few : (nat_lt 0 (length policy.rules) && nat_le (length policy.rules) 20) ≡ true
  pub rules : Each (IsAllowedSuccessRule (completions_of counts)) policy.rules

policy_allowed : (counts : Counts) (path : List ℕ) (policy : Data) → given_success_refusal counts path policy ≡ None → IsAllowedPolicy counts (success_rules_in (completions_of counts) path policy)
unfolding given_success_refusal success_rules_refusal success_rules_in list_in
policy_allowed counts path policy e =
    let at = path_to path (codes "rules") in
    let ds = list_in path policy (codes "rules") in
    let rows = parts _ _ e in
    let inner = parts _ _ (parts _ _ rows.1).0 in
    let later = parts _ _ inner.1 in
    record {
      indexed = kept path 21 _ rows.0;
      few = ap (λ n. nat_lt 0 n && nat_le n 20) (rules_counted (completions_of counts) at 0 ds)
          ∙ passed at 22 (λ (rules : List Data). nat_lt 0 (length rules) && nat_le (length rules) 20) (needed_list path (codes "rules") policy) [] inner.0;
      rules = rules_allowed (completions_of counts) at 0 ds (parts _ _ later.1).0;
    }

pub success_allowed : (counts : Counts) (path : List ℕ) (spec : Data) → success_refusal counts path spec ≡ None → IfSome (success_in counts path spec) (IsAllowedPolicy counts)
unfolding success_refusal success_in
success_allowed counts path spec e = by (optional_object path (codes "successPolicy") spec) e
  where
    by : (r : Result (Option Data) Refusal) → rows_of_given r (given_success_refusal counts (path_to path (codes "successPolicy"))) ≡ None
        → IfSome (option_map (success_rules_in (completions_of counts) (path_to path (codes "successPolicy"))) (result_unwrap_or r None)) (IsAllowedPolicy counts)
    by (Ok None) e = tt
    by (Ok (Some d)) e = policy_allowed counts (path_to path (codes "successPolicy")) d e
    by (Err refusal) e = absurd (cc (e))
