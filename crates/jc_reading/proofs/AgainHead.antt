-- A printed specification, turned into a manifest, is read back: numbers, mode, limits.
use Rattle.std.proofs.Common.{◌≡◌, ℕ, ℤ, pos, nat_abs, ◌≤◌, List, [], ◌∷◌, Bool, true, false, not, ◌&&◌, cond, codes, Option, Some, None, option_map, IfSome, Ok, Err, refl, ap, ap₂, ◌∙◌, le-leb, arith}
use Rattle.std.specs.Prelude.{is_none, option_and_then, unwrap_or}
use Rattle.std.specs.Option.{option_or, option_map_or}
use Rattle.std.specs.Result.{result_unwrap_or}
use Rattle.serde_json.specs.Data.{Data, boolean, string, object, no_members, put}
use Rattle.jc_json.specs.Place.{path_to}
use Rattle.jc_json.specs.Field.{◌>>=◌, member_of, unless_null, may_be, text_of, bool_of, bounded_number, out_of_range, optional_text, optional_bool, optional_number}
use Rattle.jc_types.specs.declared.limits.TheConstants.{GREATEST_COMPLETIONS, GREATEST_LIMIT, GREATEST_PARALLELISM}
use Rattle.jc_types.specs.declared.specifications.JobSpec.{JobSpec}
use Rattle.jc_types.specs.declared.specifications.Mode.{Mode}
use Rattle.jc_types.specs.declared.specifications.Mode.TheVariants.{NonIndexed, Indexed}
use Rattle.jc_manifest.specs.declared.index_limits.IndexLimits.{IndexLimits}
use Rattle.jc_reading.specs.Allowed.{IsAllowedSpec}
use Rattle.jc_log.specs.Requests.{is_indexed}
use Rattle.jc_rows.specs.PodCountRows.{mode_of, is_mode, mode_in, completions_or, indexed_row, parallelism_in, completions_in, numbers_refusal, counts_refusal, counts_in}
use Rattle.jc_manifest.specs.IndexLimits.{index_limits_refusal, index_limits_in, by_index_refusal}
use Rattle.jc_manifest.specs.Limits.{managed_row, limits_refusal, suspend_in, limits_in, usual_backoff}
use Rattle.jc_reading.specs.Manifested.{manifest_spec, pod_spec_of}
use Rattle.jc_print.specs.PrintedMembers.{number_data}
use Rattle.jc_print.specs.PrintedSpecs.{mode_word, replacement_word, failure_data, success_data, template_data, spec_data, with_policies, with_counts, with_index_limits, with_limits}
use Rattle.jc_print.specs.PrintedMembers.{with_json_member}
use Rattle.jc_rows.specs.ManifestRows.{rule_row, passes, given_text_row, number_row, bool_row, number_in, reads}
use Rattle.jc_reading.proofs.Found.{puts, get_found, member_found}
use Rattle.jc_rows.proofs.RowFacts.{none_or}

-- ---- what a member says, by what is found

pub given_number : (path name : List ℕ) (d : Data) (o : Option ℕ) (greatest : ℕ) → member_of name d ≡ option_map number_data o → IfSome o (λ n. n ≤ greatest)
    → optional_number path name (pos 0) (pos greatest) d ≡ Ok (option_map pos o)
unfolding optional_number
given_number path name d None greatest is few = ap (may_be (bounded_number (path_to path name) (pos 0) (pos greatest))) is
given_number path name d (Some n) greatest is few =
    ap (may_be (bounded_number (path_to path name) (pos 0) (pos greatest))) is
    ∙ ap₂ (λ a b. cond (a && b) (Ok (pos n)) (Err (out_of_range (path_to path name))) >>= (λ a. Ok (Some a))) (le-leb 0 n (omega arith)) (le-leb n greatest few)

pub given_text : (path name : List ℕ) (d : Data) (s : List ℕ) → member_of name d ≡ Some (string s) → optional_text path name d ≡ Ok (Some s)
unfolding optional_text
given_text path name d s is = ap (may_be (text_of (path_to path name))) is

pub given_bool : (path name : List ℕ) (d : Data) (b : Bool) → member_of name d ≡ Some (boolean b) → optional_bool path name d ≡ Ok (Some b)
unfolding optional_bool
given_bool path name d b is = ap (may_be (bool_of (path_to path name))) is

pub no_text : (path name : List ℕ) (d : Data) → member_of name d ≡ None → optional_text path name d ≡ Ok None
unfolding optional_text
no_text path name d is = ap (may_be (text_of (path_to path name))) is

-- a number that may be given is never null
pub whole : (o : Option ℕ) → option_and_then unless_null (option_or (option_map number_data o) None) ≡ option_map number_data o
whole None = refl
whole (Some n) = refl

pub number_read : (path name : List ℕ) (d : Data) (o : Option ℕ) (greatest : ℕ) → optional_number path name (pos 0) (pos greatest) d ≡ Ok (option_map pos o) → number_in path d name greatest ≡ o
unfolding number_in
number_read path name d None greatest e = ap (λ r. option_map nat_abs (result_unwrap_or r None)) e
number_read path name d (Some n) greatest e = ap (λ r. option_map nat_abs (result_unwrap_or r None)) e

number_passes : (path name : List ℕ) (d : Data) (o : Option ℤ) (greatest : ℕ) → optional_number path name (pos 0) (pos greatest) d ≡ Ok o → number_row path d name greatest ≡ None
unfolding number_row
number_passes path name d o greatest e = ap reads e

bool_passes : (path name : List ℕ) (d : Data) (o : Option Bool) → optional_bool path name d ≡ Ok o → bool_row path d name ≡ None
unfolding bool_row
bool_passes path name d o e = ap reads e

pub text_passes : (path name : List ℕ) (d : Data) (rule : ℕ) (test : List ℕ → Bool) (s : List ℕ) → optional_text path name d ≡ Ok (Some s) → test s ≡ true → given_text_row path d name rule test ≡ None
unfolding given_text_row
text_passes path name d rule test s e good =
    ap (passes (path_to path name) rule (λ o. option_map_or test o true)) e ∙ ap (rule_row (path_to path name) rule) good

pub no_text_passes : (path name : List ℕ) (d : Data) (rule : ℕ) (test : List ℕ → Bool) → optional_text path name d ≡ Ok None → given_text_row path d name rule test ≡ None
unfolding given_text_row
no_text_passes path name d rule test e = ap (passes (path_to path name) rule (λ o. option_map_or test o true)) e

-- ---- the members of a printed specification

abbrev pub spec_rows : JobSpec → List (List ℕ × Option Data)
spec_rows spec =
    (codes "template", Some (template_data spec.template))
    ∷ (codes "successPolicy", option_map success_data spec.success)
    ∷ (codes "podReplacementPolicy", Some (string (replacement_word spec.replacement)))
    ∷ (codes "podFailurePolicy", option_map failure_data spec.failure)
    ∷ (codes "suspend", Some (boolean spec.suspend))
    ∷ (codes "parallelism", Some (number_data spec.parallelism))
    ∷ (codes "completions", option_map number_data spec.completions)
    ∷ (codes "maxFailedIndexes", option_map number_data spec.max_failed)
    ∷ (codes "backoffLimitPerIndex", option_map number_data spec.per_index)
    ∷ (codes "completionMode", Some (string (mode_word spec.mode)))
    ∷ (codes "backoffLimit", Some (number_data spec.backoff_limit))
    ∷ (codes "activeDeadlineSeconds", option_map number_data spec.deadline) ∷ []

spec_puts : (spec : JobSpec) → spec_data spec ≡ object (puts (spec_rows spec))
unfolding spec_data with_policies with_counts with_index_limits with_limits with_json_member
spec_puts spec = refl

-- the pod's specification, as the member that it becomes
abbrev pub pod_member : JobSpec → Data
pod_member spec = object (put (codes "spec") (pod_spec_of (Some (template_data spec.template))) no_members)

abbrev pub manifest_rows : JobSpec → List (List ℕ × Option Data)
manifest_rows spec = (codes "template", Some (pod_member spec)) ∷ spec_rows spec

abbrev pub made : JobSpec → Data
made spec = object (puts (manifest_rows spec))

pub manifest_puts : (spec : JobSpec) → manifest_spec (spec_data spec) ≡ made spec
unfolding manifest_spec
manifest_puts spec =
    ap manifest_spec (spec_puts spec)
    ∙ ap (λ o. object (put (codes "template") (object (put (codes "spec") (pod_spec_of o) no_members)) (puts (spec_rows spec)))) (get_found (codes "template") (spec_rows spec))

-- ---- numbers of pods

module _ (path : List ℕ) (spec : JobSpec) (allowed : IsAllowedSpec spec) where
  parallelism_at : optional_number path (codes "parallelism") (pos 0) (pos GREATEST_PARALLELISM) (made spec) ≡ Ok (Some (pos spec.parallelism))
  parallelism_at = given_number path (codes "parallelism") (made spec) (Some spec.parallelism) GREATEST_PARALLELISM (member_found (codes "parallelism") (manifest_rows spec)) allowed.parallelism

  completions_at : optional_number path (codes "completions") (pos 0) (pos GREATEST_COMPLETIONS) (made spec) ≡ Ok (option_map pos spec.completions)
  completions_at = given_number path (codes "completions") (made spec) spec.completions GREATEST_COMPLETIONS (member_found (codes "completions") (manifest_rows spec) ∙ whole spec.completions) allowed.completions

  mode_at : optional_text path (codes "completionMode") (made spec) ≡ Ok (Some (mode_word spec.mode))
  mode_at = given_text path (codes "completionMode") (made spec) (mode_word spec.mode) (member_found (codes "completionMode") (manifest_rows spec))

  parallelism_again : parallelism_in path (made spec) ≡ spec.parallelism
  unfolding parallelism_in
  parallelism_again = ap (λ o. unwrap_or o 1) (number_read path (codes "parallelism") (made spec) (Some spec.parallelism) GREATEST_PARALLELISM parallelism_at)

  completions_again : completions_in path (made spec) ≡ spec.completions
  unfolding completions_in
  completions_again =
      ap₂ completions_or (number_read path (codes "parallelism") (made spec) (Some spec.parallelism) GREATEST_PARALLELISM parallelism_at)
      (number_read path (codes "completions") (made spec) spec.completions GREATEST_COMPLETIONS completions_at)
      ∙ kept spec.completions
    where
      kept : (o : Option ℕ) → completions_or (Some spec.parallelism) o ≡ o
      kept None = refl
      kept (Some c) = refl

  mode_again : mode_in path (made spec) ≡ spec.mode
  unfolding mode_in
  mode_again = ap (λ r. unwrap_or (option_and_then mode_of (result_unwrap_or r None)) NonIndexed) mode_at ∙ told spec.mode
    where
      told : (mode : Mode) → unwrap_or (mode_of (mode_word mode)) NonIndexed ≡ mode
      told NonIndexed = refl
      told Indexed = refl

  pub counts_pass : counts_refusal path (made spec) ≡ None
  unfolding counts_refusal numbers_refusal indexed_row
  counts_pass =
      none_or _ _
      (none_or _ _ (number_passes path (codes "parallelism") (made spec) _ GREATEST_PARALLELISM parallelism_at)
      (none_or _ _ (number_passes path (codes "completions") (made spec) _ GREATEST_COMPLETIONS completions_at) refl))
      (none_or _ _ (text_passes path (codes "completionMode") (made spec) 5 is_mode (mode_word spec.mode) mode_at (is_word spec.mode))
      (none_or _ _
      (ap₂ (λ m c. rule_row (path_to path (codes "completionMode")) 6 (not (is_indexed m && is_none c))) mode_again completions_again
      ∙ ap (λ b. rule_row (path_to path (codes "completionMode")) 6 (not b)) allowed.indexed)
      refl))
    where
      is_word : (mode : Mode) → is_mode (mode_word mode) ≡ true
      is_word NonIndexed = refl
      is_word Indexed = refl

  pub counts_again : counts_in path (made spec) ≡ record { parallelism = spec.parallelism; completions = spec.completions; mode = spec.mode }
  unfolding counts_in
  counts_again =
      (λ i. record { parallelism = parallelism_again i; completions = completions_again i; mode = mode_again i })

  -- ---- limits

  suspend_at : optional_bool path (codes "suspend") (made spec) ≡ Ok (Some spec.suspend)
  suspend_at = given_bool path (codes "suspend") (made spec) spec.suspend (member_found (codes "suspend") (manifest_rows spec))

  backoff_at : optional_number path (codes "backoffLimit") (pos 0) (pos GREATEST_LIMIT) (made spec) ≡ Ok (Some (pos spec.backoff_limit))
  backoff_at = given_number path (codes "backoffLimit") (made spec) (Some spec.backoff_limit) GREATEST_LIMIT (member_found (codes "backoffLimit") (manifest_rows spec)) allowed.backoff_limit

  deadline_at : optional_number path (codes "activeDeadlineSeconds") (pos 0) (pos GREATEST_LIMIT) (made spec) ≡ Ok (option_map pos spec.deadline)
  deadline_at = given_number path (codes "activeDeadlineSeconds") (made spec) spec.deadline GREATEST_LIMIT (member_found (codes "activeDeadlineSeconds") (manifest_rows spec) ∙ whole spec.deadline) allowed.deadline

  pub managed_pass : managed_row path (made spec) ≡ None
  managed_pass =
      no_text_passes path (codes "managedBy") (made spec) 26 _ (no_text path (codes "managedBy") (made spec) (member_found (codes "managedBy") (manifest_rows spec)))

  -- ---- limits for each index

  per_index_at : optional_number path (codes "backoffLimitPerIndex") (pos 0) (pos GREATEST_LIMIT) (made spec) ≡ Ok (option_map pos spec.per_index)
  per_index_at = given_number path (codes "backoffLimitPerIndex") (made spec) spec.per_index GREATEST_LIMIT (member_found (codes "backoffLimitPerIndex") (manifest_rows spec) ∙ whole spec.per_index) allowed.by_index.per_index

  max_failed_at : optional_number path (codes "maxFailedIndexes") (pos 0) (pos GREATEST_COMPLETIONS) (made spec) ≡ Ok (option_map pos spec.max_failed)
  max_failed_at = given_number path (codes "maxFailedIndexes") (made spec) spec.max_failed GREATEST_COMPLETIONS (member_found (codes "maxFailedIndexes") (manifest_rows spec) ∙ whole spec.max_failed) allowed.by_index.max_failed

  pub index_limits_pass : index_limits_refusal path (made spec) ≡ None
  unfolding index_limits_refusal
  index_limits_pass =
      none_or _ _ (number_passes path (codes "backoffLimitPerIndex") (made spec) _ GREATEST_LIMIT per_index_at)
      (none_or _ _ (number_passes path (codes "maxFailedIndexes") (made spec) _ GREATEST_COMPLETIONS max_failed_at) refl)

  abbrev pub limited : IndexLimits
  limited = record { per_index = spec.per_index; max_failed = spec.max_failed }

  pub index_limits_again : index_limits_in path (made spec) ≡ limited
  unfolding index_limits_in
  index_limits_again =
      let per_index = number_read path (codes "backoffLimitPerIndex") (made spec) spec.per_index GREATEST_LIMIT per_index_at in
      let max_failed = number_read path (codes "maxFailedIndexes") (made spec) spec.max_failed GREATEST_COMPLETIONS max_failed_at in
      (λ i. record { per_index = per_index i; max_failed = max_failed i })

  pub by_index_pass : by_index_refusal path (counts_in path (made spec)) (index_limits_in path (made spec)) ≡ None
  unfolding by_index_refusal
  by_index_pass =
      ap₂ (by_index_refusal path) counts_again index_limits_again
      ∙ none_or _ _ (ap (rule_row (path_to path (codes "backoffLimitPerIndex")) 31) allowed.by_index.indexed)
      (none_or _ _ (ap (rule_row (path_to path (codes "maxFailedIndexes")) 32) allowed.by_index.failing) refl)

  -- ---- the other limits

  pub limits_pass : limits_refusal path (made spec) ≡ None
  unfolding limits_refusal
  limits_pass =
      none_or _ _ (bool_passes path (codes "suspend") (made spec) _ suspend_at)
      (none_or _ _ (number_passes path (codes "backoffLimit") (made spec) _ GREATEST_LIMIT backoff_at)
      (none_or _ _ (number_passes path (codes "activeDeadlineSeconds") (made spec) _ GREATEST_LIMIT deadline_at) refl))

  pub limits_again : (by_index : Bool) → limits_in by_index path (made spec) ≡ record { suspend = spec.suspend; backoff_limit = spec.backoff_limit; deadline = spec.deadline }
  unfolding limits_in suspend_in
  limits_again by_index =
      let suspend : suspend_in path (made spec) ≡ spec.suspend = ap (λ r. unwrap_or (result_unwrap_or r None) false) suspend_at in
      let backoff : unwrap_or (number_in path (made spec) (codes "backoffLimit") GREATEST_LIMIT) (usual_backoff by_index) ≡ spec.backoff_limit =
      ap (λ o. unwrap_or o (usual_backoff by_index)) (number_read path (codes "backoffLimit") (made spec) (Some spec.backoff_limit) GREATEST_LIMIT backoff_at) in
      let deadline = number_read path (codes "activeDeadlineSeconds") (made spec) spec.deadline GREATEST_LIMIT deadline_at in
      (λ i. record { suspend = suspend i; backoff_limit = backoff i; deadline = deadline i })
