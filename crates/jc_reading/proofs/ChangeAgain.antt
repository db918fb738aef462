-- A printed change of a specification is read back.
use Rattle.std.proofs.Common.{◌≡◌, ℕ, List, [], ◌∷◌, Bool, codes, Option, Some, None, option_map, Ok, refl, ap, ◌∙◌}
use Rattle.serde_json.specs.Data.{Data, boolean, object}
use Rattle.jc_json.specs.Field.{◌>>=◌, bool_of, may_be, member_of, optional_bool}
use Rattle.jc_json.specs.Place.{path_to}
use Rattle.jc_print.specs.PrintedMembers.{number_data, with_json_member}
use Rattle.jc_print.specs.PrintedSpecs.{change_data, with_changed_counts, with_changed_limits}
use Rattle.jc_members.specs.LineCauses.{read_as}
use Rattle.jc_members.specs.Members.{given_number_in, only_known}
use Rattle.jc_script.specs.Updates.{change_at, change_in, change_members, counts_of, limits_of}
use Rattle.jc_types.specs.declared.actions.SpecChange.{SpecChange}
use Rattle.jc_types.specs.declared.limits.TheConstants.{GREATEST_COMPLETIONS, GREATEST_LIMIT, GREATEST_PARALLELISM}
use Rattle.jc_reading.specs.Proper.{IsAllowedChange}
use Rattle.jc_reading.specs.Turned.{of_member}
use Rattle.jc_reading.proofs.AgainHead.{whole}
use Rattle.jc_reading.proofs.AgainTemplate.{object_needed}
use Rattle.jc_reading.proofs.Found.{member_found, puts}
use Rattle.jc_reading.proofs.MemberFacts.{given_in, rows_known, whole_given}

module _ (change : SpecChange) where
  abbrev rows : List (List ℕ × Option Data)
  rows =
      (codes "suspend", option_map boolean change.suspend)
      ∷ (codes "parallelism", option_map number_data change.parallelism)
      ∷ (codes "completions", option_map number_data change.completions)
      ∷ (codes "backoffLimit", option_map number_data change.backoff_limit)
      ∷ (codes "activeDeadlineSeconds", option_map number_data change.deadline) ∷ []

  abbrev made : Data
  made = object (puts rows)

  change_puts : change_data change ≡ made
  unfolding change_data with_changed_counts with_changed_limits with_json_member
  change_puts = refl

  spec_given : member_of (codes "spec") (of_member (codes "spec") made) ≡ Some made
  unfolding member_of
  spec_given = refl

  suspend_again : (path : List ℕ) → optional_bool path (codes "suspend") made ≡ Ok change.suspend
  unfolding optional_bool
  suspend_again path =
      ap (may_be (bool_of (path_to path (codes "suspend")))) (member_found (codes "suspend") rows ∙ whole_given boolean (λ b. refl) change.suspend)
      ∙ by change.suspend
    where
      by : (o : Option Bool) → may_be (bool_of (path_to path (codes "suspend"))) (option_map boolean o) ≡ Ok o
      by None = refl
      by (Some b) = refl

  module _ (allowed : IsAllowedChange change) where
    counts_again : (path : List ℕ) → counts_of path made ≡ Ok (record { parallelism = change.parallelism; completions = change.completions })
    unfolding counts_of
    counts_again path =
        ap (λ r. r >>= λ parallelism. given_number_in path (codes "completions") 0 GREATEST_COMPLETIONS made >>= λ completions. Ok (record { parallelism = parallelism; completions = completions }))
        (given_in path (codes "parallelism") GREATEST_PARALLELISM made change.parallelism (member_found (codes "parallelism") rows ∙ whole change.parallelism) allowed.parallelism)
        ∙ ap (λ r. r >>= λ completions. Ok (record { parallelism = change.parallelism; completions = completions }))
        (given_in path (codes "completions") GREATEST_COMPLETIONS made change.completions (member_found (codes "completions") rows ∙ whole change.completions) allowed.completions)

    limits_again : (path : List ℕ) → limits_of path made ≡ Ok (record { deadline = change.deadline; backoff_limit = change.backoff_limit })
    unfolding limits_of
    limits_again path =
        ap (λ r. r >>= λ deadline. given_number_in path (codes "backoffLimit") 0 GREATEST_LIMIT made >>= λ backoff_limit. Ok (record { deadline = deadline; backoff_limit = backoff_limit }))
        (given_in path (codes "activeDeadlineSeconds") GREATEST_LIMIT made change.deadline (member_found (codes "activeDeadlineSeconds") rows ∙ whole change.deadline) allowed.deadline)
        ∙ ap (λ r. r >>= λ backoff_limit. Ok (record { deadline = change.deadline; backoff_limit = backoff_limit }))
        (given_in path (codes "backoffLimit") GREATEST_LIMIT made change.backoff_limit (member_found (codes "backoffLimit") rows ∙ whole change.backoff_limit) allowed.backoff_limit)

    at_again : (path : List ℕ) → change_at path made ≡ Ok change
    unfolding change_at
    at_again path =
        ap (λ r. r >>= λ counts. read_as (optional_bool path (codes "suspend") made) >>= λ suspend. limits_of path made >>= λ limits. Ok (record {
          parallelism = counts.parallelism;
          completions = counts.completions;
          suspend = suspend;
          deadline = limits.deadline;
          backoff_limit = limits.backoff_limit;
        })) (counts_again path)
        ∙ ap (λ r. read_as r >>= λ suspend. limits_of path made >>= λ limits. Ok (record {
          parallelism = change.parallelism;
          completions = change.completions;
          suspend = suspend;
          deadline = limits.deadline;
          backoff_limit = limits.backoff_limit;
        })) (suspend_again path)
        ∙ ap (λ r. r >>= λ limits. Ok (record {
          parallelism = change.parallelism;
          completions = change.completions;
          suspend = change.suspend;
          deadline = limits.deadline;
          backoff_limit = limits.backoff_limit;
        })) (limits_again path)

    pub change_again : change_in (of_member (codes "spec") (change_data change)) ≡ Ok change
    unfolding change_in
    change_again =
        ap (λ d. change_in (of_member (codes "spec") d)) change_puts
        ∙ ap (λ r. read_as r >>= λ spec. only_known (path_to [] (codes "spec")) change_members spec >>= λ known. change_at (path_to [] (codes "spec")) spec)
        (object_needed [] (codes "spec") (of_member (codes "spec") made) (puts rows) spec_given)
        ∙ ap (λ r. r >>= λ known. change_at (path_to [] (codes "spec")) made) (rows_known (path_to [] (codes "spec")) change_members rows refl)
        ∙ at_again (path_to [] (codes "spec"))
