-- A change that is allowed keeps a specification valid.
use Rattle.std.proofs.Common.{◌≡◌, ℕ, ◌≤◌, nat_eq, Bool, true, false, cond, not, ◌&&◌, arith, eqb, Option, Some, None, is_some, IsSome, IfSome, refl, ap, sym, subst, true≢false, eqb-true, ltb-false}
use Rattle.std.specs.Prelude.{unwrap_or}
use Rattle.jc_types.specs.declared.actions.SpecChange.{SpecChange}
use Rattle.jc_types.specs.declared.replies.Field.TheVariants.{Completions, Parallelism, BackoffLimit, Deadline}
use Rattle.jc_types.specs.declared.replies.Reply.{Reply}
use Rattle.jc_types.specs.declared.replies.Reply.TheVariants.{Immutable, Invalid}
use Rattle.jc_types.specs.declared.specifications.JobSpec.{JobSpec}
use Rattle.jc_types.specs.declared.specifications.Mode.{Mode}
use Rattle.jc_types.specs.declared.specifications.Mode.TheVariants.{NonIndexed, Indexed}
use Rattle.jc_types.specs.Equality.{same_option}
use Rattle.jc_log.specs.Requests.{changed_spec, given_or, is_above, is_elastic, is_given_else, is_immutable, is_indexed, update_refusal}
use Rattle.jc_types.specs.ValidSpecs.{IsValidSpec}

none_some : {A : Type 0} (x : A) → Some x ≡ None → ⊥
none_some x e = true≢false (ap is_some e)

-- Where a chain of refusals gives none, the first test is false and the rest gives none.
passed : (b : Bool) (reply : Reply) (rest : Option Reply) → cond b (Some reply) rest ≡ None → (b ≡ false) × (rest ≡ None)
passed true reply rest e = absurd (none_some reply e)
passed false reply rest e = (refl, e)

-- A number that is not given else leaves the old one.
kept : (given old : Option ℕ) → is_given_else given old ≡ false → given_or given old ≡ old
kept None old e = refl
kept (Some given) None e = absurd (true≢false e)
kept (Some given) (Some old) e = by (eqb given old) refl e
  where
    by : (b : Bool) → eqb given old ≡ b → not b ≡ false → Some given ≡ Some old
    by true s h = ap Some (eqb-true given old s)
    by false s h = absurd (true≢false h)

-- A given number that is not above the limit is within it.
within : (limit old : ℕ) (given : Option ℕ) → is_above limit given ≡ false → old ≤ limit → unwrap_or given old ≤ limit
within limit old None e h = h
within limit old (Some given) e h = ltb-false limit given e

within_too : (limit : ℕ) (given old : Option ℕ) → is_above limit given ≡ false → IfSome old (λ n. n ≤ limit) → IfSome (given_or given old) (λ n. n ≤ limit)
within_too limit None old e h = h
within_too limit (Some given) old e h = ltb-false limit given e

-- Completions that may take the place of others are as many as pods may run at once.
elastic : (spec : JobSpec) (change : SpecChange) → is_elastic spec change ≡ true → change.completions ≡ Some (unwrap_or change.parallelism spec.parallelism)
elastic spec change e = by spec.mode change.completions e
  where
    by : (mode : Mode) (given : Option ℕ) → (is_indexed mode && same_option nat_eq given (Some (unwrap_or change.parallelism spec.parallelism))) ≡ true → given ≡ Some (unwrap_or change.parallelism spec.parallelism)
    by NonIndexed given h = absurd (true≢false (sym h))
    by Indexed None h = absurd (true≢false (sym h))
    by Indexed (Some n) h = ap Some (eqb-true n (unwrap_or change.parallelism spec.parallelism) h)

-- What holds of the old completions and of as many as pods may run at once holds of those after the change.
completions_hold : (P : Option ℕ → Type 0) (spec : JobSpec) (change : SpecChange) → is_immutable spec change ≡ false → P spec.completions → P (Some (unwrap_or change.parallelism spec.parallelism)) → P (given_or change.completions spec.completions)
completions_hold P spec change e old new = by (is_given_else change.completions spec.completions) refl (is_elastic spec change) refl e
  where
    by : (g : Bool) → is_given_else change.completions spec.completions ≡ g → (l : Bool) → is_elastic spec change ≡ l → (g && not l) ≡ false → P (given_or change.completions spec.completions)
    by false g l f h = subst P (sym (kept change.completions spec.completions g)) old
    by true g true f h = subst (λ o. P (given_or o spec.completions)) (sym (elastic spec change f)) new
    by true g false f h = absurd (true≢false h)

pub valid_after : (spec : JobSpec) (change : SpecChange) → IsValidSpec spec → update_refusal spec change ≡ None → IsValidSpec (changed_spec spec change)
valid_after spec change v e =
    let c = passed (is_immutable spec change) (Immutable Completions) _ e in
    let p = passed (is_above 5000 change.parallelism) (Invalid Parallelism) _ c.1 in
    let b = passed (is_above 2147483647 change.backoff_limit) (Invalid BackoffLimit) _ p.1 in
    let d = passed (is_above 2147483647 change.deadline) (Invalid Deadline) None b.1 in
    let fits : unwrap_or change.parallelism spec.parallelism ≤ 5000 = within 5000 spec.parallelism change.parallelism p.0 v.parallelism in
    record {
      parallelism = fits;
      completions = completions_hold (λ o. IfSome o (λ n. n ≤ 10000)) spec change c.0 v.completions (omega (arith, fits));
      backoff_limit = within 2147483647 spec.backoff_limit change.backoff_limit b.0 v.backoff_limit;
      deadline = within_too 2147483647 change.deadline spec.deadline d.0 v.deadline;
      counts = v.counts;
      some = v.some;
      few = v.few;
      distinct = v.distinct;
      indexed = λ is. completions_hold (λ o. IsSome o) spec change c.0 (v.indexed is) refl;
      failure = v.failure;
      success = v.success;
      per_index = v.per_index;
      max_failed = v.max_failed;
      by_index = v.by_index;
      beside = v.beside;
      fail_index = v.fail_index;
    }
