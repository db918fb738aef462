-- What the laws on generated scripts say.
use Rattle.std.proofs.Common.{◌≡◌, ℕ, zero, suc, ◌+◌, ◌*◌, ◌%◌, ◌^◌, ◌<◌, ◌≤◌, ◌==◌, Bool, true, false, cond, ◌++◌, List, [], ◌∷◌, length, pos, refl, sym, ap, ◌∙◌, arith, rules, flat_map, replicate, IfSome, IsSome, None, Some, AllPairs}
use Rattle.std.proofs.Common.{drop, if◌then◌else◌, decimal}
use Rattle.std.specs.List.{range_with_len}
use Rattle.std.proofs.lemmas.Fmt.{decimal_injective}
use Rattle.std.proofs.lemmas.List.{length-replicate, length_push as one_longer}
use Rattle.jc_types.specs.ValidSpecs.{IsValidSpec}
use Rattle.jc_types.specs.declared.actions.Action1.TheVariants.{Settle}
use Rattle.jc_types.specs.declared.objects.KeyNames.{KeyNames as Key}
use Rattle.jc_types.specs.declared.specifications.Mode.TheVariants.{Indexed}
use Rattle.jc_gen.specs.Generated.{generated, end_with, job_commands, job_ends, job_key, job_spec, on_first_lane}

-- Two commands for each Job.
pairs : (number pods a n : ℕ) → length (flat_map (job_commands number pods) (range_with_len a n)) ≡ 2 * n
pairs number pods a zero = refl
pairs number pods a (suc n) =
    let rest = pairs number pods (a + 1) n in
    omega (arith, rest)

pub two_for_each : (number jobs pods : ℕ) → length (generated number jobs pods).commands ≡ 2 * jobs + 1
unfolding generated
two_for_each number jobs pods =
    let one = one_longer (flat_map (job_commands number pods) (range_with_len 0 jobs)) (on_first_lane Settle) in
    let two = pairs number pods 0 jobs in
    omega (arith, one, two)

pub spec_is_valid : (number pods i : ℕ) → 1 ≤ pods → pods ≤ 20 → IsValidSpec (job_spec number pods i)
spec_is_valid number pods i some few = record {
  parallelism = search (rules);
  completions = omega arith;
  backoff_limit = omega arith;
  deadline = tt;
  counts = tt;
  some = omega arith;
  few = omega arith;
  distinct = search (rules);
  indexed = λ e. search (rules);
  failure = λ e. absurd (search (rules, e));
  success = λ e. absurd (search (rules, e));
  per_index = tt;
  max_failed = tt;
  by_index = λ e. absurd (search (rules, e));
  beside = λ e. absurd (search (rules, e));
  fail_index = λ e. tt;
}

pub keys_are_apart : (i j : ℕ) → i < 2 ^ 32 → j < 2 ^ 32 → job_key i ≡ job_key j → i ≡ j
keys_are_apart i j small other e =
    decimal_injective i j (omega arith) (omega arith) (ap (λ (k : Key). drop 1 k.name) e)

pub some_end : (number i : ℕ) → 0 < length (job_ends number i)
some_end number i = search (rules)

pub few_ends : (number i : ℕ) → length (job_ends number i) ≤ 4
few_ends number i =
    let one = one_longer (replicate ((number + i) % 4) (end_with (pos 1))) (end_with (pos 0)) in
    let fails = length-replicate ((number + i) % 4) (end_with (pos 1)) in
    omega (arith, one, fails)
