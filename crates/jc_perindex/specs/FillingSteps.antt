-- What the steps of the computation give.
--     one_failure n fail             the count of an index with one failure
--     with_failure fail count        the count with one failure more
--     raise n fail counts            the counts with one failure more of the index
--     raise_for failure pod counts   the counts with the failure of the pod
--     raise_each failure counts pods the counts with the failure of each pod
use Rattle.std.specs.Prelude.{ℕ, ◌+◌, ◌==◌, nat_lt, Bool, ◌||◌, List, [], ◌∷◌, if◌then◌else◌, Option}
use Rattle.std.specs.Option.{option_map_or}
use Rattle.jc_types.specs.declared.objects.Pod.{Pod}
use Rattle.jc_types.specs.declared.policies.FailurePolicy.{FailurePolicy}
use Rattle.jc_types.specs.declared.statuses.IndexCount.{IndexCount}
use Rattle.jc_perindex.specs.Failures.{policy_fails_index}

-- The count of an index with one failure.
abbrev pub one_failure : ℕ → Bool → IndexCount
one_failure n fail = record { index = n; failures = 1; fail = fail }

-- The count with one failure more.
abbrev pub with_failure : Bool → IndexCount → IndexCount
with_failure fail count = record count { failures = count.failures + 1; fail = count.fail || fail }

-- The counts with one failure more of the index, which is put before the first greater one where it had none.
abbrev pub raise : ℕ → Bool → List IndexCount → List IndexCount
raise n fail [] = one_failure n fail ∷ []
raise n fail (count ∷ counts) =
    if nat_lt n count.index then one_failure n fail ∷ count ∷ counts
    else if n == count.index then with_failure fail count ∷ counts
    else count ∷ raise n fail counts

-- The counts with the failure of the pod, where it has an index.
abbrev pub raise_for : Option FailurePolicy → Pod → List IndexCount → List IndexCount
raise_for failure pod counts =
    option_map_or (λ n. raise n (policy_fails_index failure pod) counts) pod.index counts

-- The counts with the failure of each of the pods.
abbrev pub raise_each : Option FailurePolicy → List IndexCount → List Pod → List IndexCount
raise_each failure counts [] = counts
raise_each failure counts (pod ∷ pods) = raise_for failure pod (raise_each failure counts pods)
