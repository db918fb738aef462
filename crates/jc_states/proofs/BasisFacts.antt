-- The test of equality of bases is exact.
use Rattle.std.proofs.Common.{◌≡◌, ℕ, true, eqb, refl}
use Rattle.std.specs.Cmp.Lexicographic.{pointwise, pointwise_decides}
use Rattle.std.proofs.lemmas.Bool.{eqb-true, eq-eqb, and_parts, and_from}
use Rattle.jc_types.specs.Equality.{IsExact, same_job, same_option, same_pod}
use Rattle.jc_types.specs.Keys.{same_key}
use Rattle.jc_types.proofs.KeyFacts.{same_key-eq, same_key-itself}
use Rattle.jc_types.proofs.EqualityFacts.{exact_from, option-exact}
use Rattle.jc_types.proofs.ObjectEqualityFacts.{backoff-exact, job-exact, pod-exact, same_number}
use Rattle.jc_states.specs.Bases.{same_basis}
use Rattle.jc_states.specs.declared.bases.Basis.{Basis}

key-exact : IsExact same_key
key-exact = exact_from same_key same_key-eq same_key-itself

pub basis-exact : IsExact same_basis
basis-exact = exact_from same_basis equal itself
  where
    jobs : IsExact (same_option same_job)
    jobs = option-exact same_job job-exact

    pods : IsExact (pointwise same_pod)
    pods = pointwise_decides pod-exact

    equal : (a b : Basis) → same_basis a b ≡ true → a ≡ b
    equal a b e =
        let p1 = and_parts (same_key a.key b.key) _ e in
        let p2 = and_parts (same_option same_job a.job b.job) _ p1.1 in
        let p3 = and_parts (pointwise same_pod a.pods b.pods) _ p2.1 in
        let p4 = and_parts (eqb a.jobs_at.0 b.jobs_at.0) _ p3.1 in
        let p5 = and_parts (eqb a.pods_at.0 b.pods_at.0) _ p4.1 in
        let p6 = and_parts (eqb a.now b.now) _ p5.1 in
        λ i. record {
          key = (key-exact a.key b.key).0 p1.0 i;
          job = (jobs a.job b.job).0 p2.0 i;
          pods = (pods a.pods b.pods).0 p3.0 i;
          jobs_at = record { 0 = eqb-true a.jobs_at.0 b.jobs_at.0 p4.0 i };
          pods_at = record { 0 = eqb-true a.pods_at.0 b.pods_at.0 p5.0 i };
          now = eqb-true a.now b.now p6.0 i;
          backoff = (backoff-exact a.backoff b.backoff).0 p6.1 i;
        }

    itself : (a : Basis) → same_basis a a ≡ true
    itself a =
        and_from (same_key a.key a.key) _ ((key-exact a.key a.key).1 refl)
        (and_from (same_option same_job a.job a.job) _ ((jobs a.job a.job).1 refl)
        (and_from (pointwise same_pod a.pods a.pods) _ ((pods a.pods a.pods).1 refl)
        (and_from (eqb a.jobs_at.0 a.jobs_at.0) _ (same_number a.jobs_at.0)
        (and_from (eqb a.pods_at.0 a.pods_at.0) _ (same_number a.pods_at.0)
        (and_from (eqb a.now a.now) _ (same_number a.now)
        ((backoff-exact a.backoff a.backoff).1 refl))))))
