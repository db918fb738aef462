-- How the failures in a row change by a sync.
use Rattle.std.proofs.Common.{◌≡◌, ℕ, ◌+◌, ◌<◌, ◌≤◌, nat_lt, Bool, true, false, cond, Some, IsSome, ap, refl, ◌∙◌, arith}
use Rattle.std.proofs.lemmas.Bool.{ltb-false}
use Rattle.jc_types.specs.declared.syncs.Backoff.{Backoff}
use Rattle.jc_types.specs.declared.syncs.CountIn.{CountIn}
use Rattle.jc_manage.specs.Backoffs.{backoff_after, failures_after, last_after}

pub failures-few : (backoff : Backoff) (counted : CountIn) (now : ℕ) → (backoff_after backoff counted now).failures ≤ backoff.failures + counted.new_failed
failures-few backoff counted now = by (nat_lt 0 counted.new_succeeded)
  where
    by : (b : Bool) → cond b 0 (backoff.failures + counted.new_failed) ≤ backoff.failures + counted.new_failed
    by true = omega arith
    by false = omega arith

pub failures-last : (backoff : Backoff) (counted : CountIn) (now : ℕ) → (0 < backoff.failures → IsSome backoff.last) → 0 < (backoff_after backoff counted now).failures → IsSome (backoff_after backoff counted now).last
failures-last backoff counted now had = by (nat_lt 0 counted.new_succeeded) (nat_lt 0 counted.new_failed) refl
  where
    by : (b m : Bool) → nat_lt 0 counted.new_failed ≡ m → 0 < cond b 0 (backoff.failures + counted.new_failed)
        → IsSome (cond b backoff.last (cond m (Some now) backoff.last))
    by true m e h = absurd (omega (arith, h))
    by false true e h = refl
    by false false e h = had (omega (arith, h, ltb-false 0 counted.new_failed e))

pub backoff-left : (backoff : Backoff) (counted : CountIn) (now : ℕ) → counted.new_failed ≡ 0 → counted.new_succeeded ≡ 0 → backoff_after backoff counted now ≡ backoff
backoff-left backoff counted now no_failed no_succeeded =
    let failures : failures_after backoff.failures counted.new_failed counted.new_succeeded ≡ backoff.failures =
    ap (λ s. failures_after backoff.failures counted.new_failed s) no_succeeded ∙ ap (λ f. backoff.failures + f) no_failed ∙ omega arith in
    let last : last_after backoff.last now counted.new_failed counted.new_succeeded ≡ backoff.last =
    ap (λ s. last_after backoff.last now counted.new_failed s) no_succeeded ∙ ap (λ f. last_after backoff.last now f 0) no_failed in
    λ i. record { failures = failures i; last = last i }
