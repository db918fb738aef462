-- The seconds to wait after failures.
use Rattle.std.proofs.Common.{◌≡◌, ℕ, ◌*◌, ◌-◌, ◌^◌, ◌<◌, ◌≤◌, min, ap, ◌∙◌, arith, ⊎_elim}
use Rattle.std.proofs.Math.Pow.{pow_mono}
use Rattle.std.proofs.lemmas.Bool.{cases_lt}
use Rattle.jc_manage.specs.Backoffs.{pause}

-- More than six doublings change nothing.
pub pause-is : (n d r : ℕ) → d ≡ min (n - 1) 6 → r ≡ min (10 * 2 ^ d) 360 → r ≡ pause n
unfolding pause
pause-is n d r e f = f ∙ ⊎_elim few many (cases_lt (n - 1) 6)
  where
    few : n - 1 < 6 → min (10 * 2 ^ d) 360 ≡ min (10 * 2 ^ (n - 1)) 360
    few h = let same : d ≡ n - 1 = omega arith in ap (λ k. min (10 * 2 ^ k) 360) same

    many : 6 ≤ n - 1 → min (10 * 2 ^ d) 360 ≡ min (10 * 2 ^ (n - 1)) 360
    many h =
        let six : d ≡ 6 = omega arith in
        let far : 2 ^ 6 ≤ 2 ^ (n - 1) = pow_mono h in
        let most : min (10 * 2 ^ (n - 1)) 360 ≡ 360 = omega (arith, far) in
        let here : min (10 * 2 ^ d) 360 ≡ 360 = ap (λ k. min (10 * 2 ^ k) 360) six in
        omega (arith, here, most)
