use Rattle.std.proofs.Common.{◌≡◌, ◌∙◌, ℕ, zero, suc, ◌<◌, None, Some, replicate, slice_get, ap, refl, arith}
use Rattle.jc_lanes.proofs.lanes.Lanes.of_none.Goals as goal

-- Each of so many is the same.
each_is : {A : Type 0} (n i : ℕ) (x : A) → i < n → slice_get (replicate n x) i ≡ Some x
each_is zero i x within = absurd (omega (arith, within))
each_is (suc n) zero x within = refl
each_is (suc n) (suc i) x within = each_is n i x (omega (arith, within))

pub returns : goal.returns
returns c = λ lane inside.
    ap (λ items. slice_get items lane) c.loop.invariant ∙ each_is c.loop.counter lane None (omega (arith, inside))
