-- The seconds of a date and time, cast to the number of a moment.
use Rattle.std.proofs.Common.{◌≡◌, ℕ, ap, ◌∙◌, arith, Option, Some, None, ℤ, pos, ◌*ℤ◌, ◌≤ℤ◌, FitsSigned, w64, to_z, of_z, nat_abs}
use Rattle.std.proofs.lemmas.Int.{ints, to_z-of_z}
use Rattle.std.specs.Prelude.{SomeIff}
use Rattle.std.specs.Int.{FitsUnsignedBits}
use Rattle.jiff_core.proofs.SignedLemmas.{signed_arith}
use Rattle.jc_moment.specs.Range.{IsMoment}

-- The seconds of the latest date and time are those of the last moment.
in_range : (z : ℤ) (m : ℕ) → z ≡ pos m → (z *ℤ pos 1_000_000_000) ≤ℤ pos 253_402_300_799_999_999_999 → IsMoment m
in_range z m is last = omega (arith, signed_arith)

cast : (z : ℤ) (m : ℕ) → z ≡ pos m → IsMoment m → to_z w64 (of_z w64 z) ≡ pos m
cast z m is below =
    let fits : FitsSigned w64 (pos m) = omega (arith, ints) in
    rw is (to_z-of_z w64 (pos m) fits)

pub is_unsigned : (z : ℤ) (m : ℕ) → z ≡ pos m → (z *ℤ pos 1_000_000_000) ≤ℤ pos 253_402_300_799_999_999_999 → FitsUnsignedBits 64 (to_z w64 (of_z w64 z))
is_unsigned z m is last =
    let below : IsMoment m = in_range z m is last in
    rw (cast z m is below) (omega arith)

pub is_moment : (z : ℤ) (m seconds : ℕ) (r : Option ℕ) → z ≡ pos m → (z *ℤ pos 1_000_000_000) ≤ℤ pos 253_402_300_799_999_999_999 → seconds ≡ nat_abs (to_z w64 (of_z w64 z)) → SomeIff r (IsMoment seconds) seconds → r ≡ Some m
is_moment z m seconds None is last abs known =
    let same : seconds ≡ m = abs ∙ ap nat_abs (cast z m is (in_range z m is last)) in
    absurd (known (rw same (in_range z m is last)))
is_moment z m seconds (Some x) is last abs known =
    let same : seconds ≡ m = abs ∙ ap nat_abs (cast z m is (in_range z m is last)) in
    ap Some (known.1 ∙ same)
