-- A number in halves of 32 bits, and what they are of it.
use Rattle.std.proofs.Common.{◌≡◌, ℕ, ◌+◌, ◌*◌, ◌/◌, ◌%◌, ◌<◌, arith}

pub upper_half : (high low : ℕ) → low < 4294967296 → (high * 4294967296 + low) / 4294967296 ≡ high
upper_half high low small = omega (arith, small)

pub lower_half : (high low : ℕ) → low < 4294967296 → (high * 4294967296 + low) % 4294967296 ≡ low
lower_half high low small = omega (arith, small)
