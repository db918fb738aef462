-- What a fast search of bytes finds.
use Rattle.std.proofs.Common.{◌≡◌, refl, ℕ, ◌==◌, List, length, Bool, true, false, Option, Some, None, arith}
use Rattle.std.specs.List.{position, position_or_len}
use Rattle.std.proofs.lemmas.List.Sums.{position_or_len_is}
use Rattle.memchr.specs.Find.{IsFirstByte, is_byte}

fails : (b : Bool) → ¬ (b ≡ true) → b ≡ false
fails true fault = absurd (fault refl)
fails false fault = refl

-- The first place of a byte is that of the first element that passes the test.
pub first_byte : (byte : ℕ) (text : List ℕ) (found : Option ℕ) → IsFirstByte (is_byte byte) text found
    → found ≡ position (λ b. b == byte) text
first_byte byte text None nowhere =
    let first : position_or_len (λ b. b == byte) text ≡ length text =
    position_or_len_is (λ b. b == byte) text (length text) 0 (omega arith)
    (λ k within. fails _ (nowhere k (omega arith) within))
    (λ within. absurd (omega (arith, within)))
    in grind (arith, first)
first_byte byte text (Some k) found =
    let first : position_or_len (λ b. b == byte) text ≡ k =
    position_or_len_is (λ b. b == byte) text k 0 (omega (arith, found.0.high))
    (λ j before. fails _ (found.0.before j (omega arith) before))
    (λ within. found.1)
    in grind (arith, first, found.0.high)
