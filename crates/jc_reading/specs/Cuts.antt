-- The words of a line: a blank ends a word, but none within quotes does.
--     place_after place byte     where the next byte stands
--     word_len place bytes       how long the first word is, where its first byte stands there
--     first_word_in, behind_word     the first word, and what stands behind its blank
--     word_at n bytes            the word with n words before it
--     scanned place bytes        where the byte behind them stands, where no blank ends a word before
--     IsWord bytes               they are one word
use Rattle.std.specs.Prelude.{◌≡◌, ℕ, zero, suc, ◌+◌, ◌==◌, Bool, false, List, [], ◌∷◌, take, drop, Option, Some, None, if◌then◌else◌}
use Rattle.jc_reading.specs.declared.cuts.Place.{Place}
use Rattle.jc_reading.specs.declared.cuts.Place.TheVariants.{Outside, Inside, Escaped}

abbrev pub place_after : Place → ℕ → Place
place_after Outside byte = if byte == 34 then Inside else Outside
place_after Inside byte = if byte == 34 then Outside else if byte == 92 then Escaped else Inside
place_after Escaped byte = Inside

abbrev pub ends_word : Place → ℕ → Bool
ends_word Outside byte = byte == 32
ends_word Inside byte = false
ends_word Escaped byte = false

abbrev pub word_len : Place → List ℕ → ℕ
word_len place [] = 0
word_len place (byte ∷ bytes) = if ends_word place byte then 0 else suc (word_len (place_after place byte) bytes)

abbrev pub first_word_in : List ℕ → List ℕ
first_word_in bytes = take (word_len Outside bytes) bytes

abbrev pub behind_word : List ℕ → List ℕ
behind_word bytes = drop (word_len Outside bytes + 1) bytes

abbrev pub word_at : ℕ → List ℕ → List ℕ
word_at zero bytes = first_word_in bytes
word_at (suc n) bytes = word_at n (behind_word bytes)

abbrev pub scanned : Place → List ℕ → Option Place
scanned place [] = Some place
scanned place (byte ∷ bytes) = if ends_word place byte then None else scanned (place_after place byte) bytes

abbrev pub IsWord : List ℕ → Type 0
IsWord bytes = scanned Outside bytes ≡ Some Outside
