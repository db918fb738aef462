use Rattle.std.proofs.Common.{◌≡◌, ◌+◌, drop}
use Rattle.jc_reading.specs.Cuts.{word_len}
use Rattle.jc_reading.specs.declared.cuts.Place.TheVariants.{Outside}
use Rattle.jc_reading.proofs.cuts.word_len.Given as goal

-- So far no blank has ended the word.
abbrev pub invariant-loop-i : goal.invariant-loop-i
invariant-loop-i l = l.i + word_len l.place (drop l.i l.bytes) ≡ word_len Outside l.bytes
