use Rattle.std.proofs.Common.{◌≡◌, ◌+◌, drop}
use Rattle.jc_reading.specs.LineReadings.{slash_in}
use Rattle.jc_reading.proofs.parts.slash_in.Given as goal

-- So far there was no slash.
abbrev pub invariant-loop-i : goal.invariant-loop-i
invariant-loop-i l = l.i + slash_in (drop l.i l.word) ≡ slash_in l.word
