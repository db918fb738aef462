use Rattle.std.proofs.Common.{◌≡◌, drop}
use Rattle.jc_reading.specs.LineReadings.{digits_from}
use Rattle.jc_reading.proofs.reading.read_number.Given as goal

-- So far there were digits alone.
abbrev pub invariant-loop-i : goal.invariant-loop-i
invariant-loop-i l = digits_from l.number (drop l.i l.word) ≡ digits_from 0 l.word
