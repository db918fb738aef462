-- What is left of the words gets shorter, and the values are those of the pairs that were read.
use Rattle.std.proofs.Common.{map, string_bytes, length}
use Rattle.jc_words.proofs.Reading.{IsRead}
use Rattle.jc_words.proofs.options.read_options.Given as goal

abbrev pub invariant-reading : goal.invariant-reading
invariant-reading l = IsRead (map string_bytes l.fn.words) (map string_bytes l.left) l.said

abbrev pub decreases-reading : goal.decreases-reading
decreases-reading l = length l.left
