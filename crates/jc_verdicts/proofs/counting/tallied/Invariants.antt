use Rattle.std.proofs.Common.{◌≡◌, drop}
use Rattle.std.specs.Option.{option_map}
use Rattle.jc_types.specs.declared.numbers.Uid.{Uid}
use Rattle.jc_types.specs.Keys.{same_uid}
use Rattle.jc_log.specs.Tables.{at}
use Rattle.jc_verdicts.specs.Books.{totals_of}
use Rattle.jc_verdicts.proofs.counting.tallied.Given as goal

-- The rows so far are those of the books from the place on.
abbrev pub invariant-loop-place : goal.invariant-loop-place
invariant-loop-place l = (j : Uid) → at same_uid l.rows j ≡ option_map totals_of (at same_uid (drop l.place l.books.entries) j)
