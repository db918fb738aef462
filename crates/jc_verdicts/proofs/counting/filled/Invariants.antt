use Rattle.std.proofs.Common.{reverse, take}
use Rattle.jc_verdicts.specs.Books.{AreCounts, AreBooksOf}
use Rattle.jc_ledger.specs.Ledger.{ledger_of}
use Rattle.jc_verdicts.specs.SyncStarts.{HasStarts}
use Rattle.jc_verdicts.specs.Verdicts.{deeds_of}
use Rattle.jc_verdicts.proofs.counting.filled.Given as goal

-- The books so far, and the last begins, are those of the events before the place.
abbrev pub invariant-loop-place : goal.invariant-loop-place
invariant-loop-place l = record {
  counts : AreCounts (λ j. ledger_of j (deeds_of l.script (take l.place l.events)) (reverse l.log)) l.books.entries;
  starts : HasStarts (deeds_of l.script (take l.place l.events)) l.starts;
  sound : AreBooksOf l.log l.books.entries;
}
