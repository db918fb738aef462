-- The books are those of the history and the log, and have fewer rows and indexes than the log may have entries.
use Rattle.std.proofs.Common.{reverse}
use Rattle.jc_log.specs.Deeds.{deeds}
use Rattle.jc_verdicts.specs.Books.{done_at, rows_at}
use Rattle.jc_verdicts.proofs.BookFacts.{books-few, verdicts-each}
use Rattle.jc_verdicts.proofs.VerdictFacts.{kept_of}
use Rattle.jc_verdicts.proofs.counting.all_verdicts.Goals as goal

pub tallied-requires : goal.tallied-requires
tallied-requires c =
    books-few (deeds c.args.script.now c.args.history.now) c.args.log.now c.in_ok-books.books.entries
    (λ j. kept_of c.args.script.now c.args.history.now c.as_slice.result.now c.args.log.now
    c.as_slice-entries.result.now j (rows_at j c.in_ok-books.books.entries) (done_at j c.in_ok-books.books.entries)
    c.as_slice.ensures c.as_slice-entries.ensures (c.in_ok-books.ensures j))
    (λ j. c.pods_are_judged_once.ensures.distinct j (deeds c.args.script.now c.args.history.now) (reverse c.args.log.now)) c.requires.few_entries

pub returns : goal.returns
returns c = record {
  counts =
      verdicts-each (deeds c.args.script.now c.args.history.now) c.args.log.now c.in_ok-books.books.entries
      (λ j. kept_of c.args.script.now c.args.history.now c.as_slice.result.now c.args.log.now
      c.as_slice-entries.result.now j (rows_at j c.in_ok-books.books.entries) (done_at j c.in_ok-books.books.entries)
      c.as_slice.ensures c.as_slice-entries.ensures (c.in_ok-books.ensures j))
      c.in_ok-rows.rows c.in_ok-rows.ensures;
}
