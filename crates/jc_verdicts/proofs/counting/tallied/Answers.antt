use Rattle.std.proofs.Common.{◌-◌, drop, sym, arith}
use Rattle.jc_verdicts.proofs.BookFacts.{drop-found, tallied-more}
use Rattle.jc_verdicts.proofs.counting.tallied.Goals as goal

-- Each book is few.
pub totals-requires-clause-rows : goal.totals-requires-clause-rows
totals-requires-clause-rows c = (c.requires c.in-Some.uid.now c.in-Some.book.now c.in-Some.ensures.value).0

pub totals-requires-clause-done : goal.totals-requires-clause-done
totals-requires-clause-done c = (c.requires c.in-Some.uid.now c.in-Some.book.now c.in-Some.ensures.value).1

-- The totals of the book at the place are put, before those that come after it.
pub loop-place-preserved : goal.loop-place-preserved
loop-place-preserved c =
    let books = c.args.books.now.entries in
    tallied-more (drop (c.loop-place.place - 1) books) (drop c.loop-place.place books) c.in-Some.uid.now c.in-Some.book.now c.loop-place.rows c.put.new.self c.totals.result
    (drop-found books (c.loop-place.place - 1) c.loop-place.place (c.in-Some.uid.now, c.in-Some.book.now) (omega arith) (sym c.in-Some.ensures.entry))
    c.totals.ensures c.in_ok-put.ensures.sets c.loop-place.invariant
