use Rattle.std.proofs.Common.{◌++◌, refl, reverse, take, sym, ap, ◌∙◌, subst}
use Rattle.jc_types.specs.Keys.{same_uid}
use Rattle.jc_log.specs.Log.{pods_of}
use Rattle.jc_log.specs.Tables.{at}
use Rattle.jc_states.specs.PodLists.{IsRising}
use Rattle.jc_verdicts.specs.Verdicts.{rows_for, success_indexes}
use Rattle.jc_verdicts.proofs.BookFacts.{done-known, knows-more, new-is, seen-judged}
use Rattle.jc_verdicts.proofs.StayFacts.{indexes-kept_pods, rows-kept_pods}
use Rattle.jc_verdicts.proofs.TouchFacts.{seen-rise}
use Rattle.jc_verdicts.proofs.books.judge.Goals as goal

-- The list is that of the Job.
pub look-requires-clause-places : goal.look-requires-clause-places
look-requires-clause-places c = c.places_under-own.ensures ∙ c.requires.places.pods c.args.job.now.uid

-- The pods rise.
pub new_rows-requires-clause-rising : goal.new_rows-requires-clause-rising
new_rows-requires-clause-rising c =
    subst IsRising (sym c.as_slice-pods.ensures.value) (seen-rise c.args.book.now.known.entries c.args.job.now.uid c.args.log.now c.look.new.pods.items c.in_ok-book.field-0 c.in_ok-book.ensures.seen)

-- The book is in order after the new rows are entered.
pub returns-clause-sound : goal.returns-clause-sound
returns-clause-sound c = record {
  seen =
      seen-judged c.args.book.now.known.entries c.enter.new.known.entries c.args.job.now.uid c.args.log.now c.look.new.pods.items c.in_ok-book.field-0 c.deref.result.now c.as_slice-fresh.result.now c.in_ok-book.ensures.seen
      (c.as_slice-fresh.ensures.value ∙ c.in_ok-new.ensures ∙ ap (rows_for c.deref.result.now (at same_uid c.args.book.now.known.entries)) c.as_slice-pods.ensures.value) c.in_ok-enter.ensures.known;
  order = c.in_ok-take_successes.ensures.order;
  known =
      knows-more c.args.book.now.known.entries c.enter.new.known.entries c.args.book.now.rows.items c.as_slice-fresh.result.now c.enter.new.rows.items c.requires.sound.known c.in_ok-enter.ensures.known
      c.in_ok-enter.ensures.rows;
  last = c.in_ok-enter.ensures.last;
}

-- The new rows are those that the write judges.
pub returns-clause-rows : goal.returns-clause-rows
returns-clause-rows c =
    c.in_ok-enter.ensures.rows
    ∙ ap (λ new. c.args.book.now.rows.items ++ new)
    (new-is c.args.job.now c.deref.result.now c.args.log.now c.args.seen c.args.book.now.known.entries
    c.args.book.now.rows.items c.as_slice-fresh.result.now
    (pods_of c.args.job.now.uid (reverse (take c.args.seen c.args.log.now))) c.deref.ensures refl
    c.requires.sound.known
    (c.as_slice-fresh.ensures.value ∙ c.in_ok-new.ensures ∙ ap (rows_for c.deref.result.now (at same_uid c.args.book.now.known.entries)) (c.as_slice-pods.ensures.value ∙ c.in_ok-book.ensures.pods)
    ∙ rows-kept_pods c.args.book.now.known.entries c.deref.result.now (pods_of c.args.job.now.uid (reverse (take c.args.seen c.args.log.now)))))

-- The indexes are those that are done after it.
pub returns-clause-done : goal.returns-clause-done
returns-clause-done c =
    c.in_ok-take_successes.ensures.done
    ∙ done-known c.args.job.now c.args.log.now c.args.seen c.args.book.now.known.entries c.args.book.now.rows.items c.args.book.now.done.items
    (success_indexes c.args.job.now (at same_uid c.args.book.now.known.entries) c.as_slice-pods.result.now) (pods_of c.args.job.now.uid (reverse (take c.args.seen c.args.log.now))) refl
    c.requires.sound.known
    (ap (success_indexes c.args.job.now (at same_uid c.args.book.now.known.entries)) (c.as_slice-pods.ensures.value ∙ c.in_ok-book.ensures.pods)
    ∙ indexes-kept_pods c.args.book.now.known.entries c.args.job.now (pods_of c.args.job.now.uid (reverse (take c.args.seen c.args.log.now))))
