use Rattle.std.proofs.Common.{IfSome, IsSome, None, Some, ap, refl, subst, sym, ◌∙◌}
use Rattle.std.specs.Option.{option_copied_mut}
use Rattle.jc_ranges.specs.Sets.{IsIncreasing}
use Rattle.jc_types.specs.Keys.{same_uid}
use Rattle.jc_log.specs.Tables.{at}
use Rattle.jc_verdicts.specs.Books.{IsBookOf}
use Rattle.jc_verdicts.specs.Verdicts.{outcome_in}
use Rattle.jc_verdicts.proofs.BookFacts.{book-judged, books-sound, done-of, rows-of}
use Rattle.jc_verdicts.proofs.TouchFacts.{seen-first}
use Rattle.jc_verdicts.proofs.books.judge_in.Goals as goal

-- The book of the Job is its own, as each is.
pub judge-requires-clause-sound : goal.judge-requires-clause-sound
judge-requires-clause-sound c =
    subst (λ o. IfSome o (λ book. IsBookOf c.args.job.now.uid c.args.log.now book)) (sym c.get_mut.ensures.value ∙ ap option_copied_mut c.in-Some.is) (c.requires.sound c.args.job.now.uid)

-- It is changed where it stands.
pub returns-in-Some-clause-sound : goal.returns-in-Some-clause-sound
returns-in-Some-clause-sound c =
    let there = sym c.get_mut.ensures.value ∙ ap option_copied_mut c.in-Some.is in
    books-sound c.args.job.now.uid c.args.books.now.entries c.args.books.now.entries (c.get_mut.follows.lender c.judge.new.book).entries c.judge.new.book
    (λ j other. refl) (((c.get_mut.follows.holds c.judge.new.book).3 (subst IsSome (sym there) refl)).0) c.args.log.now c.requires.sound c.in_ok-judge.ensures.sound

pub returns-in-Some-clause-counts : goal.returns-in-Some-clause-counts
returns-in-Some-clause-counts c =
    λ ledgers version counts.
    let there = sym c.get_mut.ensures.value ∙ ap option_copied_mut c.in-Some.is in
    book-judged c.args.job.now c.args.log.now c.args.seen version ledgers c.args.books.now.entries c.args.books.now.entries (c.get_mut.follows.lender c.judge.new.book).entries c.in-Some.book.now c.judge.new.book
    (λ j other. refl) (((c.get_mut.follows.holds c.judge.new.book).3 (subst IsSome (sym there) refl)).0)
    (rows-of c.args.job.now.uid c.args.books.now.entries (Some c.in-Some.book.now) there)
    (done-of c.args.job.now.uid c.args.books.now.entries (Some c.in-Some.book.now) there)
    c.in_ok-judge.ensures.rows c.in_ok-judge.ensures.done counts

-- An empty book is a Job's own.
pub judge-requires-2-clause-sound : goal.judge-requires-2-clause-sound
judge-requires-2-clause-sound c = record {
  seen = seen-first c.empty-book.result.known.entries c.args.job.now.uid c.args.log.now c.empty-book.result.pods.items c.empty-book.result.at c.empty-book.ensures.pods c.empty-book.ensures.at;
  order = subst IsIncreasing (sym c.empty-book.ensures.done) tt;
  known = λ u. ap (λ es. at same_uid es u) c.empty-book.ensures.known ∙ ap (λ rows. outcome_in rows u) (sym c.empty-book.ensures.rows);
  last = λ u above. ap (λ es. at same_uid es u) c.empty-book.ensures.known;
}

-- The book of the Job is new, and the others are as before.
pub returns-clause-sound : goal.returns-clause-sound
returns-clause-sound c =
    books-sound c.args.job.now.uid c.args.books.now.entries c.get_mut.follows.lender-at-none.entries c.insert.new.self.entries c.judge-2.new.book
    (λ j other. ap (λ es. at same_uid es j) (λ i. (c.get_mut.follows.holds-at-none i).entries)) c.in_ok-insert.ensures.updates.0 c.args.log.now
    c.requires.sound c.in_ok-judge-2.ensures.sound

pub returns-clause-counts : goal.returns-clause-counts
returns-clause-counts c =
    λ ledgers version counts.
    let none = sym c.get_mut.ensures.value ∙ ap option_copied_mut c.in_default.is in
    book-judged c.args.job.now c.args.log.now c.args.seen version ledgers c.args.books.now.entries c.get_mut.follows.lender-at-none.entries c.insert.new.self.entries c.empty-book.result c.judge-2.new.book
    (λ j other. ap (λ es. at same_uid es j) (λ i. (c.get_mut.follows.holds-at-none i).entries)) c.in_ok-insert.ensures.updates.0
    (c.empty-book.ensures.rows ∙ rows-of c.args.job.now.uid c.args.books.now.entries None none)
    (c.empty-book.ensures.done ∙ done-of c.args.job.now.uid c.args.books.now.entries None none)
    c.in_ok-judge-2.ensures.rows c.in_ok-judge-2.ensures.done counts
