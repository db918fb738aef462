use Rattle.std.proofs.Common.{Some, reverse}
use Rattle.std.proofs.lemmas.Result.{on_ok_weaker}
use Rattle.jc_log.specs.Deeds.{deed}
use Rattle.jc_ledger.specs.Ledger.{judging_of}
use Rattle.jc_verdicts.specs.Verdicts.{deeds_of, judging_as}
use Rattle.jc_verdicts.proofs.BookFacts.{counts-after}
use Rattle.jc_verdicts.proofs.counting.take_in.Goals as goal

-- The books count as the ledgers after the write that the event is.
pub returns-in-Some-clause-counts : goal.returns-in-Some-clause-counts
returns-in-Some-clause-counts c =
    on_ok_weaker c.judge_in.result
    (λ counts ledgers old.
    counts-after (reverse c.args.log.now) (Some (judging_as c.args.past.now c.in-Some.job.now c.in-Some.seen))
    (judging_of (deed c.args.script.now c.args.past.now) (deeds_of c.args.script.now c.args.before.now)
    (reverse c.args.log.now)) c.in-Some.ensures ledgers
    c.judge_in.new.books.entries (counts ledgers c.args.past.now.length.0 old))
    c.judge_in.ensures.counts
