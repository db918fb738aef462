use Rattle.std.proofs.Common.{arith, rules, ◌≡◌, ◌+◌, [], ◌∷◌, ◌++◌, reverse, take, sym, ap, ◌∙◌, subst}
use Rattle.std.proofs.lemmas.List.{take_all, take_more}
use Rattle.jc_log.specs.Deeds.{deed}
use Rattle.jc_verdicts.specs.Books.{done_at, rows_at}
use Rattle.jc_ledger.specs.Ledger.{ledger_of}
use Rattle.jc_verdicts.specs.SyncStarts.{HasStarts}
use Rattle.jc_verdicts.specs.Verdicts.{IsCount, deeds_of}
use Rattle.jc_verdicts.proofs.VerdictSteps.{deeds-more}
use Rattle.jc_verdicts.proofs.counting.filled.Goals as goal

-- One more event is taken in.
pub loop-place-preserved : goal.loop-place-preserved
loop-place-preserved c =
    let script = c.args.script.now in
    let events = c.args.events.now in
    let log = c.args.log.now in
    let place = c.loop-place.place in
    let past = c.index-events-place.result in
    let more : take (place + 1) events ≡ take place events ++ past ∷ [] = search (rules, take_more) in
    let next : deeds_of script (take (place + 1) events) ≡ deed script past ∷ deeds_of script (take place events) = ap (deeds_of script) more ∙ deeds-more script (take place events) past in
    let books = c.take_in.new.books.entries in
    record {
      counts =
          λ j.
          subst (λ ds. IsCount (rows_at j books) (done_at j books) (ledger_of j ds (reverse log))) (sym next)
          (c.in_ok-take_in.ensures.counts (λ i. ledger_of i (deeds_of script (take place events)) (reverse log)) c.loop-place.invariant.counts j);
      starts =
          subst (λ ds. HasStarts ds c.add_begin.new.starts) (sym next)
          (c.in_ok-add_begin.ensures (deeds_of script (take place events)) c.loop-place.invariant.starts);
      sound = c.in_ok-take_in.ensures.sound;
    }

-- All events are taken in at the end.
pub returns : goal.returns
returns c =
    let script = c.args.script.now in
    let events = c.args.events.now in
    let books = c.loop-place.books.entries in
    let past_end = c.loop-place-test.false in
    λ j.
    subst (λ evs. IsCount (rows_at j books) (done_at j books) (ledger_of j (deeds_of script evs) (reverse c.args.log.now)))
    (take_all c.loop-place.place events (omega (arith, past_end))) (c.loop-place.invariant.counts j)
