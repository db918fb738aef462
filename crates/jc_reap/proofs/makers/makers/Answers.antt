use Rattle.std.proofs.Common.{arith, ◌+◌, ◌++◌, ◌∷◌, [], reverse, take, ap, sym, ◌∙◌}
use Rattle.std.proofs.lemmas.List.{take_more}
use Rattle.jc_types.specs.declared.numbers.Uid.{Uid}
use Rattle.jc_types.specs.Keys.{same_uid}
use Rattle.jc_log.specs.Tables.{at}
use Rattle.jc_reap.proofs.Lists.{maker-more}
use Rattle.jc_reap.proofs.makers.makers.Goals as goal

-- One more event.
pub loop-past-preserved : goal.loop-past-preserved
loop-past-preserved c =
    let events = c.args.events.now in
    let i = c.loop-past.past-index in
    let past = c.past-item.result in
    maker-more c.args.commands.now (take i events) (take (i + 1) events) past (λ (u : Uid). at same_uid c.put_maker.new.makers u)
    (take_more events i past (omega (arith, c.loop-past-test.true)) ∙ ap (λ p. take i events ++ p ∷ []) (sym c.past-item.is))
    (c.in_ok-put_maker.ensures (reverse (take i events)) c.loop-past.invariant)
