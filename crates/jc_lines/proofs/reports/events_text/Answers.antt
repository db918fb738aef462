use Rattle.std.proofs.Common.{rules, arith, ◌≡◌, ◌+◌, ◌++◌, ◌∷◌, [], take}
use Rattle.std.proofs.lemmas.List.{take_more}
use Rattle.jc_lines.proofs.Texts.{events-more}
use Rattle.jc_lines.proofs.reports.events_text.Goals as goal

-- The line of one more event.
pub loop-place-preserved : goal.loop-place-preserved
loop-place-preserved c =
    let events = c.args.events.now in
    let place = c.loop-place.place in
    let past = c.index-events-place.result in
    let more : take (place + 1) events ≡ take place events ++ past ∷ [] = search (rules, take_more) in
    events-more c.args.script.now events place past _ _ (omega arith) more c.loop-place.invariant c.in_ok-print_past.ensures
