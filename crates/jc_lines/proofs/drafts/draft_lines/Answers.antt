use Rattle.std.proofs.Common.{rules, arith, ◌≡◌, ◌+◌, ◌++◌, ◌∷◌, [], take}
use Rattle.std.proofs.lemmas.List.{take_more}
use Rattle.jc_lines.proofs.Texts.{drafted-more}
use Rattle.jc_lines.proofs.drafts.draft_lines.Goals as goal

-- The line of one more event.
pub loop-place-preserved : goal.loop-place-preserved
loop-place-preserved c =
    let events = c.args.events.now in
    let place = c.loop-place.place in
    let past = c.index-events-place.result in
    let more : take (place + 1) events ≡ take place events ++ past ∷ [] = search (rules, take_more) in
    drafted-more c.args.script.now events place past _ _ _ _ (omega arith) more c.loop-place.invariant
    c.in_ok-draft_line.ensures.line c.in_ok-draft_line.ensures.end
