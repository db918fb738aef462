use Rattle.std.proofs.Common.{reverse, take, sym, ◌∙◌, subst, arith}
use Rattle.std.proofs.lemmas.List.{length-reverse, length-take-le}
use Rattle.jc_verdicts.specs.LogPlaces.{ArePlaces}
use Rattle.jc_verdicts.proofs.TouchFacts.{first-more}
use Rattle.jc_verdicts.proofs.places.places_of.Goals as goal

-- One more entry is taken in.
pub loop-place-preserved : goal.loop-place-preserved
loop-place-preserved c =
    let log = c.args.log.now in
    let place = c.loop-place.place in
    subst (λ es. ArePlaces es c.take_in.new.places) (sym (first-more log place c.index-log-place.result (omega arith) c.index-log-place.is))
    (c.in_ok-take_in.ensures (reverse (take place log)) (length-reverse (take place log) ∙ length-take-le place log (omega arith)) c.loop-place.invariant)
