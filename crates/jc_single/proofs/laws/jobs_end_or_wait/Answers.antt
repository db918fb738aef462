-- The lemma on Jobs at the end of a play.
use Rattle.jc_single.proofs.laws.jobs_end_or_wait.Goals as goal

pub returns : goal.returns
returns c script shape history p =
    let can = p.playable in
    (c.legal_histories_keep_the_promises.ensures script shape history can.valid can.some_controllers can.some_workers can.few_events
    (c.plays_are_orderly_histories.ensures.history script shape can.fits history p.is)).waits
    (c.settled_plays_are_at_rest.ensures script shape can.fits history p.is (p.play.unfull shape.events p.enough) p.settles)
