use Rattle.std.proofs.Common.{◌∙◌, ap, length}
use Rattle.jc_turn.proofs.Fresh.{few_fresh, free_fresh, lent_all, own_fresh}
use Rattle.jc_shared.proofs.by_turn_lock.run_lock.Goals as goal

pub run_seats-requires-clause-few_seats : goal.run_seats-requires-clause-few_seats
run_seats-requires-clause-few_seats g c κs within = few_fresh c.args.lock c.args.threads c.as_mut_slice.result.now (c.as_mut_slice.ensures.seats ∙ c.requires.fresh)

pub run_seats-requires-clause-own : goal.run_seats-requires-clause-own
run_seats-requires-clause-own g c κs within = own_fresh c.args.lock c.args.threads c.as_mut_slice.result.now (c.as_mut_slice.ensures.seats ∙ c.requires.fresh)

pub run_seats-requires-clause-free : goal.run_seats-requires-clause-free
run_seats-requires-clause-free g c κs within = free_fresh c.args.lock c.args.threads c.as_mut_slice.result.now (c.as_mut_slice.ensures.seats ∙ c.requires.fresh)

pub close-requires-clause-seats : goal.close-requires-clause-seats
close-requires-clause-seats g c =
    lent_all c.args.lock c.args.threads c.args.seats c.requires.fresh c.run_seats.new.seats c.requires.count (c.run_seats.auto.seats ∙ ap length c.as_mut_slice.ensures.seats) c.run_seats.ensures.own
