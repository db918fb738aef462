use Rattle.std.proofs.Common.{arith, filter}
use Rattle.jc_log.specs.Log.{pods_of}
use Rattle.jc_verdicts.specs.LogPlaces.{touches}
use Rattle.jc_verdicts.specs.Verdicts.{stays}
use Rattle.jc_verdicts.proofs.TouchFacts.{places-within, seen-next, seen-rise, seen-stay, untouched}
use Rattle.jc_verdicts.proofs.seen.go_on.Goals as goal

-- A place of the list is one of the log.
pub take_at-requires-clause-place : goal.take_at-requires-clause-place
take_at-requires-clause-place c =
    places-within (pods_of c.args.owner) (touches c.args.owner) (untouched c.args.owner) c.args.log.now c.args.places.now c.requires.places c.loop-at.at (omega arith)

-- The pods are those that stay.
pub loop-at-init : goal.loop-at-init
loop-at-init c = record {
  rising = seen-rise c.args.known.now.entries c.args.owner c.args.log.now c.args.pods.now.items c.args.from c.requires.seen;
  seen = seen-stay c.args.known.now.entries c.args.owner c.args.log.now c.args.pods.now.items c.args.from c.requires.seen;
}

-- The entry at the place is taken in.
pub loop-at-preserved : goal.loop-at-preserved
loop-at-preserved c = record {
  rising = c.in_ok-take_at.ensures.rising;
  seen =
      seen-next c.args.known.now.entries c.args.owner c.args.log.now c.args.places.now c.requires.places c.loop-at.at (filter (stays c.args.known.now.entries) c.loop-at.pods.items)
      (filter (stays c.args.known.now.entries) c.take_at.new.pods.items) (omega arith) c.loop-at.invariant.seen c.in_ok-take_at.ensures.pods;
}
