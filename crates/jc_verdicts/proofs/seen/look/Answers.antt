use Rattle.std.proofs.Common.{filter, sym, subst, ◌∙◌}
use Rattle.jc_log.specs.Log.{pods_of}
use Rattle.jc_verdicts.specs.LogPlaces.{touches}
use Rattle.jc_verdicts.specs.Verdicts.{HasSeen, stays}
use Rattle.jc_verdicts.proofs.TouchFacts.{places-rise, seen-cut, untouched}
use Rattle.jc_verdicts.proofs.seen.look.Goals as goal

-- The places of a Job rise.
pub count_on-count-requires : goal.count_on-count-requires
count_on-count-requires c = places-rise (pods_of c.args.owner) (touches c.args.owner) (untouched c.args.owner) c.args.log.now c.args.places.now c.requires.places

-- The pods are those that the sync saw.
pub returns-clause-pods : goal.returns-clause-pods
returns-clause-pods c =
    c.retain_staying.ensures
    ∙ seen-cut c.args.known.now.entries c.args.owner c.args.log.now c.args.places.now c.requires.places
    (filter (stays c.args.known.now.entries) c.go_on.new.pods.items) c.count_on-count.result c.end_of.result
    c.args.seen c.in_ok-go_on.ensures c.count_on-count.ensures c.end_of.ensures.within c.end_of.ensures.same

-- They begin where they are, or at the first place.
pub go_on-requires-clause-seen : goal.go_on-requires-clause-seen
go_on-requires-clause-seen c = c.begin_of-from.ensures.seen c.args.owner c.args.log.now c.args.known.now.entries c.requires.seen

-- They are those of its places.
pub returns-clause-seen : goal.returns-clause-seen
returns-clause-seen c =
    subst (λ pods. HasSeen c.args.owner c.args.log.now c.args.known.now.entries pods c.count_on-count.result) (sym c.retain_staying.ensures) c.in_ok-go_on.ensures
