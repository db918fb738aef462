use Rattle.std.proofs.Common.{not, sym, ap, subst, ◌∙◌}
use Rattle.jc_lanes.specs.Places.{HasPlaces}
use Rattle.jc_lanes.proofs.LongerLanes.{append_none, append_some}
use Rattle.jc_lanes.proofs.lanes.Lanes.append.Goals as goal

pub returns-then-is_none : goal.returns-then-is_none
returns-then-is_none c commands command before own count lanes has =
    append_none commands command before c.self.inside.next.items c.args.lane c.args.place own count lanes c.self.invariant
    (subst (HasPlaces commands before) (sym c.self.view_is) has) c.ranges.lane.fits c.index.result.now c.index.ensures
    (ap not (c.is_none.ensures ∙ ap not c.if-is_none.true))

pub returns-else-is_none : goal.returns-else-is_none
returns-else-is_none c commands command before own count lanes has =
    subst (HasPlaces _ before) c.self.view_is
    (append_some commands command before c.self.inside.next.items c.args.lane c.args.place own count lanes c.self.invariant
    (subst (HasPlaces commands before) (sym c.self.view_is) has) c.ranges.lane.fits c.index.result.now c.index.ensures
    (ap not (c.is_none.ensures ∙ ap not c.if-is_none.false)))
