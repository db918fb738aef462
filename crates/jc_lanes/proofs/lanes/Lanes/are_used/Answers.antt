use Rattle.std.proofs.Common.{subst, sym}
use Rattle.jc_lanes.specs.Places.{AreNone, HasPlaces}
use Rattle.jc_lanes.proofs.LaneFacts.{none_of_used, used_of}
use Rattle.jc_lanes.proofs.lanes.Lanes.are_used.Goals as goal

pub returns : goal.returns
returns c = λ commands before has.
    let inside = subst (λ l. HasPlaces commands before l) (sym c.self.view_is) has in
    let same = c.as_slice.ensures.value in (
      λ t. used_of commands before c.self.inside.next.items c.self.invariant inside
          (subst AreNone same (c.are_none.ensures.0 t)),
      λ used. c.are_none.ensures.1
          (subst AreNone (sym same) (none_of_used commands before c.self.inside.next.items c.self.invariant inside used)),
    )
