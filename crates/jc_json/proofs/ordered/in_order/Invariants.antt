use Rattle.std.proofs.Common.{◌≡◌, take}
use Rattle.serde_json.specs.Data.{no_members}
use Rattle.jc_json.specs.View.{members_view, ordered_view}
use Rattle.jc_json.proofs.ordered.in_order.Given as goal

-- the members so far are in
abbrev pub invariant-loop-member : goal.invariant-loop-member
invariant-loop-member l =
    ordered_view l.ordered.entries ≡ members_view (take l.member-index l.members) no_members
