use Rattle.std.proofs.Common.{◌≡◌, None, map, take}
use Rattle.serde_json.specs.Data.{no_members}
use Rattle.jc_json.specs.View.{members_view}
use Rattle.jc_members.specs.Members.{unknown_among}
use Rattle.jc_members.proofs.members.are_known.Given as goal

-- the members so far are known
abbrev pub invariant-loop-member : goal.invariant-loop-member
invariant-loop-member l =
    unknown_among (map (λ k. k.now) l.known) (members_view (take l.member-index l.members) no_members) ≡ None
