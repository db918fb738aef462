use Rattle.std.proofs.Common.{◌≡◌, map}
use Rattle.jc_json.specs.View.{ordered_view}
use Rattle.jc_members.specs.Members.{unknown_among}
use Rattle.jc_members.proofs.members.first_unknown.Given as goal

-- what the members so far leave open
abbrev pub invariant-loop-name : goal.invariant-loop-name
invariant-loop-name l =
    unknown_among (map (λ k. k.now) l.known) (ordered_view l.name-iterator)
    ≡ unknown_among (map (λ k. k.now) l.known) (ordered_view l.members.entries)
