use Rattle.std.proofs.Common.{◌≡◌, map, drop}
use Rattle.jc_json.specs.View.{view}
use Rattle.jc_members.specs.EndMembers.{end_said_at}
use Rattle.jc_members.specs.Items.{each_said, with_front}
use Rattle.jc_members.proofs.ends.read_items.Given as goal

-- what the items so far leave open
abbrev pub invariant-loop-place : goal.invariant-loop-place
invariant-loop-place l =
    with_front l.ends (each_said (end_said_at l.path) l.place (map view (drop l.place l.items)))
    ≡ each_said (end_said_at l.path) 0 (map view l.items)
