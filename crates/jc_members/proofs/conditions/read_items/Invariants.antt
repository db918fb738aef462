use Rattle.std.proofs.Common.{◌≡◌, map, drop}
use Rattle.jc_json.specs.View.{view}
use Rattle.jc_members.specs.Items.{each_said, with_front}
use Rattle.jc_members.specs.Phases.{condition_at}
use Rattle.jc_members.proofs.conditions.read_items.Given as goal

-- what the items so far leave open
abbrev pub invariant-loop-place : goal.invariant-loop-place
invariant-loop-place l =
    with_front l.conditions (each_said (condition_at l.path) l.place (map view (drop l.place l.items)))
    ≡ each_said (condition_at l.path) 0 (map view l.items)
