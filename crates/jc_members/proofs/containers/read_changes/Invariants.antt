use Rattle.std.proofs.Common.{◌≡◌, map, drop}
use Rattle.jc_json.specs.View.{view}
use Rattle.jc_members.specs.Items.{all_said, with_front}
use Rattle.jc_members.specs.Phases.{container_change}
use Rattle.jc_members.proofs.containers.read_changes.Given as goal

-- what the names so far leave open
abbrev pub invariant-loop-name : goal.invariant-loop-name
invariant-loop-name l =
    with_front l.changes
    (all_said (container_change (view l.exits) (view l.restarts)) (map (λ name. name.now) (drop l.name-index l.names)))
    ≡ all_said (container_change (view l.exits) (view l.restarts)) (map (λ name. name.now) l.names)
