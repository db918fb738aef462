use Rattle.std.proofs.Common.{◌≡◌, map, drop}
use Rattle.jc_json.specs.View.{ordered_view}
use Rattle.jc_members.specs.Phases.{put_names}
use Rattle.jc_members.proofs.containers.put_names.Given as goal

-- what the names so far leave to be put
abbrev pub invariant-loop-name : goal.invariant-loop-name
invariant-loop-name l =
    put_names (map (λ name. name.now) (drop l.name-index l.names)) (ordered_view l.members.entries)
    ≡ put_names (map (λ name. name.now) l.names) (ordered_view l.fn.members.entries)
