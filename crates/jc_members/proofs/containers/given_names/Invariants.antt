use Rattle.std.proofs.Common.{◌≡◌, ◌++◌, map}
use Rattle.jc_json.specs.View.{ordered_view}
use Rattle.jc_members.specs.Phases.{given_names}
use Rattle.jc_members.proofs.containers.given_names.Given as goal

-- the names so far, and those that are left
abbrev pub invariant-loop-name : goal.invariant-loop-name
invariant-loop-name l =
    map (λ name. name.now) l.names.items ++ given_names (ordered_view l.name-iterator)
    ≡ given_names (ordered_view l.members.entries)
