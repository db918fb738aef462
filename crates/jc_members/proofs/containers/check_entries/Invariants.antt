use Rattle.std.proofs.Common.{◌≡◌, map, drop}
use Rattle.jc_json.specs.View.{view}
use Rattle.jc_members.specs.Phases.{entries_fit}
use Rattle.jc_members.proofs.containers.check_entries.Given as goal

-- what the names so far leave open
abbrev pub invariant-loop-name : goal.invariant-loop-name
invariant-loop-name l =
    entries_fit l.path l.least l.greatest (view l.numbers) (map (λ name. name.now) (drop l.name-index l.names))
    ≡ entries_fit l.path l.least l.greatest (view l.numbers) (map (λ name. name.now) l.names)
