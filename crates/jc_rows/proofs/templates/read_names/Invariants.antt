use Rattle.std.proofs.Common.{◌≡◌, [], ◌++◌, map, drop}
use Rattle.jc_json.specs.View.{view}
use Rattle.jc_rows.specs.Templates.{names_row, names_in}
use Rattle.jc_rows.proofs.templates.read_names.Given as goal

-- what the items so far leave open, and the names that they have
abbrev pub invariant-loop-place : goal.invariant-loop-place
invariant-loop-place l = record {
  open_rows : names_row l.path l.others l.names l.place (map view (drop l.place l.items))
      ≡ names_row l.path l.others [] 0 (map view l.items);
  said : l.names ++ names_in l.path l.place (map view (drop l.place l.items)) ≡ names_in l.path 0 (map view l.items);
}
