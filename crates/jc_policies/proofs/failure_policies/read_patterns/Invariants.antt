use Rattle.std.proofs.Common.{◌≡◌, ◌++◌, map, drop}
use Rattle.jc_json.specs.View.{view}
use Rattle.jc_rows.specs.ManifestRows.{each}
use Rattle.jc_policies.specs.FailurePolicies.{pattern_row, patterns_from}
use Rattle.jc_policies.proofs.failure_policies.read_patterns.Given as goal

-- what the items so far leave open, and what they say
abbrev pub invariant-loop-place : goal.invariant-loop-place
invariant-loop-place l = record {
  open_rows : each (pattern_row l.path) l.place (map view (drop l.place l.items)) ≡ each (pattern_row l.path) 0 (map view l.items);
  said : l.patterns ++ patterns_from l.path l.place (map view (drop l.place l.items)) ≡ patterns_from l.path 0 (map view l.items);
}
