use Rattle.std.proofs.Common.{◌≡◌, ◌++◌, map, drop}
use Rattle.jc_json.specs.View.{view}
use Rattle.jc_rows.specs.ManifestRows.{each}
use Rattle.jc_policies.specs.FailurePolicies.{code_row, codes_from}
use Rattle.jc_policies.proofs.failure_policies.read_codes.Given as goal

-- what the items so far leave open, and what they say
abbrev pub invariant-loop-place : goal.invariant-loop-place
invariant-loop-place l = record {
  open_rows : each (code_row l.path) l.place (map view (drop l.place l.items)) ≡ each (code_row l.path) 0 (map view l.items);
  said : l.codes ++ codes_from l.path l.place (map view (drop l.place l.items)) ≡ codes_from l.path 0 (map view l.items);
}
