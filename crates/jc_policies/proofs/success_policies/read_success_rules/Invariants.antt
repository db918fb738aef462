use Rattle.std.proofs.Common.{◌≡◌, ◌++◌, map, drop}
use Rattle.jc_json.specs.View.{view}
use Rattle.jc_rows.specs.ManifestRows.{each}
use Rattle.jc_policies.specs.SuccessPolicies.{success_rule_row, success_rules_from}
use Rattle.jc_policies.proofs.success_policies.read_success_rules.Given as goal

-- what the items so far leave open, and what they say
abbrev pub invariant-loop-place : goal.invariant-loop-place
invariant-loop-place l = record {
  open_rows : each (success_rule_row l.completions l.path) l.place (map view (drop l.place l.items)) ≡ each (success_rule_row l.completions l.path) 0 (map view l.items);
  said : l.rules ++ success_rules_from l.completions l.path l.place (map view (drop l.place l.items)) ≡ success_rules_from l.completions l.path 0 (map view l.items);
}
