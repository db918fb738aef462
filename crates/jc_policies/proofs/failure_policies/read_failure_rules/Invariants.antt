use Rattle.std.proofs.Common.{◌≡◌, ◌++◌, map, drop}
use Rattle.jc_json.specs.View.{view}
use Rattle.jc_rows.specs.ManifestRows.{each}
use Rattle.jc_policies.specs.FailurePolicies.{failure_rule_row, failure_rules_from}
use Rattle.jc_policies.proofs.failure_policies.read_failure_rules.Given as goal

-- what the items so far leave open, and what they say
abbrev pub invariant-loop-place : goal.invariant-loop-place
invariant-loop-place l = record {
  open_rows : each (failure_rule_row l.by_index (l.template.containers ++ l.template.inits) l.path) l.place
      (map view (drop l.place l.items)) ≡ each
      (failure_rule_row l.by_index (l.template.containers ++ l.template.inits) l.path) 0 (map view l.items);
  said : l.rules ++ failure_rules_from l.path l.place (map view (drop l.place l.items)) ≡ failure_rules_from l.path 0 (map view l.items);
}
