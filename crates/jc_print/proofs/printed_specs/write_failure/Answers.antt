use Rattle.std.proofs.Common.{Some, ap, map, refl}
use Rattle.jc_print.specs.PrintedMembers.{list_data}
use Rattle.jc_print.specs.PrintedSpecs.{failure_rule_data, rules_data}
use Rattle.jc_print.proofs.SpecMembers.{in_rules}
use Rattle.jc_print.proofs.Writing.{keyed, more, no_more, object_of}
use Rattle.jc_print.proofs.printed_specs.write_failure.Goals as goal

pub returns : goal.returns
unfolding rules_data
returns c =
    object_of (in_rules (map failure_rule_data c.args.policy.now.rules)) _ _ _ _ _ _ refl c.in_ok-begin_object.ensures
    (more _ _ _ _ _ _ _ (keyed _ _ _ _ _ _ c.in_ok-key.ensures c.in_ok-write_failure_rules.ensures)
    (ap (λ rs. Some (list_data (map failure_rule_data rs))) c.as_slice.ensures) (no_more _))
    c.in_ok-end_object.ensures
