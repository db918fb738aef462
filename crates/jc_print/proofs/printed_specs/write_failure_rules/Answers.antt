use Rattle.jc_print.specs.PrintedSpecs.{failure_rule_data}
use Rattle.jc_print.proofs.Writing.{list_of, no_item, one_item}
use Rattle.jc_print.proofs.printed_specs.write_failure_rules.Goals as goal

pub loop-rule-init : goal.loop-rule-init
loop-rule-init c = no_item failure_rule_data _

pub loop-rule-preserved : goal.loop-rule-preserved
loop-rule-preserved c =
    one_item failure_rule_data _ _ _ _ _ _ c.loop-rule-test.true c.rule-item.is c.in_ok-write_failure_rule.ensures
    c.loop-rule.invariant

pub returns : goal.returns
returns c =
    list_of failure_rule_data _ _ _ _ _ _ _ _ c.loop-rule-test.false c.in_ok-begin_array.ensures c.loop-rule.invariant
    c.in_ok-end_array.ensures
