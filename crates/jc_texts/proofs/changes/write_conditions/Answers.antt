use Rattle.jc_texts.specs.ChangeTexts.{pod_condition_data}
use Rattle.jc_print.proofs.Writing.{list_of, no_item, one_item}
use Rattle.jc_texts.proofs.changes.write_conditions.Goals as goal

pub loop-condition-init : goal.loop-condition-init
loop-condition-init c = no_item pod_condition_data _

pub loop-condition-preserved : goal.loop-condition-preserved
loop-condition-preserved c =
    one_item pod_condition_data _ _ _ _ _ _ c.loop-condition-test.true c.condition-item.is
    c.in_ok-write_condition.ensures c.loop-condition.invariant

pub returns : goal.returns
returns c =
    list_of pod_condition_data _ _ _ _ _ _ _ _ c.loop-condition-test.false c.in_ok-begin_array.ensures
    c.loop-condition.invariant c.in_ok-end_array.ensures
