use Rattle.jc_texts.specs.ChangeTexts.{container_data}
use Rattle.jc_print.proofs.Writing.{list_of, no_item, one_item}
use Rattle.jc_texts.proofs.changes.write_containers.Goals as goal

pub loop-change-init : goal.loop-change-init
loop-change-init c = no_item container_data _

pub loop-change-preserved : goal.loop-change-preserved
loop-change-preserved c =
    one_item container_data _ _ _ _ _ _ c.loop-change-test.true c.change-item.is c.in_ok-write_container.ensures
    c.loop-change.invariant

pub returns : goal.returns
returns c =
    list_of container_data _ _ _ _ _ _ _ _ c.loop-change-test.false c.in_ok-begin_array.ensures
    c.loop-change.invariant c.in_ok-end_array.ensures
