use Rattle.jc_texts.specs.ChangeTexts.{end_data, ends_data}
use Rattle.jc_print.proofs.Writing.{list_of, no_item, one_item}
use Rattle.jc_texts.proofs.changes.write_ends.Goals as goal

pub loop-end-init : goal.loop-end-init
loop-end-init c = no_item end_data _

pub loop-end-preserved : goal.loop-end-preserved
loop-end-preserved c =
    one_item end_data _ _ _ _ _ _ c.loop-end-test.true c.end-item.is c.in_ok-write_end.ensures c.loop-end.invariant

pub returns : goal.returns
unfolding ends_data
returns c =
    list_of end_data _ _ _ _ _ _ _ _ c.loop-end-test.false c.in_ok-begin_array.ensures c.loop-end.invariant
    c.in_ok-end_array.ensures
