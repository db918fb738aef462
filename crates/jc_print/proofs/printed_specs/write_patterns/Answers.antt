use Rattle.jc_print.specs.PrintedSpecs.{pattern_data}
use Rattle.jc_print.proofs.Writing.{list_of, no_item, one_item}
use Rattle.jc_print.proofs.printed_specs.write_patterns.Goals as goal

pub loop-pattern-init : goal.loop-pattern-init
loop-pattern-init c = no_item pattern_data _

pub loop-pattern-preserved : goal.loop-pattern-preserved
loop-pattern-preserved c =
    one_item pattern_data _ _ _ _ _ _ c.loop-pattern-test.true c.pattern-item.is c.in_ok-write_pattern.ensures
    c.loop-pattern.invariant

pub returns : goal.returns
returns c =
    list_of pattern_data _ _ _ _ _ _ _ _ c.loop-pattern-test.false c.in_ok-begin_array.ensures
    c.loop-pattern.invariant c.in_ok-end_array.ensures
