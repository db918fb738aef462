use Rattle.std.proofs.Common.{refl}
use Rattle.jc_print.specs.PrintedSpecs.{success_rule_data, with_success_rule}
use Rattle.jc_print.proofs.SpecMembers.{in_success_rule}
use Rattle.jc_print.proofs.Writing.{more, no_more, object_of}
use Rattle.jc_print.proofs.printed_specs.write_success_rule.Goals as goal

pub returns : goal.returns
unfolding success_rule_data with_success_rule
returns c =
    object_of (in_success_rule c.args.rule.now) _ _ _ _ _ _ refl c.in_ok-begin_object.ensures
    (more _ _ _ _ _ _ _ c.in_ok-write_indexes.ensures refl
    (more _ _ _ _ _ _ _ c.in_ok-write_given_number.ensures refl (no_more _)))
    c.in_ok-end_object.ensures
