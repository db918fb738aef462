use Rattle.std.proofs.Common.{refl}
use Rattle.jc_print.specs.PrintedSpecs.{change_data, with_changed_counts, with_changed_limits}
use Rattle.jc_print.proofs.SpecMembers.{in_change}
use Rattle.jc_print.proofs.Writing.{more, no_more, object_of}
use Rattle.jc_print.proofs.printed_specs.write_change.Goals as goal

pub returns : goal.returns
unfolding change_data with_changed_counts with_changed_limits
returns c =
    object_of (in_change c.args.change.now) _ _ _ _ _ _ refl c.in_ok-begin_object.ensures
    (more _ _ _ _ _ _ _ c.in_ok-write_given_truth.ensures refl
    (more _ _ _ _ _ _ _ c.in_ok-write_given_number-4.ensures refl
    (more _ _ _ _ _ _ _ c.in_ok-write_given_number-3.ensures refl
    (more _ _ _ _ _ _ _ c.in_ok-write_given_number-2.ensures refl
    (more _ _ _ _ _ _ _ c.in_ok-write_given_number.ensures refl (no_more _))))))
    c.in_ok-end_object.ensures
