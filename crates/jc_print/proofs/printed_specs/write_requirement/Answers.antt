use Rattle.std.proofs.Common.{Some, ap, codes, map}
use Rattle.jc_print.specs.PrintedMembers.{list_data}
use Rattle.jc_print.specs.PrintedSpecs.{pattern_data}
use Rattle.jc_print.specs.Tokens.{given_tokens}
use Rattle.jc_print.proofs.Requirements.{conditions_written, exits_written}
use Rattle.jc_print.proofs.Writing.{adds_same, keyed}
use Rattle.jc_print.proofs.printed_specs.write_requirement.Goals as goal

pub returns-in_ok-write_exit_codes-in-ExitCodes : goal.returns-in_ok-write_exit_codes-in-ExitCodes
returns-in_ok-write_exit_codes-in-ExitCodes c =
    exits_written _ _ _ _ _ _ c.in-ExitCodes.is
    (keyed _ _ _ _ _ _ c.in_ok-key-in-ExitCodes.ensures c.in_ok-write_exit_codes-in-ExitCodes.ensures)

pub returns-in_ok-write_patterns-in-Conditions : goal.returns-in_ok-write_patterns-in-Conditions
returns-in_ok-write_patterns-in-Conditions c =
    conditions_written _ _ _ _ c.in-Conditions.is
    (adds_same _ _ _ _
    (ap (λ ps. given_tokens (codes "onPodConditions") (Some (list_data (map pattern_data ps)))) c.as_slice.ensures)
    (keyed _ _ _ _ _ _ c.in_ok-key-in-Conditions.ensures c.in_ok-write_patterns-in-Conditions.ensures))
