use Rattle.std.proofs.Common.{◌≡◌, true}
use Rattle.jc_audit.proofs.TakeFacts.{only_command, small_count, taken}
use Rattle.jc_audit.proofs.walking.command_happens.Goals as goal

pub returns-clause-took : goal.returns-clause-took
returns-clause-took c = λ yes.
    taken c.args.machine.now c.args.lane c.args.action c.args.rest.now c.requires.read
    (small_count c.args.machine.now c.requires.shape c.requires.unfull) _ c.requires.unfull
    (c.in_ok-has_happened.ensures.may.0 yes) (c.in_ok-has_happened.ensures.took yes)

pub returns-clause-only : goal.returns-clause-only
returns-clause-only c =
    only_command c.args.machine.now c.args.lane c.args.action c.args.rest.now c.requires.read
    (small_count c.args.machine.now c.requires.shape c.requires.unfull) _ (c.in_ok-has_happened.has_happened ≡ true)
    (λ admits. c.in_ok-has_happened.ensures.may.1 admits) (λ yes. c.in_ok-has_happened.ensures.took yes)
