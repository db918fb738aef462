use Rattle.std.proofs.Common.{◌≡◌, true}
use Rattle.jc_audit.proofs.TakeFacts.{only_system, small_count, took}
use Rattle.jc_audit.proofs.walking.system_happens.Goals as goal

pub returns-clause-took : goal.returns-clause-took
returns-clause-took c = λ yes.
    took c.args.machine.now c.args.system c.args.rest.now c.requires.read
    (small_count c.args.machine.now c.requires.shape c.requires.unfull) c.requires.shape c.in_ok-has_happened.ensures.clock _ c.requires.unfull
    (c.in_ok-has_happened.ensures.may.0 yes) (c.in_ok-has_happened.ensures.took yes)

pub returns-clause-only : goal.returns-clause-only
returns-clause-only c =
    only_system c.args.machine.now c.args.system c.args.rest.now c.requires.read
    (small_count c.args.machine.now c.requires.shape c.requires.unfull) c.requires.shape c.in_ok-has_happened.ensures.clock _
    (c.in_ok-has_happened.has_happened ≡ true)
    (λ can. c.in_ok-has_happened.ensures.may.1 can) (λ yes. c.in_ok-has_happened.ensures.took yes)
