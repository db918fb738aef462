use Rattle.std.proofs.Common.{◌∙◌, IfSome, subst, sym}
use Rattle.jc_audit.specs.AuditLimits.{IsSmallShape}
use Rattle.jc_audit.specs.Walks.{HasTaken}
use Rattle.jc_audit.proofs.AuditFacts.{at_begin, goes_on, less_left, line_number, not_taken, said_at_last}
use Rattle.jc_audit.proofs.audits.walk.Goals as goal

pub walking-init : goal.walking-init
walking-init c = at_begin c.args.machine.now.shape c.args.bytes.now c.args.machine.now c.requires.first

pub take-requires-clause-shape : goal.take-requires-clause-shape
take-requires-clause-shape c =
    subst IsSmallShape (sym c.walking.invariant.of_shape) c.requires.small

pub take-requires-clause-fits : goal.take-requires-clause-fits
take-requires-clause-fits c = c.walking.invariant.used

pub walking-preserved : goal.walking-preserved
walking-preserved c =
    goes_on c.args.machine.now.shape c.args.bytes.now c.walking.at c.in-Some.len c.walking.machine c.take.new.machine c.bytes_from-in-walking.result.now c.walking.invariant
    c.bytes_from-in-walking.ensures
    (subst (λ o. IfSome o (HasTaken c.walking.machine c.take.new.machine c.bytes_from-in-walking.result.now)) c.in-Some.is c.in_ok-taken.ensures.taken)

pub walking-smaller : goal.walking-smaller
walking-smaller c =
    less_left c.args.machine.now.shape c.args.bytes.now c.walking.at c.in-Some.len c.walking.machine c.take.new.machine c.bytes_from-in-walking.result.now c.walking.invariant
    c.bytes_from-in-walking.ensures
    (subst (λ o. IfSome o (HasTaken c.walking.machine c.take.new.machine c.bytes_from-in-walking.result.now)) c.in-Some.is c.in_ok-taken.ensures.taken)

pub returns-in_default : goal.returns-in_default
returns-in_default c =
    not_taken c.args.machine.now.shape c.args.bytes.now c.walking.at _ c.walking.machine c.bytes_from.result.now c.bytes_from-in-walking.result.now c.walking.invariant
    c.bytes_from.ensures c.bytes_from-in-walking.ensures (sym c.begins_event.ensures ∙ c.walking-test.true) (c.in_ok-taken.ensures.none c.in_default.is)
    (line_number c.history.result.now.events.items _ c.len.result c.history.ensures.events c.len.ensures)

pub returns : goal.returns
returns c =
    said_at_last c.args.machine.now.shape c.args.bytes.now c.walking.at c.walking.machine c.in_ok-verdict.verdict c.bytes_from.result.now c.bytes_from-2.result.now c.walking.invariant
    c.bytes_from.ensures c.bytes_from-2.ensures (sym c.begins_event.ensures ∙ c.walking-test.false) c.in_ok-verdict.ensures
