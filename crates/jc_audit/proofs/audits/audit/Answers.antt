use Rattle.std.proofs.Common.{◌∙◌, ap, subst, sym, IfOk}
use Rattle.jc_audit.specs.Audits.{VerdictHolds}
use Rattle.jc_audit.specs.AuditLimits.{IsSmallShape}
use Rattle.jc_audit.specs.Walks.{at_first}
use Rattle.jc_runs.specs.Seen.{Seen}
use Rattle.jc_audit.proofs.audits.audit.Goals as goal

pub walk-verdict-requires-clause-first : goal.walk-verdict-requires-clause-first
walk-verdict-requires-clause-first c =
    c.in_ok-machine.ensures ∙ ap (λ (s : Seen). at_first s.shape) (sym c.in_ok-machine.ensures)

pub walk-verdict-requires-clause-small : goal.walk-verdict-requires-clause-small
walk-verdict-requires-clause-small c =
    subst (λ (s : Seen). IsSmallShape s.shape) (sym c.in_ok-machine.ensures)
    (record { few_controllers = c.requires.few_controllers; few_workers = c.requires.few_workers; few_events = c.requires.few_events })

pub returns : goal.returns
returns c =
    subst (λ (s : Seen). IfOk c.walk-verdict.result (λ v. VerdictHolds s.shape c.args.bytes.now v)) c.in_ok-machine.ensures c.walk-verdict.ensures
