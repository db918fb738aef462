use Rattle.std.proofs.Common.{ap, ◌∙◌}
use Rattle.std.specs.Prelude.{reverse}
use Rattle.jc_types.specs.declared.actions.Script.{Script}
use Rattle.jc_reap.proofs.Whole.{rows-are}
use Rattle.jc_reap.proofs.reaping.due.Goals as goal

-- The makers and the store are what the history says.
pub returns : goal.returns
returns c =
    rows-are c.args.machine.now c.args.ttls.now c.as_slice-2.result.now c.as_slice.result.now c.as_slice-events.result.now
    c.in_ok-makers.makers _ c.jobs.result.now _
    c.in_ok-makers.ensures
    (c.as_slice.ensures ∙ ap (λ (s : Script). s.commands) c.script-script.ensures)
    (ap reverse c.as_slice-events.ensures ∙ c.history.ensures.events)
    c.as_slice-2.ensures c.store-store.ensures c.jobs.ensures.rows c.in_ok-rows.ensures
