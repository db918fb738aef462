use Rattle.std.proofs.Common.{sym, ◌∙◌}
use Rattle.jc_machine.specs.SyncsSeen.{stepping_event}
use Rattle.jc_machine.proofs.SyncFacts.{last-one, steps-one}
use Rattle.jc_machine.proofs.machine.Machine.step_through.Goals as goal

pub steps-preserved : goal.steps-preserved
steps-preserved c = record {
  steps = steps-one c.args.controller c.args.worker c.args.self.now c.steps.self c.apply.new.self c.steps.invariant.steps (sym c.is_free.ensures ∙ c.steps-test.true) c.in_ok-last.ensures.ok;
  last = last-one c.steps.self c.apply.new.self (stepping_event c.args.controller c.args.worker) c.in_ok-last.last c.in_ok-last.ensures.ok c.in_ok-last.ensures.reply;
}
