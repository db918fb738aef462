use Rattle.std.proofs.Common.{subst}
use Rattle.jc_machine.specs.SyncsSeen.{StepsOn}
use Rattle.jc_machine.proofs.QuietSyncs.{begins-told, reached}
use Rattle.jc_machine.proofs.machine.Machine.sync.Goals as goal

pub returns-then-not-tells_begin-clause-ended : goal.returns-then-not-tells_begin-clause-ended
returns-then-not-tells_begin-clause-ended c = λ k job cur. absurd
    (begins-told c.args.self.now c.args.controller c.args.worker k job cur c.facts.ensures.legal c.in_ok-begun.begun
    c.tells_begin.result c.in_ok-begun.ensures.reply c.tells_begin.ensures c.if-not-tells_begin.true)

pub returns-then-not-tells_begin-clause-next : goal.returns-then-not-tells_begin-clause-next
returns-then-not-tells_begin-clause-next c = λ k job cur. absurd
    (begins-told c.args.self.now c.args.controller c.args.worker k job cur c.facts.ensures.legal c.in_ok-begun.begun
    c.tells_begin.result c.in_ok-begun.ensures.reply c.tells_begin.ensures c.if-not-tells_begin.true)

pub returns-then-not-tells_begin-clause-no_status : goal.returns-then-not-tells_begin-clause-no_status
returns-then-not-tells_begin-clause-no_status c = λ k job cur same. absurd
    (begins-told c.args.self.now c.args.controller c.args.worker k job cur c.facts.ensures.legal c.in_ok-begun.begun
    c.tells_begin.result c.in_ok-begun.ensures.reply c.tells_begin.ensures c.if-not-tells_begin.true)

pub returns-clause-ended : goal.returns-clause-ended
returns-clause-ended c = λ k job cur. (reached c.args.self.now c.args.controller c.args.worker k job cur
    c.facts.ensures.legal c.quiet_syncs_reach_the_next_status.ensures.ended
    c.quiet_syncs_reach_the_next_status.ensures.next c.quiet_syncs_reach_the_next_status.ensures.nothing
    c.step_through.new.self (subst (λ s. StepsOn c.args.controller c.args.worker s c.step_through.new.self)
    c.in_ok-begun.ensures.ok c.in_ok-last.ensures.steps) c.in_ok-last.ensures.free c.facts-2.ensures.legal
    c.facts-2.ensures.valid).ended c.in_ok-last.last c.in_ok-last.ensures.last

pub returns-clause-next : goal.returns-clause-next
returns-clause-next c = λ k job cur. (reached c.args.self.now c.args.controller c.args.worker k job cur
    c.facts.ensures.legal c.quiet_syncs_reach_the_next_status.ensures.ended
    c.quiet_syncs_reach_the_next_status.ensures.next c.quiet_syncs_reach_the_next_status.ensures.nothing
    c.step_through.new.self (subst (λ s. StepsOn c.args.controller c.args.worker s c.step_through.new.self)
    c.in_ok-begun.ensures.ok c.in_ok-last.ensures.steps) c.in_ok-last.ensures.free c.facts-2.ensures.legal
    c.facts-2.ensures.valid).next

pub returns-clause-no_status : goal.returns-clause-no_status
returns-clause-no_status c = λ k job cur same. record {
  on = (subst (λ s. StepsOn c.args.controller c.args.worker s c.step_through.new.self) c.in_ok-begun.ensures.ok
      c.in_ok-last.ensures.steps);
  no_status = (reached c.args.self.now c.args.controller c.args.worker k job cur
      c.facts.ensures.legal c.quiet_syncs_reach_the_next_status.ensures.ended
      c.quiet_syncs_reach_the_next_status.ensures.next c.quiet_syncs_reach_the_next_status.ensures.nothing
      c.step_through.new.self (subst (λ s. StepsOn c.args.controller c.args.worker s c.step_through.new.self)
      c.in_ok-begun.ensures.ok c.in_ok-last.ensures.steps) c.in_ok-last.ensures.free c.facts-2.ensures.legal
      c.facts-2.ensures.valid).no_status same;
}
