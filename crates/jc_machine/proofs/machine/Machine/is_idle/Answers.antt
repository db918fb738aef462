use Rattle.std.proofs.Common.{sym, ◌∙◌}
use Rattle.jc_machine.proofs.IdleFacts.{none-by}
use Rattle.jc_machine.proofs.machine.Machine.is_idle.Goals as goal

pub returns : goal.returns
returns c = (
  λ t. record {
    jobs = sym c.has_seen-jobs.ensures ∙ c.if-not-jobs.false;
    pods = sym c.has_seen-pods.ensures ∙ c.if-not-pods.false;
    free = c.are_free-free.ensures.0 c.if-not-free.false;
    line = sym c.can_begin-begins.ensures ∙ c.if-begins.false;
    delays = (none-by _ _ c.is_none.result (sym c.is_none.ensures) c.next_delay-delayed.ensures).0 t;
  },
  λ idle. (none-by _ _ c.is_none.result (sym c.is_none.ensures) c.next_delay-delayed.ensures).1 idle.delays,
)
