use Rattle.std.proofs.Common.{sym, subst, arith}
use Rattle.jc_queue.proofs.QueueFacts.{empty_is}
use Rattle.jc_queue.proofs.queue.Queue.new.Goals as goal
use Rattle.jc_queue.specs.Queued.{IsQueue, key_set}

pub invariant_of-result : goal.invariant_of-result
invariant_of-result c = (
  subst IsQueue (λ i. record { line = (sym c.new.ensures.items) i; dirty = key_set ((sym c.new-2.ensures.empty) i); processing = (sym c.new-3.ensures.items) i }) empty_is,
  omega (arith, c.new.ensures.len, c.new-3.ensures.len),
  omega (arith, c.new.ensures.len, c.new-3.ensures.len),
  omega arith,
)
