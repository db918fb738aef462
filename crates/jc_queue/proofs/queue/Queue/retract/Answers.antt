use Rattle.std.proofs.Common.{sym, subst, arith}
use Rattle.jc_queue.proofs.BackFacts.{retracted_is}
use Rattle.jc_queue.proofs.queue.Queue.retract.Goals as goal
use Rattle.jc_queue.specs.Queued.{IsQueue, Queued, key_set}

pub invariant_of-self : goal.invariant_of-self
invariant_of-self c =
    let q : Queued = record { line = c.self.inside.line.items; dirty = key_set c.self.inside.dirty.keys; processing = c.self.inside.processing.items } in (
      subst IsQueue (λ i. record { line = (sym c.take_from_line.ensures.items) i; dirty = (sym c.take_from.ensures.set) i; processing = q.processing }) (retracted_is q c.args.key.now c.self.invariant.0),
      omega (arith, c.self.invariant.1, c.take_from_line.ensures.fewer, c.take_from_line.ensures.capacity),
      omega (arith, c.self.invariant.2, c.take_from_line.ensures.fewer),
      omega (arith, c.self.invariant.3, c.take_from.ensures.room),
    )
