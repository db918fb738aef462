use Rattle.std.proofs.Common.{sym, subst, arith}
use Rattle.jc_queue.proofs.BackFacts.{back-parts, sent_back_is}
use Rattle.jc_queue.proofs.queue.Queue.send_back.Goals as goal
use Rattle.jc_queue.specs.Queued.{IsQueue, Queued, key_set}

pub invariant_of-self-2 : goal.invariant_of-self-2
invariant_of-self-2 c =
    let q : Queued = record { line = c.self.inside.line.items; dirty = key_set c.self.inside.dirty.keys; processing = c.self.inside.processing.items } in
    let same = back-parts q c.in-Some.key c.pop_front.new.self.items c.push_back_reserved.new.self.items c.in-Some.ensures.items c.push_back_reserved.ensures.items in (
      subst IsQueue (sym same) (sent_back_is q c.self.invariant.0),
      omega (arith, c.self.invariant.1, c.pop_front.ensures.capacity, c.push_back_reserved.ensures.len, c.push_back_reserved.ensures.capacity, c.in-Some.ensures.cases),
      omega (arith, c.self.invariant.2, c.push_back_reserved.ensures.len, c.in-Some.ensures.cases),
      c.self.invariant.3,
    )
