use Rattle.std.proofs.Common.{◌≡◌, IfSome, false, subst}
use Rattle.jc_queue.proofs.QueueFacts.{front_is_idle}
use Rattle.jc_queue.proofs.queue.Queue.first.Goals as goal
use Rattle.jc_queue.specs.Queued.{Queued, RoomedQueue, has_key, key_set}

pub returns-clause-apart : goal.returns-clause-apart
returns-clause-apart c =
    let q : Queued = record { line = c.self.inside.line.items; dirty = key_set c.self.inside.dirty.keys; processing = c.self.inside.processing.items } in
    subst (λ (q : RoomedQueue). IfSome c.front.result (λ k. has_key k.now q.queue.processing ≡ false)) c.self.view_is
    (front_is_idle q c.self.invariant.0 c.front.result c.front.ensures.item.0 c.front.ensures.lookup)
