use Rattle.std.proofs.Common.{◌≡◌, ◌++◌, ◌∷◌, [], cond, true, sym, ap, ◌∙◌, subst, arith}
use Rattle.jc_queue.proofs.QueueFacts.{finished_is}
use Rattle.jc_queue.proofs.Steps.{finished-parts}
use Rattle.jc_queue.proofs.queue.Queue.done.Goals as goal
use Rattle.jc_queue.specs.Queued.{IsQueue, Queued, RoomedQueue, has_key, key_set}

-- A dirty key goes to the line's end, where its room was kept.
pub invariant_of-self : goal.invariant_of-self
invariant_of-self c =
    let q : Queued = record { line = c.self.inside.line.items; dirty = key_set c.self.inside.dirty.keys; processing = c.self.inside.processing.items } in
    let k = c.args.key.now in
    let busy : has_key k q.processing ≡ true = ap (λ (q : RoomedQueue). has_key k q.queue.processing) c.self.view_is ∙ c.requires.processing in
    let line = c.push_back_reserved.ensures.items ∙ ap (λ held. q.line ++ held ∷ []) c.take_out-held.ensures.taken ∙ ap (λ b. cond b (q.line ++ k ∷ []) q.line) c.if-is_in.ensures in
    let same = finished-parts q k c.push_back_reserved.new.self.items c.take_out-held.new.keys.items line c.take_out-held.ensures.items in (
      subst IsQueue (sym same) (finished_is q k c.self.invariant.0 busy),
      omega (arith, c.push_back_reserved.ensures.len, c.push_back_reserved.ensures.capacity, c.take_out-held.ensures.count, c.self.invariant.1),
      omega (arith, c.push_back_reserved.ensures.len, c.take_out-held.ensures.capacity, c.take_out-held.ensures.count, c.self.invariant.2),
      c.self.invariant.3,
    )

pub invariant_of-self-else-is_in : goal.invariant_of-self-else-is_in
invariant_of-self-else-is_in c =
    let q : Queued = record { line = c.self.inside.line.items; dirty = key_set c.self.inside.dirty.keys; processing = c.self.inside.processing.items } in
    let k = c.args.key.now in
    let busy : has_key k q.processing ≡ true = ap (λ (q : RoomedQueue). has_key k q.queue.processing) c.self.view_is ∙ c.requires.processing in
    let line = ap (λ b. cond b (q.line ++ k ∷ []) q.line) c.if-is_in.ensures in
    let same = finished-parts q k q.line c.take_out-held.new.keys.items line c.take_out-held.ensures.items in (
      subst IsQueue (sym same) (finished_is q k c.self.invariant.0 busy),
      omega (arith, c.take_out-held.ensures.count, c.self.invariant.1),
      omega (arith, c.take_out-held.ensures.capacity, c.take_out-held.ensures.count, c.self.invariant.2),
      c.self.invariant.3,
    )
