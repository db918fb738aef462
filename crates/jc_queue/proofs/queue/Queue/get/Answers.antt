use Rattle.std.proofs.Common.{is_some, sym, ap, ◌∙◌, subst, arith, true≢false}
use Rattle.jc_queue.proofs.QueueFacts.{first_is_dirty, first_is_idle, got_first_is}
use Rattle.jc_queue.proofs.Steps.{got-parts}
use Rattle.jc_queue.proofs.queue.Queue.get.Goals as goal
use Rattle.jc_queue.specs.Queued.{IsQueue, Queued, RoomedQueue, got, has_key, key_set}

-- A key in line is dirty.
pub unreachable-requires : goal.unreachable-requires
unreachable-requires c =
    let q : Queued = record { line = c.self.inside.line.items; dirty = key_set c.self.inside.dirty.keys; processing = c.self.inside.processing.items } in
    true≢false
    (sym (first_is_dirty q c.self.invariant.0 c.in_ok-key.key c.pop_front.new.self.items c.in_ok-key.ensures.items)
    ∙ sym c.take_from.ensures.found ∙ ap is_some c.in_default.is)

pub returns-clause-got : goal.returns-clause-got
returns-clause-got c =
    let q : Queued = record { line = c.self.inside.line.items; dirty = key_set c.self.inside.dirty.keys; processing = c.self.inside.processing.items } in
    got-parts q c.in_ok-key.key c.in-Some.held c.pop_front.new.self.items (key_set c.take_from.new.set.keys) c.push_reserved.new.self.items
    c.in_ok-key.ensures.items c.in-Some.ensures.taken c.take_from.ensures.set c.push_reserved.ensures.items
    ∙ ap (λ (q : RoomedQueue). got q.queue) c.self.view_is

pub returns-clause-apart : goal.returns-clause-apart
returns-clause-apart c =
    let q : Queued = record { line = c.self.inside.line.items; dirty = key_set c.self.inside.dirty.keys; processing = c.self.inside.processing.items } in
    ap (λ (q : RoomedQueue). has_key c.in_ok-key.key q.queue.processing) (sym c.self.view_is)
    ∙ first_is_idle q c.self.invariant.0 c.in_ok-key.key c.pop_front.new.self.items c.in_ok-key.ensures.items

pub invariant_of-self-2 : goal.invariant_of-self-2
invariant_of-self-2 c =
    let q : Queued = record { line = c.self.inside.line.items; dirty = key_set c.self.inside.dirty.keys; processing = c.self.inside.processing.items } in
    let same = got-parts q c.in_ok-key.key c.in-Some.held c.pop_front.new.self.items (key_set c.take_from.new.set.keys) c.push_reserved.new.self.items
    c.in_ok-key.ensures.items c.in-Some.ensures.taken c.take_from.ensures.set c.push_reserved.ensures.items in (
      subst IsQueue (sym same) (got_first_is q c.self.invariant.0),
      omega (arith, c.self.invariant.1, c.pop_front.ensures.capacity, c.push_reserved.ensures.len, c.in_ok-key.ensures.cases),
      omega (arith, c.self.invariant.2, c.push_reserved.ensures.capacity, c.push_reserved.ensures.len, c.in_ok-key.ensures.cases),
      omega (arith, c.self.invariant.3, c.take_from.ensures.room),
    )
