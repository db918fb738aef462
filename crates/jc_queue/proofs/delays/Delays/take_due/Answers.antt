use Rattle.std.proofs.Common.{Some, sym, ap, ◌∙◌, arith}
use Rattle.jc_queue.proofs.DelayFacts.{copied-taken, remove-row, row_there}
use Rattle.jc_queue.proofs.Steps.{found_is, not_missing}
use Rattle.jc_queue.proofs.delays.Delays.take_due.Goals as goal
use Rattle.jc_queue.specs.Delayed.{RoomedDelays, left_by}

-- A key that has a moment has a second copy.
pub unreachable-requires : goal.unreachable-requires
unreachable-requires c =
    not_missing c.in_ok-key.key c.self.inside.copies.keys
    (c.self.invariant.0 c.in_ok-key.key (row_there c.self.inside.moments.entries c.in_ok-place.place (c.in_ok-key.key, c.in_ok-key.field-0-1) c.in_ok-key.ensures.entry))
    (sym c.in_default.is ∙ c.swap_take.ensures.key)

pub join-requires : goal.join-requires
join-requires c = record { same = found_is c.in_ok-key.key c.in-Some.again c.self.inside.copies.keys c.in-Some.ensures.key }

pub invariant_of-self-2 : goal.invariant_of-self-2
invariant_of-self-2 c = (
  copied-taken c.self.inside.moments.entries c.shift_remove_index.new.self.entries c.self.inside.copies.keys c.swap_take.new.self.keys c.in_ok-key.key c.self.invariant.0 c.in_ok-key.ensures.updates.0 c.swap_take.ensures.updates.0,
  omega (arith, c.self.invariant.1, c.shift_remove_index.ensures.room.0),
  omega (arith, c.self.invariant.2, c.swap_take.ensures.room.0),
  c.self.invariant.3,
  c.least-self-inside.ensures,
)

-- The key at the place is the key of its row.
pub returns-clause-left : goal.returns-clause-left
returns-clause-left c =
    let rows = c.self.inside.moments.entries in
    let taken = c.shift_remove_index.ensures.entries ∙ remove-row rows c.in_ok-place.place (c.in_ok-key.key, c.in_ok-key.field-0-1) c.first_place.ensures.unique c.in_ok-key.ensures.entry in
    (λ i. record { moments = taken i; failures = c.self.inside.failures.entries })
    ∙ ap (λ (d : RoomedDelays). left_by d.delays (Some c.in_ok-key.key)) c.self.view_is
    ∙ ap (λ k. left_by c.args.self.now.delays (Some k)) (sym c.join.ensures)
