use Rattle.std.proofs.Common.{◌≡◌, ◌<◌, length, ap, sym, ◌∙◌, subst, arith}
use Rattle.jc_turn.specs.LockSeats.{HaveSeen}
use mathlib.Core.List.{IsPrefix}
use Rattle.jc_turn.proofs.Gathers.{more_seen, slot_value, some_same}
use Rattle.jc_turn.proofs.Keeps.{closes}
use Rattle.jc_turn.proofs.turn_lock.TurnLock.close.Goals as goal

pub gather-place-requires-clause-some_seats : goal.gather-place-requires-clause-some_seats
gather-place-requires-clause-some_seats g c =
    let has : length c.args.seats ≡ c.args.self.seats = c.requires.seats.1 in
    let some_seats : 0 < c.self.inside.table.shared.key = c.self.invariant.1 in
    let e : length c.seats.inside.seats.items ≡ c.self.inside.table.shared.key = ap length c.seats.view_is ∙ (has ∙ ap (λ t. t.seats) (sym c.self.view_is)) in
    omega arith

pub unreachable-requires : goal.unreachable-requires
unreachable-requires g c =
    let has : length c.seats.inside.seats.items ≡ c.self.inside.table.shared.key = ap length c.seats.view_is ∙ (c.requires.seats.1 ∙ ap (λ t. t.seats) (sym c.self.view_is)) in
    let p = c.gather-place.ensures in
    let f = closes g.T.Booked.pasts c.self.inside.table.shared.key _ _ _ _ p.view.0 (p.view.1 ∙ has) c.close_with-closed.ensures.values.2 in
    c.in_default.not-Some f.0 (slot_value _ _ _ c.take-slot.ensures.value f.1)

pub returns : goal.returns
returns g c =
    let has : length c.seats.inside.seats.items ≡ c.self.inside.table.shared.key = ap length c.seats.view_is ∙ (c.requires.seats.1 ∙ ap (λ t. t.seats) (sym c.self.view_is)) in
    let p = c.gather-place.ensures in
    let f = closes g.T.Booked.pasts c.self.inside.table.shared.key _ _ _ _ p.view.0 (p.view.1 ∙ has) c.close_with-closed.ensures.values.2 in
    let same = some_same c.take-slot.result f.0 c.in-Some.value (slot_value _ _ _ c.take-slot.ensures.value f.1) c.in-Some.is in
    subst (λ seats. HaveSeen seats (g.T.Booked.pasts c.in-Some.value)) c.seats.view_is
    (more_seen c.seats.inside.seats.items _ _ p.seen (subst (λ value. IsPrefix c.gather-place.result.me.0.seen (g.T.Booked.pasts value)) same f.2))
