use Rattle.std.proofs.Common.{◌<◌, subst}
use Rattle.jc_core.specs.Shared.{Shared}
use Rattle.jc_core.proofs.SlotFacts.{awaited-within}
use Rattle.jc_core.proofs.cluster.Cluster.awaits_since.Goals as goal

pub is_still_of_sync-requires-clause-of_shape : goal.is_still_of_sync-requires-clause-of_shape
is_still_of_sync-requires-clause-of_shape c =
    (awaited-within c.self.inside.machine c.self.inside.slots.items c.as_slice.result.now c.args.seat c.args.controller
    c.args.worker c.is_held_by.result c.self.invariant.registers c.as_slice.ensures.value c.is_held_by.ensures
    c.if-is_held_by.true).controller

pub is_still_of_sync-requires-clause-worker : goal.is_still_of_sync-requires-clause-worker
is_still_of_sync-requires-clause-worker c =
    (awaited-within c.self.inside.machine c.self.inside.slots.items c.as_slice.result.now c.args.seat c.args.controller
    c.args.worker c.is_held_by.result c.self.invariant.registers c.as_slice.ensures.value c.is_held_by.ensures
    c.if-is_held_by.true).worker

pub returns-then-is_held_by-clause-of_shape : goal.returns-then-is_held_by-clause-of_shape
returns-then-is_held_by-clause-of_shape c = λ _. subst (λ (s : Shared). c.args.controller < s.seen.shape.controllers)
    c.self.view_is (awaited-within c.self.inside.machine c.self.inside.slots.items c.as_slice.result.now c.args.seat
    c.args.controller c.args.worker c.is_held_by.result c.self.invariant.registers c.as_slice.ensures.value
    c.is_held_by.ensures c.if-is_held_by.true).controller

pub returns-then-is_held_by-clause-worker : goal.returns-then-is_held_by-clause-worker
returns-then-is_held_by-clause-worker c = λ _. subst (λ (s : Shared). c.args.worker < s.seen.shape.workers)
    c.self.view_is (awaited-within c.self.inside.machine c.self.inside.slots.items c.as_slice.result.now c.args.seat
    c.args.controller c.args.worker c.is_held_by.result c.self.invariant.registers c.as_slice.ensures.value
    c.is_held_by.ensures c.if-is_held_by.true).worker
