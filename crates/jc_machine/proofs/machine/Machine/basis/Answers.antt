use Rattle.jc_machine.proofs.Readings.{basis_read, worker_within}
use Rattle.jc_machine.proofs.machine.Machine.basis.Goals as goal

pub basis-requires : goal.basis-requires
basis-requires c = worker_within c.self.inside.script c.self.inside.shape c.self.inside.history.events.items
    c.self.inside.lanes c.self.inside.store c.self.inside.members.items c.self.inside.fates c.self.inside.clock
    c.args.self.now c.self.invariant c.self.view_is c.args.controller c.index.result.now c.requires.of_shape
    c.index.ensures c.args.worker c.requires.worker

pub returns-clause-sync : goal.returns-clause-sync
returns-clause-sync c = basis_read c.self.inside.script c.self.inside.shape c.self.inside.history.events.items
    c.self.inside.lanes c.self.inside.store c.self.inside.members.items c.self.inside.fates c.self.inside.clock
    c.args.self.now c.self.invariant c.self.view_is c.args.controller c.index.result.now c.requires.of_shape
    c.index.ensures c.args.worker c.requires.worker _ c.basis.ensures.sync
