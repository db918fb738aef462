use Rattle.jc_machine.proofs.Readings.{free_read, worker_within}
use Rattle.jc_machine.proofs.machine.Machine.is_free.Goals as goal

pub is_free-requires : goal.is_free-requires
is_free-requires c = worker_within c.self.inside.script c.self.inside.shape c.self.inside.history.events.items
    c.self.inside.lanes c.self.inside.store c.self.inside.members.items c.self.inside.fates c.self.inside.clock
    c.args.self.now c.self.invariant c.self.view_is c.args.controller c.index.result.now c.requires.of_shape
    c.index.ensures c.args.worker c.requires.worker

pub returns : goal.returns
returns c = free_read c.self.inside.script c.self.inside.shape c.self.inside.history.events.items c.self.inside.lanes
    c.self.inside.store c.self.inside.members.items c.self.inside.fates c.self.inside.clock c.args.self.now
    c.self.invariant c.self.view_is c.args.controller c.index.result.now c.requires.of_shape c.index.ensures
    c.args.worker c.requires.worker c.is_free.result c.is_free.ensures
