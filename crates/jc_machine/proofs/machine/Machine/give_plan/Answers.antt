use Rattle.jc_machine.proofs.Readings.{own_read, put_back, worker_within}
use Rattle.jc_machine.proofs.machine.Machine.give_plan.Goals as goal

pub give_plan-requires-clause-worker : goal.give_plan-requires-clause-worker
give_plan-requires-clause-worker c = worker_within c.self.inside.script c.self.inside.shape
    c.self.inside.history.events.items c.self.inside.lanes c.self.inside.store c.self.inside.members.items
    c.self.inside.fates c.self.inside.clock c.args.self.now c.self.invariant c.self.view_is c.args.controller
    c.index_mut.result.now c.requires.of_shape c.index_mut.ensures.value c.args.worker c.requires.worker

pub give_plan-requires-clause-own : goal.give_plan-requires-clause-own
give_plan-requires-clause-own c = own_read c.self.inside.script c.self.inside.shape c.self.inside.history.events.items
    c.self.inside.lanes c.self.inside.store c.self.inside.members.items c.self.inside.fates c.self.inside.clock
    c.args.self.now c.self.invariant c.self.view_is c.args.controller c.index_mut.result.now c.requires.of_shape
    c.index_mut.ensures.value c.args.worker c.requires.worker c.args.plan.basis c.requires.own

pub invariant_of-self : goal.invariant_of-self
invariant_of-self c = put_back c.self.inside.script c.self.inside.shape c.self.inside.history.events.items
    c.self.inside.lanes c.self.inside.store c.self.inside.members.items c.self.inside.fates c.self.inside.clock
    c.args.self.now c.self.invariant c.self.view_is c.args.controller c.index_mut.result.now c.requires.of_shape
    c.index_mut.ensures.value c.give_plan.new.self c.give_plan.ensures
