use Rattle.std.proofs.Common.{reverse}
use Rattle.jc_runs.specs.Seen.{deeds_in, deeds_seen}
use Rattle.jc_machine.specs.MachineKept.{fates_in}
use Rattle.jc_machine.proofs.Starts.{history_is, justified_seen, legal_seen, once_seen}
use Rattle.jc_machine.proofs.machine.Machine.history.Goals as goal

pub returns-clause-once : goal.returns-clause-once
returns-clause-once c =
    once_seen c.self.inside.script c.self.inside.shape c.self.inside.history.events.items c.self.inside.store c.self.inside.members.items (fates_in c.self.inside.fates) c.self.inside.clock c.args.self.now c.self.invariant.machine.run c.self.view_is
    (c.runs_count_once.ensures.at_each (record {
      shape = c.self.inside.shape;
      deeds = deeds_in c.self.inside.script (reverse c.self.inside.history.events.items);
      log = c.self.inside.store;
      teams = c.self.inside.members.items;
      fates = fates_in c.self.inside.fates;
      now = c.self.inside.clock;
    }) c.self.invariant.machine.run)

pub returns-clause-justified : goal.returns-clause-justified
returns-clause-justified c = justified_seen c.self.inside.script c.self.inside.shape c.self.inside.history.events.items
    c.self.inside.store c.self.inside.members.items (fates_in c.self.inside.fates) c.self.inside.clock c.args.self.now
    c.self.invariant.machine.run c.self.view_is
    (c.runs_count_once.ensures.justified (record {
      shape = c.self.inside.shape;
      deeds = deeds_in c.self.inside.script (reverse c.self.inside.history.events.items);
      log = c.self.inside.store;
      teams = c.self.inside.members.items;
      fates = fates_in c.self.inside.fates;
      now = c.self.inside.clock;
    }) c.self.invariant.machine.run)

pub returns-clause-follows : goal.returns-clause-follows
returns-clause-follows c =
    history_is c.self.inside.script c.self.inside.shape c.self.inside.history c.self.inside.store c.self.inside.members.items (fates_in c.self.inside.fates) c.self.inside.clock c.args.self.now c.self.invariant.machine c.self.view_is

pub returns-clause-bounds : goal.returns-clause-bounds
returns-clause-bounds c =
    λ one. c.one_controller_holds_the_bounds.ensures c.args.self.now.shape (deeds_seen c.args.self.now) one
    (legal_seen c.self.inside.script c.self.inside.shape c.self.inside.history.events.items c.self.inside.store
    c.self.inside.members.items (fates_in c.self.inside.fates) c.self.inside.clock c.args.self.now
    c.self.invariant.machine.run c.self.view_is)
