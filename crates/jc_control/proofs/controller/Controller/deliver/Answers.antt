use Rattle.std.proofs.Common.{◌-◌, ◌<◌, ◌^◌, length, subst, sym, ◌∙◌}
use Rattle.jc_cache.specs.Caches.{pods_at}
use Rattle.jc_control.specs.Schedules.{ControllerView}
use Rattle.jc_control.proofs.TurnFacts.{taken_back}
use Rattle.jc_control.proofs.controller.Controller.deliver.Goals as goal

-- A key that is added leaves the rows of the pod cache.
pub tell-requires-2-clause-few_pods : goal.tell-requires-2-clause-few_pods
tell-requires-2-clause-few_pods c = λ k. subst (λ (seen : ControllerView). length (pods_at k seen.rows) < 2 ^ 32 - 1) (sym c.self.view_is) (c.requires.few_pods k)

-- The key that was added is taken back.
pub returns-in-Err-clause-kept : goal.returns-in-Err-clause-kept
returns-in-Err-clause-kept c =
    let old : ControllerView = record {
      schedule = record {
        jobs_at = c.self.inside.jobs.number;
        pods_at = c.self.inside.pods.number;
        queue = c.self.inside.queue.queue;
        delays =
            c.self.inside.delays.delays;
        known = c.self.inside.known.entries;
      };
      jobs = c.self.inside.jobs.jobs;
      rows = c.self.inside.pods.rows;
    } in
    let seen : ControllerView = record {
      schedule = record {
        jobs_at = c.self-2.inside.jobs.number;
        pods_at = c.self-2.inside.pods.number;
        queue = c.self-2.inside.queue.queue;
        delays =
            c.self-2.inside.delays.delays;
        known = c.self-2.inside.known.entries;
      };
      jobs = c.self-2.inside.jobs.jobs;
      rows = c.self-2.inside.pods.rows;
    } in
    taken_back old seen c.add_clean.new.self.queue c.retract.new.self.queue c.in-Some.key.now c.is_dirty.ensures.queue (sym c.if-is_dirty.ensures.dirty)
    c.in_ok-add_clean.ensures.added (c.self-2.view_is ∙ c.in-Err.ensures.kept) c.retract.ensures.retracted
    ∙ c.self.view_is
