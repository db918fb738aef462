use Rattle.std.proofs.Common.{arith, ◌+◌, ◌++◌, ◌∷◌, [], take, ap, sym, ◌∙◌}
use Rattle.std.proofs.lemmas.List.{take_more}
use Rattle.jc_types.specs.declared.objects.Job.{Job}
use Rattle.jc_queue.specs.Queued.{added}
use Rattle.jc_control.proofs.TurnFacts.{all_added-next}
use Rattle.jc_control.proofs.queues.with_jobs.Goals as goal

pub loop-job-preserved : goal.loop-job-preserved
loop-job-preserved c =
    let jobs = c.args.jobs.now in
    let i = c.loop-job.job-index in
    let job = c.job-item.result in (
      all_added-next (λ (job : Job). job.key) c.args.queue.now.queue c.loop-job.with_keys.queue c.add.new.self.queue jobs i (i + 1) job
          (take_more jobs i job (omega (arith, c.loop-job-test.true)) ∙ ap (λ job. take i jobs ++ job ∷ []) (sym c.job-item.is)) c.loop-job.invariant.0
          (c.in_ok-add.ensures.added ∙ ap (λ (job : Job). added c.loop-job.with_keys.queue job.key) c.deref.ensures),
      c.in_ok-add.ensures.room ∙ c.loop-job.invariant.1,
    )
