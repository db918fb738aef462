use Rattle.std.proofs.Common.{◌∷◌, ◌++◌, [], map, ap, sym, ◌∙◌}
use Rattle.std.proofs.lemmas.List.{map-append}
use Rattle.jc_types.specs.declared.objects.Job.{Job}
use Rattle.jc_reap.proofs.Lists.{present-more}
use Rattle.jc_reap.proofs.marking.present.Goals as goal

-- The UID of one more Job.
pub loop-job-preserved : goal.loop-job-preserved
loop-job-preserved c = λ u.
    present-more (map (λ job. job.now) c.loop-job.yielded) _ c.deref.result.now u tt _ _
    (map-append (λ job. job.now) c.loop-job.yielded (c.in-Some.job ∷ [])
    ∙ ap (λ (job : Job). map (λ job. job.now) c.loop-job.yielded ++ job ∷ []) (sym c.deref.ensures))
    (c.loop-job.invariant u) (c.in_ok-put.ensures.sets u)
