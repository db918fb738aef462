use Rattle.std.proofs.Common.{◌∷◌, ◌++◌, [], IsSome, ap, sym, subst, ◌∙◌}
use Rattle.jc_types.specs.declared.objects.Entry.TheVariants.{JobPut}
use Rattle.jc_types.specs.Keys.{same_key}
use Rattle.jc_log.specs.Tables.{at, puts}
use Rattle.jc_store.proofs.Keeps.{job_row, put_job-keeps}
use Rattle.jc_store.proofs.store.Store.put_job.Goals as goal

pub put_row-requires : goal.put_row-requires
put_row-requires c =
    subst (λ j. IsSome (at same_key c.self.inside.jobs j.key)) (sym (c.deref.ensures ∙ c.in_ok-written.ensures))
    (job_row c.self.inside.jobs c.self.inside.log c.args.self.now c.args.job c.self.invariant.jobs_there c.self.view_is c.requires.step)

pub invariant_of-self-2 : goal.invariant_of-self-2
invariant_of-self-2 c =
    put_job-keeps c.self.inside.born c.self.inside.jobs c.put_row.new.rows c.self.inside.pods c.self.inside.made.entries
    c.self.inside.log c.put_row.new.log c.args.self.now c.args.job c.self.invariant c.self.view_is c.requires.room
    (c.in_ok-put_row.ensures.entry ∙ ap (λ j. c.self.inside.log ++ JobPut j ∷ []) c.in_ok-copy.ensures)
    (c.in_ok-put_row.ensures.row
    ∙ ap (λ j. puts same_key c.self.inside.jobs j.key c.args.job) (c.deref.ensures ∙ c.in_ok-written.ensures))
    c.requires.version c.requires.step
