use Rattle.std.proofs.Common.{◌+◌, ◌++◌, ◌∷◌, [], ap, ◌∙◌}
use Rattle.jc_types.specs.declared.objects.Entry.TheVariants.{JobPut}
use Rattle.jc_types.specs.Keys.{same_key}
use Rattle.jc_log.specs.Tables.{at, puts}
use Rattle.jc_store.proofs.Keeps.{job_there, make_job-keeps}
use Rattle.jc_store.proofs.store.Store.make_job.Goals as goal

pub add_row-requires : goal.add_row-requires
add_row-requires c =
    ap (λ j. at same_key c.self.inside.jobs j.key) (c.deref.ensures ∙ c.in_ok-made.ensures ∙ c.in_ok-job.ensures)
    ∙ job_there c.self.inside.jobs c.self.inside.log c.args.self.now c.args.job.key c.self.invariant.jobs_there c.self.view_is
    ∙ c.requires.absent

pub invariant_of-self-2 : goal.invariant_of-self-2
invariant_of-self-2 c =
    make_job-keeps c.self.inside.born (c.births-born.result + 1) c.self.inside.jobs c.add_row.new.rows c.self.inside.pods c.self.inside.made.entries
    c.self.inside.log c.add_row.new.log c.args.self.now c.args.job c.self.invariant c.self.view_is c.requires.room
    (c.in_ok-add_row.ensures.entry ∙ ap (λ j. c.self.inside.log ++ JobPut j ∷ []) (c.in_ok-copy.ensures ∙ c.in_ok-job.ensures))
    (c.in_ok-add_row.ensures.row
    ∙ ap (λ j. puts same_key c.self.inside.jobs j.key c.in_ok-job.job) (c.deref.ensures ∙ c.in_ok-made.ensures ∙ c.in_ok-job.ensures)
    ∙ ap (puts same_key c.self.inside.jobs c.args.job.key) c.in_ok-job.ensures)
    (ap (λ n. n + 1) c.births-born.ensures.value) c.requires.version c.requires.new_job c.requires.absent
