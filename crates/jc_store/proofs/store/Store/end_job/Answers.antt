use Rattle.std.proofs.Common.{◌∷◌, ◌++◌, [], ap, ◌∙◌}
use Rattle.jc_types.specs.declared.objects.Entry.TheVariants.{JobGone}
use Rattle.jc_types.specs.Keys.{same_key}
use Rattle.jc_log.specs.Tables.{takes}
use Rattle.jc_store.proofs.Keeps.{end_job-keeps}
use Rattle.jc_store.proofs.store.Store.end_job.Goals as goal

pub invariant_of-self-2 : goal.invariant_of-self-2
invariant_of-self-2 c =
    end_job-keeps c.self.inside.born c.self.inside.jobs c.take.new.self c.self.inside.pods c.self.inside.made.entries
    c.self.inside.log c.push.new.self c.args.self.now c.args.job c.self.invariant c.self.view_is c.requires.room
    (c.in_ok-push.ensures.added ∙ ap (λ j. c.self.inside.log ++ JobGone j ∷ []) (c.in_ok-copy.ensures ∙ c.in_ok-gone.ensures))
    (c.take.ensures.rows ∙ ap (λ j. takes same_key c.self.inside.jobs j.key) (c.deref.ensures ∙ c.in_ok-gone.ensures))
    c.requires.version c.requires.end
