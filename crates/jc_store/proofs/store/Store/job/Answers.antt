use Rattle.std.proofs.Common.{◌∙◌}
use Rattle.jc_store.proofs.Keeps.{job_there}
use Rattle.jc_store.proofs.store.Store.job.Goals as goal

pub returns : goal.returns
returns c =
    c.get.ensures
    ∙ job_there c.self.inside.jobs c.self.inside.log c.args.self.now c.args.key.now c.self.invariant.jobs_there c.self.view_is
