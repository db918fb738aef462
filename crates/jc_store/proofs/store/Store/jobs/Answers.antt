use Rattle.std.proofs.Common.{ap, sym, subst, ◌∙◌}
use Rattle.jc_log.specs.Log.{RowsRise, jobs_in}
use Rattle.jc_log.specs.Writes.{Stored}
use Rattle.jc_log.proofs.JobFacts.{jobs_in-rise}
use Rattle.jc_store.proofs.store.Store.jobs.Goals as goal

pub returns-clause-rows : goal.returns-clause-rows
returns-clause-rows c = c.self.invariant.jobs_there ∙ ap jobs_in c.self.view_is

pub returns-clause-rising : goal.returns-clause-rising
returns-clause-rising c =
    subst (RowsRise 0) (sym (c.self.invariant.jobs_there ∙ ap jobs_in c.self.view_is))
    (jobs_in-rise c.args.self.now (subst Stored c.self.view_is c.self.invariant.stored))
