use Rattle.std.proofs.Common.{◌≡◌, ap, subst, sym, ◌∙◌}
use Rattle.std.specs.Prelude.{OnOk}
use Rattle.jc_types.specs.Keys.{same_key}
use Rattle.jc_log.specs.Log.{jobs_after}
use Rattle.jc_log.specs.Tables.{puts}
use Rattle.jc_cache.proofs.jobs.take_in.Goals as goal

-- What is put are copies of the entry's Job and of its key.
pub returns-in_ok-copy-in-JobPut-2-clause-jobs : goal.returns-in_ok-copy-in-JobPut-2-clause-jobs
returns-in_ok-copy-in-JobPut-2-clause-jobs c =
    let old = c.args.table.now in
    let new = c.put.new.self in
    subst (λ e. OnOk c.put.result (new ≡ jobs_after e old)) (sym c.in-JobPut.is)
    (subst (λ k. OnOk c.put.result (new ≡ puts same_key old k c.in-JobPut.job)) (c.in_ok-copy-in-JobPut.ensures ∙ ap (λ job. job.key) c.deref.ensures)
    (subst (λ j. OnOk c.put.result (new ≡ puts same_key old c.in_ok-copy-in-JobPut.field-0 j)) c.in_ok-copy-in-JobPut-2.ensures c.put.ensures.puts))
