use Rattle.std.proofs.Common.{rules, ◌≡◌, ◌+◌, [], ◌∷◌, ◌++◌, ap, take, ◌∙◌}
use Rattle.std.proofs.lemmas.List.{take_more}
use Rattle.jc_cache.proofs.CacheFacts.{table-next}
use Rattle.jc_cache.proofs.jobs.table_of.Goals as goal

-- The Job after the first ones is put in a row at the end.
pub loop-job-preserved : goal.loop-job-preserved
loop-job-preserved c =
    let jobs = c.args.jobs.now in
    let i = c.loop-job.job-index in
    let job = c.job-item.result in
    let more : take (i + 1) jobs ≡ take i jobs ++ job ∷ [] = search (rules, take_more) in
    table-next jobs i job c.in_ok-copy-2.field-0 c.in_ok-copy.field-0 c.loop-job.table c.put.new.self c.requires more c.loop-job.invariant (c.in_ok-copy.ensures ∙ ap (λ job. job.key) c.deref.ensures) c.in_ok-copy-2.ensures
    c.in_ok-put.ensures.puts
