use Rattle.jc_reap.proofs.Whole.{both-are}
use Rattle.jc_reap.proofs.reaping.unsettled.Goals as goal

-- The store and the moment are what the history says.
pub returns : goal.returns
returns c =
    both-are c.args.machine.now c.args.ttls.now _ _ c.in_ok-rows.rows.entries _ _ _ _ _
    c.store-store.ensures c.moment.ensures c.in_ok-rows.ensures
    c.jobs.ensures.rows c.pods.ensures.pods c.new-commands.ensures c.in_ok-mark_all_ownerless.ensures c.in_ok-remove_all.ensures
