use Rattle.jc_sync.proofs.SyncingFacts.{answered_by}
use Rattle.jc_sync.proofs.syncing.Syncing.answered.Goals as goal

pub returns-clause-sync : goal.returns-clause-sync
returns-clause-sync c =
    answered_by c.self.inside.plan.basis c.self.inside.asks c.answered.new.self c.self.inside.is_written c.is_written_after-self-inside.result
    c.self.inside.sends c.unwrap_or-self-inside.result c.args.answer.now c.first_written-written.result c.first.result c.is_gone.result c.args.self.now
    c.answered.ensures c.first_written-written.ensures c.is_written_after-self-inside.ensures c.unwrap_or-self-inside.ensures c.first.ensures c.is_gone.ensures c.self.view_is
