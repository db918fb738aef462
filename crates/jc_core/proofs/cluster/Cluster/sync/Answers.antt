use Rattle.std.proofs.Common.{◌≡◌, IfOk, OnOk, sym, subst}
use Rattle.jc_types.specs.declared.objects.Job.{Job}
use Rattle.jc_types.specs.declared.objects.KeyNames.{KeyNames as Key}
use Rattle.jc_types.specs.declared.replies.Reply.TheVariants.{Ended}
use Rattle.jc_runs.specs.Seen.{Seen, happened}
use Rattle.jc_play.specs.SyncsSeen.{StartsCurrent, StepsWithoutStatus, begin_event, next_seen}
use Rattle.jc_core.specs.Shared.{Shared}
use Rattle.jc_core.proofs.ToldFacts.{synced-up}
use Rattle.jc_core.proofs.cluster.Cluster.sync.Goals as goal

pub returns-clause-ended : goal.returns-clause-ended
returns-clause-ended c = subst (λ (s : Shared). IfOk c.sync-ended.result (λ r. (k : Key) (job : Job) → StartsCurrent s.seen c.args.controller c.args.worker k job → r ≡ Ended)) c.self.view_is c.sync-ended.ensures.ended

pub returns-clause-no_status : goal.returns-clause-no_status
returns-clause-no_status c =
    subst (λ (s : Shared). OnOk c.sync-ended.result
    ((k : Key) (job : Job) → StartsCurrent s.seen c.args.controller c.args.worker k job
    → next_seen s.seen c.args.controller k job ≡ job.status
    → StepsWithoutStatus c.args.controller c.args.worker (happened s.seen (begin_event c.args.controller c.args.worker))
    c.keep_up.new.self.seen)) c.self.view_is
    (subst (λ (s : Seen). OnOk c.sync-ended.result
    ((k : Key) (job : Job) → StartsCurrent c.self.inside.machine c.args.controller c.args.worker k job
    → next_seen c.self.inside.machine c.args.controller k job ≡ job.status
    → StepsWithoutStatus c.args.controller c.args.worker
    (happened c.self.inside.machine (begin_event c.args.controller c.args.worker)) s)) (sym c.keep_up.ensures.seen)
    c.sync-ended.ensures.no_status)

pub returns-clause-slots : goal.returns-clause-slots
returns-clause-slots c =
    synced-up c.self.inside.machine c.sync-ended.new.self c.self.inside.slots.items c.args.self.now c.keep_up.new.self
    c.args.controller c.args.worker c.len-from.result c.history.result.now.events.items c.self.view_is
    c.sync-ended.ensures.appended c.history.ensures.events c.len-from.ensures c.keep_up.ensures.seen
    c.keep_up.ensures.slots
