use Rattle.std.proofs.Common.{ap, ◌∙◌}
use Rattle.jc_types.specs.declared.actions.Script.{Script}
use Rattle.jc_log.specs.Deeds.{act_of_event}
use Rattle.jc_runs.specs.Seen.{reply_seen}
use Rattle.jc_core.specs.RegisterChanges.{touch_of}
use Rattle.jc_core.specs.Shared.{Shared}
use Rattle.jc_core.proofs.TouchFacts.{touched-seen}
use Rattle.jc_core.proofs.cluster.Cluster.apply.Goals as goal

pub returns-clause-slots : goal.returns-clause-slots
returns-clause-slots c =
    touched-seen c.self.inside.machine c.self.inside.slots.items c.touch_all.new.slots.items c.args.self.now c.args.event c.touch_of_event-touch.result c.in_ok-reply.reply c.self.view_is
    (c.touch_of_event-touch.ensures ∙ ap (λ (s : Script). touch_of (act_of_event s.commands c.args.event)) c.script.ensures)
    (c.in_ok-reply.ensures.reply ∙ ap (λ (s : Shared). reply_seen s.seen c.args.event) c.self.view_is) c.touch_all.ensures.slots
