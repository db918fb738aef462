use Rattle.std.proofs.Common.{◌<◌, ◌-◌, ◌^◌, ◌+◌, refl, ap, sym, ◌∙◌, subst, arith, option_copied, length}
use Rattle.jc_cache.specs.Caches.{IsNext, pods_at}
use Rattle.jc_control.specs.Schedules.{MirrorsLog}
use Rattle.jc_runs.specs.Teams.{Team}
use Rattle.jc_runs.proofs.CacheFacts.{told_holds, entry_there}
use Rattle.jc_team.proofs.member.Member.deliver.Goals as goal

-- There is room for one more pod.
pub deliver-requires-clause-few_pods : goal.deliver-requires-clause-few_pods
deliver-requires-clause-few_pods c = λ k. subst (λ (t : Team). length (pods_at k t.con.rows) < 2 ^ 32 - 1) (sym c.self.view_is) (c.requires.few_pods k)

pub returns-in_default-entry-clause-reply : goal.returns-in_default-entry-clause-reply
returns-in_default-entry-clause-reply c = λ holds.
    absurd (entry_there c.args.store.now c.in-Some.number.0 (let e = c.log_len-end.ensures in let f = c.if-number-end.false in omega (arith, e, f)) (sym c.entry.ensures ∙ ap option_copied c.in_default-entry.is))

pub returns-clause-holds : goal.returns-clause-holds
returns-clause-holds c = λ holds.
    told_holds c.args.store.now c.self.inside.controller c.deliver.new.self c.args.kind c.in-Some-entry.entry.now _ c.caches_follow_the_log.ensures.told_jobs c.caches_follow_the_log.ensures.told_pods
    c.log-log.ensures.stored (subst (λ o. IsNext o (record { 0 = c.in-Some.number.0 + 1 })) (sym c.in-Some.is ∙ c.at.ensures) refl) (sym c.entry.ensures ∙ ap option_copied c.in-Some-entry.is)
    c.in_ok-deliver.ensures.schedule c.in_ok-deliver.ensures.jobs c.in_ok-deliver.ensures.pods (subst (λ (t : Team). MirrorsLog c.args.store.now t.con) (sym c.self.view_is) holds)
