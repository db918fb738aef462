use Rattle.std.proofs.Common.{List, [], ◌∷◌, ◌++◌, ap, refl, subst, ◌∙◌}
use Rattle.jc_log.specs.Acts as does
use Rattle.jc_types.specs.declared.actions.Command.{Command}
use Rattle.jc_log.specs.Writes.{Stored}
use Rattle.jc_log.proofs.WriteFacts.{Stored-from_legal}
use Rattle.jc_runs.specs.Diaries.{moment}
use Rattle.jc_runs.specs.Play.{deeds_played, rest_played}
use Rattle.jc_runs.specs.Replies.{log_given}
use Rattle.jc_runs.specs.Seen.{deeds_seen}
use Rattle.jc_runs.proofs.LegalRuns.{legal_run}
use Rattle.jc_log.specs.Deeds.{Deed}
use Rattle.jc_reap.specs.Reaping.{reap_list, ttl_seen, unsettled}
use Rattle.jc_reap.proofs.AllFacts.{collected}
use Rattle.jc_reap.proofs.FindFacts.{Good, acts_of, whole-good}
use Rattle.jc_reap.proofs.Fits.{of-unsettled}
use Rattle.jc_reap.proofs.PlayedFacts.{Came, IsPlain, goes-nowhere, plays-all}
use Rattle.jc_reap.proofs.laws.reaped_plays.Goals as goal

pub returns : goal.returns
returns c = λ script seen ttls place p to.
    let same = to.deeds_are in
    let start = deeds_seen seen in
    let ttl = ttl_seen seen ttls in
    let m = legal_run c.allowed_updates_stay_valid.ensures seen.shape start to.legal to.valid in
    let stored = subst Stored m.run.log_is (Stored-from_legal m.log m.run.syncs.tied.legal) in
    let good = whole-good ttl seen.shape start stored (does.Settle ∷ []) (λ past d is next. (tt, tt)) in
    let q = rest_played script seen.shape place (reap_list seen ttls) p in
    collected ttl seen.shape start (moment seen.shape start) (unsettled seen ttls) q.full (deeds_played script q) refl
    (plays-all ttl seen.shape start script (unsettled seen ttls) place p
    (of-unsettled (λ (command : Command). IsPlain command.action) (λ u. tt) (λ n. tt) (λ k. tt) seen ttls) to.stand to.fresh (to.log_is ∙ ap (log_given seen.shape) same)
    (subst (λ (deeds : List Deed). Good ttl seen.shape deeds (acts_of (unsettled seen ttls) ++ does.Settle ∷ [])) same good)
    (subst (Came ttl seen.shape start []) same (goes-nowhere ttl seen.shape start)))
