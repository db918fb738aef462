use Rattle.std.proofs.Common.{List, [], ◌∷◌, ◌++◌, ap, length, refl, subst, sym, ◌∙◌}
use Rattle.jc_log.specs.Acts as does
use Rattle.jc_types.specs.declared.actions.Command.{Command}
use Rattle.jc_log.specs.Deeds.{Deed}
use Rattle.jc_log.specs.Writes.{Stored}
use Rattle.jc_log.proofs.WriteFacts.{Stored-from_legal}
use Rattle.jc_types.specs.declared.runs.Shape.{Shape}
use Rattle.jc_runs.specs.Diaries.{moment}
use Rattle.jc_runs.specs.Play.{Playing, deeds_played, rest_played, whole_play}
use Rattle.jc_runs.specs.Replies.{log_given}
use Rattle.jc_order.proofs.PlayFacts.{plays-whole}
use Rattle.jc_runs.specs.Seen.{deeds_seen}
use Rattle.jc_runs.proofs.LegalRuns.{legal_run}
use Rattle.jc_reap.specs.Finds.{IsCollected, seen_at_end}
use Rattle.jc_reap.specs.Reaping.{reap_list, ttl_seen, unsettled}
use Rattle.jc_reap.proofs.AllFacts.{collected}
use Rattle.jc_reap.proofs.FindFacts.{Good, acts_of, whole-good}
use Rattle.jc_reap.proofs.Fits.{of-unsettled}
use Rattle.jc_reap.proofs.LongerPlays.{front-both, get-behind, of, whole-is}
use Rattle.jc_reap.proofs.PlayedFacts.{Came, IsPlain, goes-nowhere, plays-all}
use Rattle.jc_reap.proofs.laws.collecting_plays_are_due.Goals as goal

-- The play of the commands behind the front.
abbrev last : List Command → List Command → Shape → Playing
last front more shape = rest_played (of (front ++ more)) shape (length front) more (whole_play (of front) shape)

-- The first play goes on with the commands of the reaper.
pub returns : goal.returns
returns c = λ front shape ttls proper valid.
    let seen = seen_at_end (of front) shape in
    let more = reap_list seen ttls in
    let p = whole_play (of front) shape in
    let start = deeds_seen seen in
    let ttl = ttl_seen seen ttls in
    let h = (plays-whole (of front) shape proper).plays in
    let both = (front-both front more shape).still in
    let m = legal_run c.allowed_updates_stay_valid.ensures shape start h.legal (c.valid_scripts_ask_valid.ensures (of front) p.pasts valid) in
    let stored = subst Stored m.run.log_is (Stored-from_legal m.log m.run.syncs.tied.legal) in
    let good = whole-good ttl shape start stored (does.Settle ∷ []) (λ past d is next. (tt, tt)) in
    subst (λ (q : Playing). IsCollected ttl shape start q.full (deeds_played (of (front ++ more)) q)) (sym (whole-is front more shape))
    (collected ttl shape start (moment shape start) (unsettled seen ttls) (last front more shape).full (deeds_played (of (front ++ more)) (last front more shape)) refl
    (plays-all ttl shape start (of (front ++ more)) (unsettled seen ttls) (length front) p
    (of-unsettled (λ (command : Command). IsPlain command.action) (λ u. tt) (λ n. tt) (λ k. tt) seen ttls) (get-behind front more) both.fresh (h.log_is ∙ ap (log_given shape) both.deeds)
    (subst (λ (deeds : List Deed). Good ttl shape deeds (acts_of (unsettled seen ttls) ++ does.Settle ∷ [])) both.deeds good)
    (subst (Came ttl shape start []) both.deeds (goes-nowhere ttl shape start))))
