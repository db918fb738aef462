-- The play of the script that is played last goes on from that of the first, or it is the first.
use Rattle.std.proofs.Common.{[], refl, sym, true≢false, ◌∙◌}
use Rattle.jc_types.specs.declared.actions.Script.{Script}
use Rattle.jc_promise.specs.Play.{deeds_played, is_full, whole_play}
use Rattle.jc_promise.specs.Seen.{deeds_seen}
use Rattle.jc_reap.specs.Finds.{IsCollected, seen_at_end}
use Rattle.jc_reap.specs.Reaping.{ttl_seen}
use Rattle.jc_words.specs.declared.words.Order.TheVariants.{Reap}
use Rattle.jc_single.proofs.ReapFacts.{last-where, settled_valid, settled_within}
use Rattle.jc_single.proofs.ShapeFacts.{read_within}
use Rattle.jc_single.specs.Played.{at_rest}
use Rattle.jc_single.proofs.laws.reapers_collect_what_is_due.Goals as goal

pub returns : goal.returns
returns c words shape input commands ttls is said given =
    let fits = c.orders_fit.ensures.orders words (Reap shape) is in
    let valid = c.scripts_fit_their_shape.ensures.valid shape input commands said in
    let within = read_within shape commands
    (c.scripts_fit_their_shape.ensures.within shape input commands fits.some_controllers fits.some_workers said) in
    let first = at_rest commands in
    let seen = seen_at_end first shape in
    last-where
    (λ (last : Script). IsCollected (ttl_seen seen ttls) shape (deeds_seen seen) (is_full last shape) (deeds_played last (whole_play last shape)))
    first shape ttls
    (λ full. record { more = []; parts = refl; due = tt; all = λ room. absurd (true≢false (sym full ∙ room)) })
    (c.collecting_plays_are_due.ensures first.commands shape ttls (settled_within shape commands within) (settled_valid commands valid))
