-- The play is the first, at rest where it is not full, and goes on from there.
use Rattle.std.proofs.Common.{◌≡◌, ◌∙◌, ap, ap₂, refl, sym}
use Rattle.jc_promise.specs.Play.{whole_play}
use Rattle.jc_types.specs.declared.actions.Script.{Script}
use Rattle.jc_reap.specs.Reaping.{reaped_script}
use Rattle.jc_report.specs.Turns.{playing_of}
use Rattle.jc_single.specs.Played.{then_reaped}
use Rattle.jc_single.specs.declared.plays.Played.{Played}
use Rattle.jc_single.proofs.ReapFacts.{full-is, full-last, history_of, if-ok, last-is, left-is, rests-left}
use Rattle.jc_single.proofs.reaps.play_last.Goals as goal

pub returns-then-played-clause-script : goal.returns-then-played-clause-script
returns-then-played-clause-script c =
    let seen = c.in_ok-played.played.machine in
    let made = c.in_ok-played.ensures in
    let full = full-is c.args.script c.args.shape.now seen c.in_ok-played.played.full made.script made.shape made.play in
    made.script ∙ sym (full-last c.args.script c.args.shape.now c.args.ttls.now (full ∙ c.if-played.true))

pub returns-then-played-clause-play : goal.returns-then-played-clause-play
returns-then-played-clause-play c =
    let seen = c.in_ok-played.played.machine in
    let made = c.in_ok-played.ensures in
    let full = full-is c.args.script c.args.shape.now seen c.in_ok-played.played.full made.script made.shape made.play in
    ap (λ (s : Script). whole_play s c.args.shape.now)
    (full-last c.args.script c.args.shape.now c.args.ttls.now (full ∙ c.if-played.true)) ∙ made.play

pub play_on-requires-clause-rest : goal.play_on-requires-clause-rest
play_on-requires-clause-rest c =
    let seen = c.in_ok-played.played.machine in
    let made = c.in_ok-played.ensures in
    let full = full-is c.args.script c.args.shape.now seen c.in_ok-played.played.full made.script made.shape made.play in
    rests-left c.args.script c.args.shape.now seen
    (left-is c.args.script c.args.shape.now seen c.in_ok-played.played.full made.script made.shape made.play)
    (c.settled_plays_are_at_rest.ensures c.args.script c.args.shape.now c.requires.fits_shape
    (history_of c.args.script c.args.shape.now) refl (full ∙ c.if-played.false) c.requires.ends)

pub returns-clause-script : goal.returns-clause-script
returns-clause-script c =
    let seen = c.in_ok-played.played.machine in
    let made = c.in_ok-played.ensures in
    let ttls = c.args.ttls.now in
    let full = full-is c.args.script c.args.shape.now seen c.in_ok-played.played.full made.script made.shape made.play in
    let left = left-is c.args.script c.args.shape.now seen c.in_ok-played.played.full made.script made.shape made.play in
    let last = last-is c.args.script c.args.shape.now seen ttls (reaped_script seen ttls) left made.script (full ∙ c.if-played.false) refl in
    if-ok (λ (played : Played). played.machine.script ≡ reaped_script seen ttls)
    (λ (played : Played). played.machine.script ≡ then_reaped c.args.script c.args.shape.now ttls) c.play_on.result
    (λ played is. is ∙ last) c.play_on.ensures.script

pub returns-clause-play : goal.returns-clause-play
returns-clause-play c =
    let seen = c.in_ok-played.played.machine in
    let made = c.in_ok-played.ensures in
    let ttls = c.args.ttls.now in
    let full = full-is c.args.script c.args.shape.now seen c.in_ok-played.played.full made.script made.shape made.play in
    let left = left-is c.args.script c.args.shape.now seen c.in_ok-played.played.full made.script made.shape made.play in
    let last = last-is c.args.script c.args.shape.now seen ttls (reaped_script seen ttls) left made.script (full ∙ c.if-played.false) refl in
    if-ok (λ (played : Played). whole_play (reaped_script seen ttls) seen.shape ≡ playing_of played.full played.machine)
    (λ (played : Played). whole_play (then_reaped c.args.script c.args.shape.now ttls) c.args.shape.now
    ≡ playing_of played.full played.machine) c.play_on.result
    (λ played is. ap₂ whole_play (sym last) (sym made.shape) ∙ is) c.play_on.ensures.play
