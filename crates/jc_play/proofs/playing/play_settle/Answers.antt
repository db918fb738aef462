use Rattle.std.proofs.Common.{false}
use Rattle.std.proofs.lemmas.Result.{err_from_is_err_and}
use Rattle.jc_history.specs.Play.{event_played, settled_down}
use Rattle.jc_runs.specs.Seen.{act_seen}
use Rattle.jc_play.specs.Turns.{IsOwn, is_quiescent_seen, playing_of}
use Rattle.jc_play.proofs.GoFacts.{grown-then, stopped}
use Rattle.jc_play.proofs.PlayFacts.{event-full, own-admits, own-later, rest-settles}
use Rattle.jc_play.proofs.playing.play_settle.Goals as goal

pub play_plain-requires : goal.play_plain-requires
play_plain-requires c =
    let own : IsOwn c.settle.new.machine c.args.event = own-later c.args.machine.now c.settle.new.machine c.args.event c.settle.ensures.kept.script c.settle.ensures.kept.shape c.settle.ensures.kept.counts c.requires.own in
    record {
      own = own;
      admits = own-admits c.settle.new.machine c.args.event own (rest-settles (act_seen c.settle.new.machine c.args.event) (is_quiescent_seen c.settle.new.machine) c.in_ok-settle.ensures.rests);
    }

pub returns-in_err-settle-clause-reaches : goal.returns-in_err-settle-clause-reaches
returns-in_err-settle-clause-reaches c =
    let p = err_from_is_err_and c.from_residual.result c.from_residual.ensures.1 in
    stopped c.from_residual.result c.in_err-settle.field-0.0
    (settled_down c.args.machine.now.script c.args.machine.now.shape (playing_of false c.args.machine.now))
    c.settle.new.machine (event_played c.args.machine.now.script c.args.machine.now.shape c.args.event) (cc (p.1, p.2))
    c.in_err-settle.ensures.reaches
    (λ le. event-full c.args.machine.now c.settle.new.machine c.settle.ensures.grown.shape c.args.event le)

pub returns-clause-grown : goal.returns-clause-grown
returns-clause-grown c = grown-then c.args.machine.now c.settle.new.machine c.play_plain.new.machine c.settle.ensures.grown c.play_plain.ensures.grown
