-- The play goes on as that of the longer script.
use Rattle.std.proofs.Common.{◌∙◌}
use Rattle.jc_reap.specs.Reaping.{reap_list}
use Rattle.jc_single.proofs.ExtendFacts.{reaped-fits, reaped-goes-on}
use Rattle.jc_single.proofs.reaps.play_on.Goals as goal

pub play_out-requires : goal.play_out-requires
play_out-requires c =
    reaped-fits c.args.machine c.extend.new.machine c.as_slice.result.now c.args.ttls.now
    (c.as_slice.ensures ∙ c.in_ok-commands.ensures) c.in_ok-extend.ensures c.requires.fits_shape
    (c.reaped_commands_fit.ensures.within c.args.machine.shape c.args.machine c.args.ttls.now)

pub returns-clause-play : goal.returns-clause-play
returns-clause-play c =
    let front = c.args.machine.script.commands in
    let more = reap_list c.args.machine c.args.ttls.now in
    reaped-goes-on c.args.machine c.extend.new.machine c.play_out.new.machine c.as_slice.result.now c.args.ttls.now
    c.in_ok-full.full (c.as_slice.ensures ∙ c.in_ok-commands.ensures) c.in_ok-extend.ensures c.requires.fits_shape
    c.requires.play (c.longer_scripts_play_on.ensures.deeds front more c.args.machine.shape)
    (c.longer_scripts_play_on.ensures.whole front more c.args.machine.shape) c.in_ok-full.ensures.play
