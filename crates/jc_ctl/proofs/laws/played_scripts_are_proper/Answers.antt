-- A script that is played was read, or it is that with a settle and a reaper's commands behind it.
use Rattle.std.proofs.Common.{refl}
use Rattle.std.proofs.lemmas.Result.{IfOk-at_ok}
use Rattle.jc_single.specs.TtlLines.{ttls_of}
use Rattle.jc_script.specs.Scripts.{script_of}
use Rattle.jc_audit.specs.Allowed.{is_allowed_key}
use Rattle.jc_words.specs.declared.words.Order.TheVariants as order
use Rattle.jc_single.proofs.ReapFacts.{history_of, settled_within}
use Rattle.jc_single.proofs.ShapeFacts.{read_within}
use Rattle.jc_ctl.proofs.PlayedFacts.{AreProper, read-proper, reaped-proper}
use Rattle.jc_ctl.proofs.laws.played_scripts_are_proper.Goals as goal

pub returns : goal.returns
returns c (order.Generate number jobs pods) input script fits said = tt
returns c (order.Audit shape) input script fits said = tt
returns c (order.Run threads lock shape) input script fits said =
    let shape_fits = fits.shape_fits in
    IfOk-at_ok (λ script. AreProper script.commands) said
    (read-proper shape (script_of shape input) (λ commands read. c.read_scripts_are_proper.ensures shape input commands
    shape_fits.some_controllers shape_fits.few_controllers shape_fits.some_workers shape_fits.few_workers read))
returns c (order.Reap shape) input script fits said =
    IfOk-at_ok (λ script. AreProper script.commands) said
    (reaped-proper shape fits.few_events
    (λ script within. c.plays_are_orderly_histories.ensures.history script shape within (history_of script shape) refl)
    (c.reaped_commands_can_be_said.ensures.commands is_allowed_key) c.reaped_commands_fit.ensures.lane
    (script_of shape input) (ttls_of shape input)
    (λ commands read. c.read_scripts_are_proper.ensures shape input commands
    fits.some_controllers fits.few_controllers fits.some_workers fits.few_workers read)
    (λ commands read. settled_within shape commands (read_within shape commands
    (c.scripts_fit_their_shape.ensures.within shape input commands fits.some_controllers fits.some_workers read)))
    (c.reaped_commands_can_be_said.ensures.ttls shape input))
