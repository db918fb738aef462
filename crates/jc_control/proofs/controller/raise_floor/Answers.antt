use Rattle.std.proofs.Common.{is_some, true≢false, ap, sym, ◌∙◌}
use Rattle.std.specs.Option.{option_copied_mut}
use Rattle.jc_control.specs.ControllerCalls.{later}
use Rattle.jc_control.specs.declared.controller.Known.{Known}
use Rattle.jc_control.proofs.TurnFacts.{written}
use Rattle.jc_control.proofs.controller.raise_floor.Goals as goal

-- The key has a row.
pub unreachable-requires : goal.unreachable-requires
unreachable-requires c = true≢false (sym c.requires ∙ ap is_some (sym c.get_mut.ensures.value ∙ ap option_copied_mut c.in_default.is))

pub returns : goal.returns
returns c =
    let old = c.in-Some.known.now in
    let new : Known = record { floor = c.later-known.result; backoff = c.in-Some.known.now.backoff } in
    (c.get_mut.follows.holds new).0
    ∙ written c.args.rows.now.entries c.args.key.now old new (λ (known : Known). record { floor = later known.floor c.args.version; backoff = known.backoff }) (sym c.get_mut.ensures.value ∙ ap option_copied_mut c.in-Some.is)
    (ap (λ floor. record { floor = floor; backoff = c.in-Some.known.now.backoff }) c.later-known.ensures)
