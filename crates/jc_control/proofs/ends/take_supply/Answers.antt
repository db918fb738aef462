-- The supply stands at the first place whose key it is.
use Rattle.std.proofs.Common.{sym, ap, ◌∙◌}
use Rattle.std.specs.List.{position}
use Rattle.jc_types.specs.Keys.{same_key}
use Rattle.jc_queue.proofs.Steps.{found-key, no_place, remove-found}
use Rattle.jc_control.proofs.ends.take_supply.Goals as goal

pub unreachable-requires : goal.unreachable-requires
unreachable-requires c =
    no_place (same_key c.args.key.now) c.args.supplies.now.items c.requires.there
    (sym c.in_default.is ∙ c.place_of.ensures ∙ ap (λ keys. position (same_key c.args.key.now) keys) c.as_slice.ensures.value)

pub returns-clause-left : goal.returns-clause-left
returns-clause-left c =
    c.remove.ensures.items
    ∙ remove-found (same_key c.args.key.now) c.args.supplies.now.items c.in-Some.place
    (sym c.in-Some.is ∙ c.place_of.ensures ∙ ap (λ keys. position (same_key c.args.key.now) keys) c.as_slice.ensures.value)

pub returns-clause-supply : goal.returns-clause-supply
returns-clause-supply c =
    found-key c.args.key.now c.remove.result c.args.supplies.now.items c.in-Some.place
    (sym c.in-Some.is ∙ c.place_of.ensures ∙ ap (λ keys. position (same_key c.args.key.now) keys) c.as_slice.ensures.value) c.remove.ensures.value
