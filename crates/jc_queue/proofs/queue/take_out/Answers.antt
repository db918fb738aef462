use Rattle.std.proofs.Common.{sym, ap, ◌∙◌}
use Rattle.std.specs.List.{position}
use Rattle.jc_types.specs.Keys.{same_key}
use Rattle.jc_queue.proofs.Steps.{found-key, no_place, remove-found}
use Rattle.jc_queue.proofs.queue.take_out.Goals as goal

-- The key is among the keys, so that it has a place.
pub unreachable-requires : goal.unreachable-requires
unreachable-requires c =
    no_place (same_key c.args.key.now) c.args.keys.now.items c.requires.there
    (sym c.in_default.is ∙ c.place_of.ensures ∙ ap (λ keys. position (same_key c.args.key.now) keys) c.deref.ensures.value)

pub returns-clause-items : goal.returns-clause-items
returns-clause-items c =
    c.remove.ensures.items
    ∙ remove-found (same_key c.args.key.now) c.args.keys.now.items c.in-Some.place
    (sym c.in-Some.is ∙ c.place_of.ensures ∙ ap (λ keys. position (same_key c.args.key.now) keys) c.deref.ensures.value)

pub returns-clause-taken : goal.returns-clause-taken
returns-clause-taken c =
    found-key c.args.key.now c.remove.result c.args.keys.now.items c.in-Some.place
    (sym c.in-Some.is ∙ c.place_of.ensures ∙ ap (λ keys. position (same_key c.args.key.now) keys) c.deref.ensures.value) c.remove.ensures.value
