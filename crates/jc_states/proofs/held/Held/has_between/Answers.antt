use Rattle.std.proofs.Common.{ap, arith, get_or, le-ltb, nat_le, sym, ◌∙◌}
use Rattle.std.proofs.lemmas.Grind.{get_or_default_zero}
use Rattle.std.specs.List.{list_any}
use Rattle.jc_states.specs.Held.{is_between}
use Rattle.jc_states.proofs.HeldFacts.{any-past, any-read}
use Rattle.jc_states.proofs.held.Held.has_between.Goals as goal

pub returns-then-place-len : goal.returns-then-place-len
returns-then-place-len c =
    let seen = c.self.inside.indexes.items in
    let len = c.self.inside.indexes.ok in
    let within = c.if-place-len.true in
    let at = c.place_for-place.ensures in
    ap (λ k. nat_le k c.args.last) (c.index.ensures ∙ get_or_default_zero seen c.place_for-place.result c.index.result.now (omega (arith, within, len, c.len.ensures)))
    ∙ ap (λ i. nat_le (get_or seen i 0) c.args.last) at
    ∙ any-read 0 c.args.first c.args.last seen c.self.invariant.0 (omega (arith, len, within, at, c.len.ensures))
    ∙ ap (list_any (is_between c.args.first c.args.last)) c.self.view_is

pub returns-else-place-len : goal.returns-else-place-len
returns-else-place-len c =
    let seen = c.self.inside.indexes.items in
    let len = c.self.inside.indexes.ok in
    let past = c.if-place-len.false in
    let at = c.place_for-place.ensures in
    le-ltb c.place_for-place.result c.len.result past
    ∙ sym (any-past c.args.first c.args.last seen (omega (arith, len, past, at, c.len.ensures)))
    ∙ ap (list_any (is_between c.args.first c.args.last)) c.self.view_is
