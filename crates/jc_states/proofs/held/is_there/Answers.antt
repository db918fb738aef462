use Rattle.std.proofs.Common.{◌==◌, ap, arith, get_or, le-ltb, sym, ◌∙◌}
use Rattle.std.proofs.lemmas.Grind.{get_or_default_zero}
use Rattle.jc_states.specs.Held.{times}
use Rattle.jc_states.proofs.HeldFacts.{times-past, times-read}
use Rattle.jc_states.proofs.held.is_there.Goals as goal

pub returns-then-place-len : goal.returns-then-place-len
returns-then-place-len c =
    let within = c.if-place-len.true in
    let len = c.args.indexes.now.ok in
    let at = c.requires.place in
    ap (λ k. k == c.args.n) (c.index.ensures ∙ get_or_default_zero c.args.indexes.now.items c.args.place c.index.result.now (omega (arith, within, len, c.len.ensures)))
    ∙ ap (λ i. get_or c.args.indexes.now.items i 0 == c.args.n) at
    ∙ times-read 0 c.args.n c.args.indexes.now.items c.requires.ascending (omega (arith, len, within, at, c.len.ensures))

pub returns-else-place-len : goal.returns-else-place-len
returns-else-place-len c =
    let past = c.if-place-len.false in
    let len = c.args.indexes.now.ok in
    let at = c.requires.place in
    let none = times-past c.args.n c.args.indexes.now.items (omega (arith, len, past, at, c.len.ensures)) in
    le-ltb c.args.place c.len.result past ∙ sym (le-ltb 0 (times c.args.n c.args.indexes.now.items) (omega (arith, none)))
