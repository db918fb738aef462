-- The last count of the last piece is the last of all.
use Rattle.std.proofs.Common.{◌-◌, [], length, ◌∙◌, arith}
use Rattle.std.proofs.lemmas.Bool.{ltb-true}
use Rattle.jc_perindex.proofs.Placed.{all_below}
use Rattle.jc_perindex.proofs.counts.are_below.Goals as goal

pub returns-in-Some-last : goal.returns-in-Some-last
returns-in-Some-last c = λ less.
    let pieces = c.args.pieces.now in
    let counts = c.as_slice.result.now in
    let count = c.in-Some-last.count.now in
    let some = c.in-Some.ensures.item.3.0 in
    let any = c.in-Some-last.ensures.item.3.0 in
    all_below c.args.index pieces (length pieces - 1) (length counts - 1) counts count c.requires (omega (arith, some))
    (c.as_slice.ensures ∙ c.in-Some.ensures.item.3.1 []) (omega (arith, any)) c.in-Some-last.ensures.item.1 (ltb-true count.index c.args.index less)
