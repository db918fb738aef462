-- Where each count is within the limit none of its indexes has failed.
use Rattle.std.proofs.Common.{◌++◌, map, sym, ap, ◌∙◌}
use Rattle.std.proofs.lemmas.List.{append-nil}
use Rattle.jc_types.specs.declared.statuses.IndexCount.{IndexCount}
use Rattle.jc_perindex.proofs.Sets.{none-within}
use Rattle.jc_perindex.proofs.filling.add_piece.Goals as goal

pub returns-then-is_within : goal.returns-then-is_within
returns-then-is_within c =
    sym (ap (λ counts. c.args.set.now ++ map (λ (count : IndexCount). count.index) counts)
    (none-within c.args.limit c.args.completions c.args.completed.now c.args.piece.now (c.is_within.ensures.0 c.if-is_within.true))
    ∙ append-nil c.args.set.now)
