use Rattle.std.proofs.Common.{◌∙◌}
use Rattle.jc_table.proofs.Numbers.{found-in_range, taken-first}
use Rattle.jc_table.proofs.stored_pods.least_from.Goals as goal

-- It is the first of the range.
pub returns : goal.returns
returns c =
    c.copied.ensures
    ∙ taken-first c.range.result c.next.new.self c.next.result c.next.ensures.steps
    ∙ found-in_range c.args.from c.args.numbers.now.keys c.range.result (c.range.ensures.between tt)
