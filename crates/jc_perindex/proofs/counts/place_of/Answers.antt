-- Where the last count is below, none is found.
use Rattle.std.proofs.Common.{◌-◌, length, arith}
use Rattle.jc_perindex.proofs.Placed.{none_at}
use Rattle.jc_perindex.proofs.counts.place_of.Goals as goal

pub returns-then-counts-many : goal.returns-then-counts-many
returns-then-counts-many c =
    none_at c.args.index c.args.counts.now (length c.args.counts.now - 1) _ c.requires (omega (arith, c.if-many-gt0.true)) c.if-counts-many.true
