use Rattle.std.proofs.Common.{sym, ◌∙◌}
use Rattle.std.proofs.lemmas.Bool.{eqb-true}
use Rattle.jc_types.specs.Keys.{same_uid}
use Rattle.jc_log.specs.Tables.{at}
use Rattle.jc_verdicts.proofs.VerdictRows.{none-entered, none-noted}
use Rattle.jc_verdicts.proofs.books.enter.Goals as goal

-- There are none.
pub returns-then-is_empty-clause-rows : goal.returns-then-is_empty-clause-rows
returns-then-is_empty-clause-rows c = none-entered c.args.rows.now.items c.args.new.now (eqb-true _ _ (sym c.is_empty.ensures ∙ c.if-is_empty.true))

pub returns-then-is_empty-clause-known : goal.returns-then-is_empty-clause-known
returns-then-is_empty-clause-known c =
    λ u. none-noted u (at same_uid c.args.known.now.entries u) c.args.new.now (eqb-true _ _ (sym c.is_empty.ensures ∙ c.if-is_empty.true))
