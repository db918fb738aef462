-- A row that was put where there was none is taken again.
use Rattle.std.proofs.Common.{ap, ◌∙◌}
use Rattle.jc_types.specs.Keys.{same_key}
use Rattle.jc_log.specs.Tables.{puts, takes}
use Rattle.jc_types.proofs.KeyFacts.{same_key-itself}
use Rattle.jc_log.proofs.TableFacts.{takes-puts}
use Rattle.jc_store.proofs.store.add_row.Goals as goal

pub returns-in-Err-clause-row_kept : goal.returns-in-Err-clause-row_kept
returns-in-Err-clause-row_kept g c =
    c.take.ensures.rows
    ∙ ap (λ t. takes same_key t c.args.key.now) (c.in_ok-put.ensures.puts ∙ ap (λ k. puts same_key c.args.rows.now k c.args.row) c.in_ok-copy.ensures)
    ∙ takes-puts same_key c.args.key.now c.args.row (same_key-itself c.args.key.now) c.args.rows.now c.requires
