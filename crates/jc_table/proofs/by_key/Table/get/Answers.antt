use Rattle.std.proofs.Common.{ap, sym, ◌∙◌}
use Rattle.std.specs.Option.{option_copied, option_map}
use Rattle.jc_log.specs.Tables.{at}
use Rattle.jc_table.proofs.RowFacts.{found, no_row}
use Rattle.jc_table.proofs.by_key.Table.get.Goals as goal

-- The key has no number.
pub returns-in_err-number : goal.returns-in_err-number
returns-in_err-number g c =
    ap option_copied c.from_residual.ensures
    ∙ sym (no_row g.K.PartialEq.eq c.self.inside.rows c.self.inside.numbers.entries c.self.inside.next c.self.invariant c.args.key.now (sym c.in_err-number.ensures.value))
    ∙ ap (λ rows. at g.K.PartialEq.eq rows c.args.key.now) c.self.view_is

-- The number has no row, so the key has none.
pub returns-in_err-_key : goal.returns-in_err-_key
returns-in_err-_key g c =
    ap option_copied c.from_residual-in_err-_key.ensures
    ∙ ap (option_map (λ row. row.1)) c.in_err-_key.ensures
    ∙ found g.K.PartialEq.eq c.self.inside.rows c.self.inside.numbers.entries c.self.inside.next c.self.invariant c.args.key.now c.in_ok-number.number.now (sym c.in_ok-number.ensures.value)
    ∙ ap (λ rows. at g.K.PartialEq.eq rows c.args.key.now) c.self.view_is

-- The row under the number is that of the key.
pub returns : goal.returns
returns g c =
    ap (option_map (λ row. row.1)) c.in_ok-_key.ensures
    ∙ found g.K.PartialEq.eq c.self.inside.rows c.self.inside.numbers.entries c.self.inside.next c.self.invariant c.args.key.now c.in_ok-number.number.now (sym c.in_ok-number.ensures.value)
    ∙ ap (λ rows. at g.K.PartialEq.eq rows c.args.key.now) c.self.view_is
