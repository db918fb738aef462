use Rattle.std.proofs.Common.{None, cond, is_some, sym, ap, true≢false, ◌∙◌}
use Rattle.std.specs.Map.{values_of}
use Rattle.std.specs.Option.{option_map}
use Rattle.jc_log.specs.Tables.{at, takes}
use Rattle.jc_table.proofs.RowFacts.{found, is_there, no_row, taken-numbered, taken-rows, taken-sets, takes-none}
use Rattle.jc_table.proofs.by_key.Table.take.Goals as goal

-- The key has no row.
pub returns-in_err-number-clause-taken : goal.returns-in_err-number-clause-taken
returns-in_err-number-clause-taken g c =
    c.from_residual.ensures
    ∙ sym (no_row g.K.PartialEq.eq c.self.inside.rows c.self.inside.numbers.entries c.self.inside.next c.self.invariant c.args.key.now (sym c.in_err-number.ensures.value))
    ∙ ap (λ rows. at g.K.PartialEq.eq rows c.args.key.now) c.self.view_is

pub returns-in_err-number-clause-sets : goal.returns-in_err-number-clause-sets
returns-in_err-number-clause-sets g c =
    λ q.
    ap (λ rows. at g.K.PartialEq.eq rows q)
    (sym c.self.view_is ∙ sym (takes-none g.K.PartialEq.eq c.args.key.now (values_of c.self.inside.rows)
    (no_row g.K.PartialEq.eq c.self.inside.rows c.self.inside.numbers.entries c.self.inside.next c.self.invariant c.args.key.now (sym c.in_err-number.ensures.value))))
    ∙ taken-sets g.K.PartialEq.eq c.self.inside.rows c.self.inside.numbers.entries c.self.inside.next c.self.invariant g.met.K.Eq.laws c.args.key.now q
    ∙ ap (λ rows. cond (g.K.PartialEq.eq c.args.key.now q) None (at g.K.PartialEq.eq rows q)) c.self.view_is

pub returns-in_err-number-clause-rows : goal.returns-in_err-number-clause-rows
returns-in_err-number-clause-rows g c =
    sym c.self.view_is
    ∙ sym (takes-none g.K.PartialEq.eq c.args.key.now (values_of c.self.inside.rows)
    (no_row g.K.PartialEq.eq c.self.inside.rows c.self.inside.numbers.entries c.self.inside.next c.self.invariant c.args.key.now (sym c.in_err-number.ensures.value)))
    ∙ ap (λ rows. takes g.K.PartialEq.eq rows c.args.key.now) c.self.view_is

pub invariant_of-self : goal.invariant_of-self
invariant_of-self g c =
    taken-numbered g.K.PartialEq.eq c.self.inside.rows c.self.inside.numbers.entries c.self.inside.next c.self.invariant g.met.K.Eq.laws c.args.key.now c.in_ok-number.number.now
    c.remove.new.self c.swap_remove.new.self.entries (sym c.in_ok-number.ensures.value) c.remove.ensures.entries
    c.swap_remove.ensures.updates.0

pub returns-clause-sets : goal.returns-clause-sets
returns-clause-sets g c =
    λ q.
    ap (λ rows. at g.K.PartialEq.eq rows q)
    (taken-rows g.K.PartialEq.eq c.self.inside.rows c.self.inside.numbers.entries c.self.inside.next c.self.invariant c.args.key.now c.in_ok-number.number.now c.remove.new.self
    (sym c.in_ok-number.ensures.value) c.remove.ensures.entries)
    ∙ taken-sets g.K.PartialEq.eq c.self.inside.rows c.self.inside.numbers.entries c.self.inside.next c.self.invariant g.met.K.Eq.laws c.args.key.now q
    ∙ ap (λ rows. cond (g.K.PartialEq.eq c.args.key.now q) None (at g.K.PartialEq.eq rows q)) c.self.view_is

pub returns-clause-rows : goal.returns-clause-rows
returns-clause-rows g c =
    taken-rows g.K.PartialEq.eq c.self.inside.rows c.self.inside.numbers.entries c.self.inside.next c.self.invariant c.args.key.now c.in_ok-number.number.now c.remove.new.self
    (sym c.in_ok-number.ensures.value) c.remove.ensures.entries
    ∙ ap (λ rows. takes g.K.PartialEq.eq rows c.args.key.now) c.self.view_is

-- The number has a row.
pub unreachable-requires : goal.unreachable-requires
unreachable-requires g c =
    true≢false
    (ap is_some c.in_ok-number.ensures.value
    ∙ is_there g.K.PartialEq.eq c.self.inside.rows c.self.inside.numbers.entries c.self.inside.next c.self.invariant c.args.key.now
    ∙ ap is_some
    (sym
    (ap (option_map (λ row. row.1)) c.in_default.ensures.value
    ∙ found g.K.PartialEq.eq c.self.inside.rows c.self.inside.numbers.entries c.self.inside.next c.self.invariant c.args.key.now c.in_ok-number.number.now (sym c.in_ok-number.ensures.value))))

pub returns-clause-taken : goal.returns-clause-taken
returns-clause-taken g c =
    ap (option_map (λ row. row.1)) c.in-Some.ensures.value
    ∙ found g.K.PartialEq.eq c.self.inside.rows c.self.inside.numbers.entries c.self.inside.next c.self.invariant c.args.key.now c.in_ok-number.number.now (sym c.in_ok-number.ensures.value)
    ∙ ap (λ rows. at g.K.PartialEq.eq rows c.args.key.now) c.self.view_is
