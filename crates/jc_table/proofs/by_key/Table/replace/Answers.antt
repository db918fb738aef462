use Rattle.std.proofs.Common.{Some, cond, is_some, sym, ap, true≢false, ◌∙◌}
use Rattle.std.specs.Map.{values_of}
use Rattle.jc_log.specs.Tables.{at, puts}
use Rattle.jc_table.proofs.RowFacts.{has_row, no_row, puts-sets, second-numbered, second-rows}
use Rattle.jc_table.proofs.by_key.Table.replace.Goals as goal

-- The key has a number.
pub unreachable-requires : goal.unreachable-requires
unreachable-requires g c =
    true≢false
    (sym c.requires
    ∙ ap (λ rows. is_some (at g.K.PartialEq.eq rows c.args.key.now)) (sym c.self.view_is)
    ∙ ap is_some (no_row g.K.PartialEq.eq c.self.inside.rows c.self.inside.numbers.entries c.self.inside.next c.self.invariant c.args.key.now (sym c.in_default.ensures.value)))

-- The number has a row.
pub set_second-requires : goal.set_second-requires
set_second-requires g c =
    has_row g.K.PartialEq.eq c.self.inside.rows c.self.inside.numbers.entries c.self.inside.next c.self.invariant c.args.key.now c.in-Some.number.now (sym c.in-Some.ensures.value)

pub invariant_of-self : goal.invariant_of-self
invariant_of-self g c =
    second-numbered g.K.PartialEq.eq c.self.inside.rows c.self.inside.numbers.entries c.self.inside.next c.self.invariant c.args.key.now
    c.args.value c.in-Some.number.now c.set_second.new.self (sym c.in-Some.ensures.value) c.set_second.ensures

pub returns-clause-sets : goal.returns-clause-sets
returns-clause-sets g c =
    λ q.
    ap (λ rows. at g.K.PartialEq.eq rows q)
    (second-rows g.K.PartialEq.eq c.self.inside.rows c.self.inside.numbers.entries c.self.inside.next c.self.invariant c.args.key.now
    c.args.value c.in-Some.number.now c.set_second.new.self (sym c.in-Some.ensures.value) c.set_second.ensures)
    ∙ puts-sets g.K.PartialEq.eq g.met.K.Eq.laws c.args.key.now c.args.value (values_of c.self.inside.rows) q
    ∙ ap (λ rows. cond (g.K.PartialEq.eq c.args.key.now q) (Some c.args.value) (at g.K.PartialEq.eq rows q)) c.self.view_is

pub returns-clause-puts : goal.returns-clause-puts
returns-clause-puts g c =
    second-rows g.K.PartialEq.eq c.self.inside.rows c.self.inside.numbers.entries c.self.inside.next c.self.invariant c.args.key.now
    c.args.value c.in-Some.number.now c.set_second.new.self (sym c.in-Some.ensures.value) c.set_second.ensures
    ∙ ap (λ rows. puts g.K.PartialEq.eq rows c.args.key.now c.args.value) c.self.view_is
