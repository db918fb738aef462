use Rattle.std.proofs.Common.{sym, ap, ◌∙◌}
use Rattle.std.specs.Map.Iter.{deref_pair}
use Rattle.std.specs.Option.{option_map}
use Rattle.jc_types.specs.Keys.{same_uid}
use Rattle.jc_types.proofs.KeyFacts.{same_uid-either_way}
use Rattle.jc_states.proofs.RowFacts.{first-found}
use Rattle.jc_states.proofs.rows.row_of.Goals as goal

-- The first row is of the owner.
pub returns-in-Some : goal.returns-in-Some
returns-in-Some g c =
    sym
    (first-found (same_uid c.args.owner) c.args.rows.now.entries c.in-Some.first.now c.in-Some.row.now
    (sym c.first.ensures.entry ∙ ap (option_map deref_pair) c.in-Some.is)
    (same_uid-either_way c.args.owner c.in-Some.first.now ∙ sym c.eq.ensures ∙ c.if-eq.true))
