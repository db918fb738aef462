use Rattle.std.proofs.Common.{◌≡◌, slice_get, Some, true, refl, sym, ap, ◌∙◌}
use Rattle.std.specs.Map.Iter.{deref_pair}
use Rattle.std.specs.Option.{ghost_name_of, option_map}
use Rattle.jc_states.proofs.RowFacts.{first-value, first-written}
use Rattle.jc_states.proofs.rows.row_mut.Goals as goal

-- The first row is that of the key.
pub returns-in-Some : goal.returns-in-Some
returns-in-Some g c =
    let eq = g.K.PartialEq.eq in
    let rows = c.args.rows.now in
    let key = c.in-Some.first.now in
    let row = c.in-Some.field-0-1.now in
    let at : slice_get rows.entries 0 ≡ Some (key, row) = sym c.first.ensures.entry ∙ ap (option_map deref_pair) c.in-Some.is in
    let same : eq key c.args.key ≡ true = sym c.eq.ensures ∙ c.if-eq.true in
    let passes : eq c.args.key key ≡ true = g.met.K.Eq.laws.symm c.args.key key ∙ same in (
      (refl {a = ghost_name_of c.first_mut.result}, (λ w. first-written eq g.met.K.Eq.laws rows c.args.key key row w c.first_mut.ensures.unique at passes), refl {a = rows}),
      record { writes_back = tt; value = c.first_mut.ensures.value ∙ first-value (eq c.args.key) rows.entries key row at passes },
    )
