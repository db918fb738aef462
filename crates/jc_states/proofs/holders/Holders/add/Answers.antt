use Rattle.std.proofs.Common.{◌+◌, ◌==◌, ◌&&◌, IsSome, Some, ap, arith, cond, refl, subst, sym, ◌∙◌}
use Rattle.std.specs.Option.{option_copied_mut}
use Rattle.std.proofs.lemmas.Map.Steps.{set_value_same}
use Rattle.std.proofs.lemmas.Result.{on_ok_weaker, on_err_weaker}
use Rattle.jc_types.specs.Keys.{same_uid}
use Rattle.jc_states.specs.Holders.{held_by, held_in}
use Rattle.jc_states.proofs.HolderFacts.{none-held, some-held, written-held}
use Rattle.jc_states.proofs.holders.Holders.add.Goals as goal

-- The row of the owner is written.
pub returns-in-Some-clause-adds : goal.returns-in-Some-clause-adds
returns-in-Some-clause-adds c =
    let rows = c.self.inside.rows.entries in
    let there = sym c.row_mut.ensures.value ∙ ap option_copied_mut c.in-Some.is in
    on_ok_weaker c.add.result
    (λ counts other n.
    written-held (λ k more. k + more) (λ k. omega arith) c.args.owner c.args.index c.in-Some.held.now c.add.new.self rows (c.row_mut.follows.lender c.add.new.self).entries
    (some-held c.args.owner c.in-Some.held.now rows there)
    counts
    (((c.row_mut.follows.holds c.add.new.self).3 (subst IsSome (sym there) refl)).0)
    other n
    ∙ ap (λ all. held_in other n all + cond (same_uid c.args.owner other && (c.args.index == n)) 1 0) c.self.view_is)
    c.add.ensures.adds

-- Without memory it is written as it was.
pub returns-in-Some-clause-kept : goal.returns-in-Some-clause-kept
returns-in-Some-clause-kept c =
    let rows = c.self.inside.rows.entries in
    let there = sym c.row_mut.ensures.value ∙ ap option_copied_mut c.in-Some.is in
    on_err_weaker c.add.result
    (λ kept. (c.row_mut.follows.holds c.add.new.self).0 ∙ set_value_same (same_uid c.args.owner) rows c.add.new.self (there ∙ ap Some (sym kept)) ∙ c.self.view_is)
    c.add.ensures.kept

-- The owner had no row.
pub returns-clause-adds : goal.returns-clause-adds
returns-clause-adds c other n =
    let rows = c.self.inside.rows.entries in
    let none = sym c.row_mut.ensures.value ∙ ap option_copied_mut c.in_default.is in
    written-held (λ k more. k + more) (λ k. omega arith) c.args.owner c.args.index c.new-held.result c.add-2.new.self c.row_mut.follows.lender-at-none.entries c.insert.new.self.entries
    (c.new-held.ensures ∙ sym (none-held c.args.owner rows none) ∙ ap (held_by c.args.owner) (λ i. (sym c.row_mut.follows.holds-at-none i).entries))
    c.in_ok-add.ensures.adds
    c.in_ok-insert.ensures.updates.0
    other n
    ∙ ap (λ all. held_in other n all + cond (same_uid c.args.owner other && (c.args.index == n)) 1 0) (λ i. (c.row_mut.follows.holds-at-none i).entries)
    ∙ ap (λ all. held_in other n all + cond (same_uid c.args.owner other && (c.args.index == n)) 1 0) c.self.view_is
