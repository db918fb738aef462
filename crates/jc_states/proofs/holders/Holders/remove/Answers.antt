use Rattle.std.proofs.Common.{◌-◌, ◌==◌, ◌&&◌, IsSome, ap, arith, cond, refl, subst, sym, ◌∙◌}
use Rattle.std.specs.Option.{option_copied_mut}
use Rattle.jc_types.specs.Keys.{same_uid}
use Rattle.jc_states.specs.Holders.{held_in}
use Rattle.jc_states.proofs.HolderFacts.{some-held, written-held}
use Rattle.jc_states.proofs.holders.Holders.remove.Goals as goal

-- The row of the owner is written.
pub returns : goal.returns
returns c other n =
    let rows = c.self.inside.rows.entries in
    let there = sym c.row_mut.ensures.value ∙ ap option_copied_mut c.in-Some.is in
    written-held (λ k less. k - less) (λ k. omega arith) c.args.owner c.args.index c.in-Some.held.now c.remove.new.self rows (c.row_mut.follows.lender c.remove.new.self).entries
    (some-held c.args.owner c.in-Some.held.now rows there)
    c.remove.ensures
    (((c.row_mut.follows.holds c.remove.new.self).3 (subst IsSome (sym there) refl)).0)
    other n
    ∙ ap (λ all. held_in other n all - cond (same_uid c.args.owner other && (c.args.index == n)) 1 0) c.self.view_is
