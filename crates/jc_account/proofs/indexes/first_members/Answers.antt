-- The next member is above those before it.
use Rattle.std.proofs.Common.{◌≤◌, ◌∙◌, arith}
use Rattle.jc_ranges.specs.declared.bounds.TheConstants.{GREATEST_INDEX}
use Rattle.jc_account.proofs.IndexFacts.{each-at, next-member}
use Rattle.jc_account.proofs.indexes.first_members.Goals as goal

pub insert-requires : goal.insert-requires
insert-requires c =
    omega (arith, c.member_at.ensures, each-at (λ x. x ≤ GREATEST_INDEX) c.args.set.now c.loop-place.place 0 c.requires.set.small (omega (arith, c.requires.within)))

pub loop-place-preserved : goal.loop-place-preserved
loop-place-preserved c =
    c.in_ok-insert.ensures.members
    ∙ next-member c.args.set.now c.loop-place.members c.loop-place.place c.member_at.result c.requires.set (omega (arith, c.requires.within)) c.member_at.ensures c.loop-place.invariant
