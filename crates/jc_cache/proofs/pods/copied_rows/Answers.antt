use Rattle.std.proofs.Common.{rules, ◌≡◌, ◌∷◌, ◌∙◌}
use Rattle.jc_types.specs.Keys.{same_key}
use Rattle.jc_types.proofs.KeyFacts.{same_key-eq, same_key-itself}
use Rattle.jc_cache.proofs.CopyFacts.{insert_entry-puts, row-copied}
use Rattle.jc_cache.proofs.pods.copied_rows.Goals as goal

-- The first of the rows that are left is put behind the copies.
pub loop-owner-preserved : goal.loop-owner-preserved
loop-owner-preserved c =
    let owner = c.in-Some.owner.now in
    let pods = c.in-Some.pods.now in
    let first : c.loop-owner.owner-iterator ≡ (owner, pods) ∷ c.next.new.self = c.in-Some.ensures.steps in
    let key : c.in_ok-copy.field-0 ≡ owner = search rules in
    let again : c.in_ok-copy-2.field-0 ≡ pods = search rules in
    row-copied same_key same_key-eq same_key-itself c.args.rows.now.entries c.loop-owner.copies.entries c.loop-owner.owner-iterator c.next.new.self c.insert.new.self.entries owner c.in_ok-copy.field-0 pods c.in_ok-copy-2.field-0
    c.iter-owner-items.ensures.unique c.loop-owner.invariant first key again
    (c.in_ok-insert.ensures.entries ∙ insert_entry-puts same_key c.in_ok-copy.field-0 c.in_ok-copy-2.field-0 c.loop-owner.copies.entries)

pub loop-owner-preserved-in_ok-insert : goal.loop-owner-preserved-in_ok-insert
loop-owner-preserved-in_ok-insert c =
    let owner = c.in-Some.owner.now in
    let pods = c.in-Some.pods.now in
    let first : c.loop-owner.owner-iterator ≡ (owner, pods) ∷ c.next.new.self = c.in-Some.ensures.steps in
    let key : c.in_ok-copy.field-0 ≡ owner = search rules in
    let again : c.in_ok-copy-2.field-0 ≡ pods = search rules in
    row-copied same_key same_key-eq same_key-itself c.args.rows.now.entries c.loop-owner.copies.entries c.loop-owner.owner-iterator c.next.new.self c.insert.new.self.entries owner c.in_ok-copy.field-0 pods c.in_ok-copy-2.field-0
    c.iter-owner-items.ensures.unique c.loop-owner.invariant first key again
    (c.in_ok-insert.ensures.entries ∙ insert_entry-puts same_key c.in_ok-copy.field-0 c.in_ok-copy-2.field-0 c.loop-owner.copies.entries)
