use Rattle.std.proofs.Common.{rules, ◌≡◌, ◌∷◌, refl, ◌∙◌}
use Rattle.jc_types.specs.Keys.{same_uid}
use Rattle.jc_types.proofs.KeyFacts.{same_uid-eq, same_uid-itself}
use Rattle.jc_cache.proofs.CopyFacts.{insert_entry-puts, row-copied}
use Rattle.jc_cache.proofs.changes.copied.Goals as goal

-- The first of the changes that are left is put behind the copies.
pub loop-uid-preserved : goal.loop-uid-preserved
loop-uid-preserved c =
    let uid = c.in-Some.uid.now in
    let change = c.in-Some.change.now in
    let first : c.loop-uid.uid-iterator ≡ (uid, change) ∷ c.next.new.self = c.in-Some.ensures.steps in
    let again : c.in_ok-copy.field-0 ≡ change = search rules in
    row-copied same_uid same_uid-eq same_uid-itself c.args.changes.now.entries c.loop-uid.copies.entries c.loop-uid.uid-iterator c.next.new.self c.insert.new.self.entries uid uid change c.in_ok-copy.field-0
    c.iter-uid-items.ensures.unique c.loop-uid.invariant first refl again
    (c.in_ok-insert.ensures.entries ∙ insert_entry-puts same_uid uid c.in_ok-copy.field-0 c.loop-uid.copies.entries)

pub loop-uid-preserved-in_ok-insert : goal.loop-uid-preserved-in_ok-insert
loop-uid-preserved-in_ok-insert c =
    let uid = c.in-Some.uid.now in
    let change = c.in-Some.change.now in
    let first : c.loop-uid.uid-iterator ≡ (uid, change) ∷ c.next.new.self = c.in-Some.ensures.steps in
    let again : c.in_ok-copy.field-0 ≡ change = search rules in
    row-copied same_uid same_uid-eq same_uid-itself c.args.changes.now.entries c.loop-uid.copies.entries c.loop-uid.uid-iterator c.next.new.self c.insert.new.self.entries uid uid change c.in_ok-copy.field-0
    c.iter-uid-items.ensures.unique c.loop-uid.invariant first refl again
    (c.in_ok-insert.ensures.entries ∙ insert_entry-puts same_uid uid c.in_ok-copy.field-0 c.loop-uid.copies.entries)

pub loop-uid-preserved-in_ok-insert-2 : goal.loop-uid-preserved-in_ok-insert-2
loop-uid-preserved-in_ok-insert-2 c =
    let uid = c.in-Some.uid.now in
    let change = c.in-Some.change.now in
    let first : c.loop-uid.uid-iterator ≡ (uid, change) ∷ c.next.new.self = c.in-Some.ensures.steps in
    let again : c.in_ok-copy.field-0 ≡ change = search rules in
    row-copied same_uid same_uid-eq same_uid-itself c.args.changes.now.entries c.loop-uid.copies.entries c.loop-uid.uid-iterator c.next.new.self c.insert.new.self.entries uid uid change c.in_ok-copy.field-0
    c.iter-uid-items.ensures.unique c.loop-uid.invariant first refl again
    (c.in_ok-insert.ensures.entries ∙ insert_entry-puts same_uid uid c.in_ok-copy.field-0 c.loop-uid.copies.entries)
