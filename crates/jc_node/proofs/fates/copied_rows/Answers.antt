use Rattle.std.proofs.Common.{rules, ◌≡◌, ◌∷◌}
use Rattle.jc_types.specs.Keys.{same_key}
use Rattle.jc_types.proofs.KeyFacts.{same_key-eq, same_key-itself}
use Rattle.jc_cache.proofs.CopyFacts.{row-copied}
use Rattle.jc_node.proofs.fates.copied_rows.Goals as goal

-- The first of the rows that are left is put behind the copies.
pub loop-key-preserved : goal.loop-key-preserved
loop-key-preserved c =
    let key = c.in-Some.key.now in
    let ends = c.in-Some.ends.now in
    let first : c.loop-key.key-iterator ≡ (key, ends) ∷ c.next.new.self = c.in-Some.ensures.steps in
    let same : c.in_ok-copy.field-0 ≡ key = search rules in
    let again : c.in_ok-copy-2.field-0 ≡ ends = search rules in
    row-copied same_key same_key-eq same_key-itself c.args.rows.now.entries c.loop-key.copies.entries c.loop-key.key-iterator c.next.new.self c.put.new.rows.entries key c.in_ok-copy.field-0 ends c.in_ok-copy-2.field-0
    c.iter-key-items.ensures.unique c.loop-key.invariant first same again c.in_ok-put.ensures.puts
