use Rattle.std.proofs.Common.{rules, ◌≡◌, ◌∷◌}
use Rattle.jc_types.specs.Keys.{same_key}
use Rattle.jc_types.proofs.KeyFacts.{same_key-eq, same_key-itself}
use Rattle.jc_cache.proofs.CopyFacts.{row-copied}
use Rattle.jc_cache.proofs.jobs.copied_rows.Goals as goal

-- The first of the rows that are left is put behind the copies.
pub loop-key-preserved : goal.loop-key-preserved
loop-key-preserved c =
    let row = c.in-Some.field-0.now in
    let first : c.loop-key.key-iterator ≡ row ∷ c.next.new.self = c.in-Some.ensures.steps in
    let key : c.in_ok-copy.field-0 ≡ row.0 = search rules in
    let job : c.in_ok-copy-2.field-0 ≡ row.1 = search rules in
    row-copied same_key same_key-eq same_key-itself c.args.rows.now c.loop-key.copies c.loop-key.key-iterator c.next.new.self c.put.new.self row.0 c.in_ok-copy.field-0 row.1 c.in_ok-copy-2.field-0
    c.rows-key-items.ensures.once c.loop-key.invariant first key job c.in_ok-put.ensures.puts
