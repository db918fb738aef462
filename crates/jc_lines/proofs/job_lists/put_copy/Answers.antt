use Rattle.std.proofs.Common.{ap, ◌∙◌}
use Rattle.std.specs.BTreeMap.{insert_entry}
use Rattle.jc_queue.specs.Delayed.{key_order}
use Rattle.jc_types.specs.declared.objects.KeyNames.{KeyNames as Key}
use Rattle.jc_lines.proofs.job_lists.put_copy.Goals as goal

-- The copies are equal to what was copied.
pub returns : goal.returns
returns c =
    let rows = c.args.rows.now.entries in
    c.in_ok-insert.ensures.entries
    ∙ ap (λ (key : Key). insert_entry key_order rows key c.in_ok-copy-2.field-0) c.in_ok-copy.ensures
    ∙ ap (insert_entry key_order rows c.args.key.now) c.in_ok-copy-2.ensures
