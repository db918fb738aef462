use Rattle.std.proofs.Common.{Some, ap, sym, ◌∙◌}
use Rattle.std.specs.Option.{option_copied_mut}
use Rattle.std.proofs.lemmas.Map.Steps.{set_value_same}
use Rattle.jc_types.specs.Keys.{same_key}
use Rattle.jc_cache.proofs.pods.apply_row.Goals as goal

-- The pods under the key are as before, and so are all rows.
pub returns : goal.returns
returns c =
    (c.get_mut.follows.holds c.apply_pending.new.self).0
    ∙ set_value_same (same_key c.args.key.now) c.args.rows.now.entries c.apply_pending.new.self
    (sym c.get_mut.ensures.value ∙ ap option_copied_mut c.in-Some.is ∙ ap Some (sym c.apply_pending.ensures))
