use Rattle.std.proofs.Common.{Some, ap, map, refl}
use Rattle.serde_json.specs.Data.{number, string}
use Rattle.serde_json.specs.Find.{of_integer}
use Rattle.jc_print.specs.PrintedMembers.{list_data}
use Rattle.jc_print.specs.PrintedSpecs.{exit_codes_data}
use Rattle.jc_print.proofs.SpecMembers.{in_exit_codes}
use Rattle.jc_print.proofs.Writing.{keyed, more, no_more, object_of}
use Rattle.jc_print.proofs.printed_specs.write_exit_codes.Goals as goal

pub returns : goal.returns
unfolding exit_codes_data
returns c =
    object_of (in_exit_codes c.args.container.now c.args.operator c.args.values.now) _ _ _ _ _ _ refl
    c.in_ok-begin_object.ensures
    (more _ _ _ _ _ _ _ (keyed _ _ _ _ _ _ c.in_ok-key.ensures c.in_ok-write_codes.ensures)
    (ap (λ zs. Some (list_data (map (λ z. number (of_integer z)) zs))) c.as_slice.ensures)
    (more _ _ _ _ _ _ _ c.in_ok-write_text.ensures (ap (λ s. Some (string s)) c.operator_word.ensures)
    (more _ _ _ _ _ _ _ c.in_ok-write_container.ensures refl (no_more _))))
    c.in_ok-end_object.ensures
