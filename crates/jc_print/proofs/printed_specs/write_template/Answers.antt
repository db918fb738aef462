use Rattle.std.proofs.Common.{Some, ap, refl}
use Rattle.serde_json.specs.Data.{string}
use Rattle.jc_print.specs.PrintedSpecs.{template_data, with_template}
use Rattle.jc_print.proofs.SpecMembers.{in_template}
use Rattle.jc_print.proofs.Writing.{keyed, more, no_more, object_of}
use Rattle.jc_print.proofs.printed_specs.write_template.Goals as goal

pub returns : goal.returns
unfolding template_data with_template
returns c =
    object_of (in_template c.args.template.now) _ _ _ _ _ _ refl c.in_ok-begin_object.ensures
    (more _ _ _ _ _ _ _ c.in_ok-write_text.ensures (ap (λ s. Some (string s)) c.restart_word.ensures)
    (more _ _ _ _ _ _ _ (keyed _ _ _ _ _ _ c.in_ok-key-2.ensures c.in_ok-write_names-2.ensures) refl
    (more _ _ _ _ _ _ _ (keyed _ _ _ _ _ _ c.in_ok-key.ensures c.in_ok-write_names.ensures) refl (no_more _))))
    c.in_ok-end_object.ensures
