use Rattle.std.proofs.Common.{ap, ◌∙◌}
use Rattle.serde_json.specs.Data.{string}
use Rattle.jc_print.specs.PrintedMembers.{texts_data}
use Rattle.jc_print.specs.Tokens.{data_tokens}
use Rattle.jc_print.proofs.Writing.{adds_same, adds_text, list_of, no_item, one_item}
use Rattle.jc_print.proofs.printed_specs.write_names.Goals as goal

pub loop-name-init : goal.loop-name-init
loop-name-init c = no_item string _

pub loop-name-preserved : goal.loop-name-preserved
loop-name-preserved c =
    one_item string _ _ _ _ _ _ c.loop-name-test.true c.name-item.is
    (adds_text _ _ _ _ _ (c.as_str.ensures.value ∙ c.deref.ensures) c.in_ok-string.ensures) c.loop-name.invariant

pub returns : goal.returns
returns c =
    adds_same _ _ _ _ (ap (λ l. data_tokens (texts_data l)) c.as_slice-name-items.ensures)
    (list_of string _ _ _ _ _ _ _ _ c.loop-name-test.false c.in_ok-begin_array.ensures c.loop-name.invariant
    c.in_ok-end_array.ensures)
