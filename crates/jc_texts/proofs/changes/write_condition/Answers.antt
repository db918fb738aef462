use Rattle.std.proofs.Common.{Some, ap, refl}
use Rattle.serde_json.specs.Data.{string}
use Rattle.jc_texts.specs.ChangeTexts.{pod_condition_data}
use Rattle.jc_texts.proofs.ChangeMembers.{in_condition}
use Rattle.jc_print.proofs.Writing.{more, no_more, object_of}
use Rattle.jc_texts.proofs.changes.write_condition.Goals as goal

pub returns : goal.returns
unfolding pod_condition_data
returns c =
    object_of (in_condition c.args.condition.now) _ _ _ _ _ _ refl c.in_ok-begin_object.ensures
    (more _ _ _ _ _ _ _ c.in_ok-write_text-2.ensures (ap (λ s. Some (string s)) c.as_str.ensures)
    (more _ _ _ _ _ _ _ c.in_ok-write_text.ensures (ap (λ s. Some (string s)) c.truth_word.ensures) (no_more _)))
    c.in_ok-end_object.ensures
