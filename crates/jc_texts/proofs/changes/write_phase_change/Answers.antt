use Rattle.std.proofs.Common.{Some, ap, map, refl}
use Rattle.serde_json.specs.Data.{string}
use Rattle.jc_texts.specs.ChangeTexts.{container_data, phase_change_data, pod_condition_data}
use Rattle.jc_print.specs.PrintedMembers.{list_data}
use Rattle.jc_texts.proofs.ChangeMembers.{in_phase_change}
use Rattle.jc_print.proofs.Writing.{keyed, more, no_more, object_of}
use Rattle.jc_texts.proofs.changes.write_phase_change.Goals as goal

pub returns : goal.returns
unfolding phase_change_data
returns c =
    object_of (in_phase_change c.args.change.now) _ _ _ _ _ _ refl c.in_ok-begin_object.ensures
    (more _ _ _ _ _ _ _ c.in_ok-write_text.ensures (ap (λ s. Some (string s)) c.phase_word.ensures.word)
    (more _ _ _ _ _ _ _ (keyed _ _ _ _ _ _ c.in_ok-key-2.ensures c.in_ok-write_containers.ensures)
    (ap (λ xs. Some (list_data (map container_data xs))) c.as_slice-2.ensures)
    (more _ _ _ _ _ _ _ (keyed _ _ _ _ _ _ c.in_ok-key.ensures c.in_ok-write_conditions.ensures)
    (ap (λ xs. Some (list_data (map pod_condition_data xs))) c.as_slice.ensures) (no_more _))))
    c.in_ok-end_object.ensures
