use Rattle.std.proofs.Common.{Some, ap, refl, ◌∙◌}
use Rattle.serde_json.specs.Data.{string}
use Rattle.jc_texts.specs.ChangeTexts.{container_data, with_container, with_exit_member}
use Rattle.jc_texts.proofs.ChangeMembers.{in_container}
use Rattle.jc_print.proofs.Writing.{more, no_more, object_of}
use Rattle.jc_texts.proofs.changes.write_container.Goals as goal

pub returns : goal.returns
unfolding container_data with_container with_exit_member
returns c =
    object_of (in_container c.args.change.now) _ _ _ _ _ _ refl c.in_ok-begin_object.ensures
    (more _ _ _ _ _ _ _ c.in_ok-write_given_number.ensures refl
    (more _ _ _ _ _ _ _ c.in_ok-write_text.ensures (ap (λ s. Some (string s)) (c.as_str.ensures.value ∙ c.deref.ensures))
    (more _ _ _ _ _ _ _ c.in_ok-write_given_exit.ensures refl (no_more _))))
    c.in_ok-end_object.ensures
