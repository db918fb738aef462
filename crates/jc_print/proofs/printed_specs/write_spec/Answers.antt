use Rattle.std.proofs.Common.{Some, ap, refl}
use Rattle.serde_json.specs.Data.{object, string}
use Rattle.jc_print.specs.PrintedSpecs.{spec_data, with_counts, with_index_limits, with_limits, with_policies}
use Rattle.jc_print.specs.Tokens.{data_tokens}
use Rattle.jc_print.proofs.InOrder.{same_members}
use Rattle.jc_print.proofs.SpecMembers.{in_spec, put_in_spec}
use Rattle.jc_print.proofs.Writing.{adds_same, keyed, more, no_more, object_of}
use Rattle.jc_print.proofs.printed_specs.write_spec.Goals as goal

pub returns : goal.returns
unfolding spec_data with_policies with_counts with_index_limits with_limits
returns c =
    let s = c.args.spec.now in
    adds_same _ _ _ _ (ap (λ ms. data_tokens (object ms)) (same_members (in_spec s) (put_in_spec s) refl refl refl))
    (object_of (in_spec s) _ _ _ _ _ _ refl c.in_ok-begin_object.ensures
    (more _ _ _ _ _ _ _ (keyed _ _ _ _ _ _ c.in_ok-key.ensures c.in_ok-write_template.ensures) refl
    (more _ _ _ _ _ _ _ c.in_ok-write_truth.ensures refl
    (more _ _ _ _ _ _ _ c.in_ok-write_given_success.ensures refl
    (more _ _ _ _ _ _ _ c.in_ok-write_text-2.ensures
    (ap (λ w. Some (string w)) c.replacement_word-replacement.ensures)
    (more _ _ _ _ _ _ _ c.in_ok-write_given_failure.ensures refl
    (more _ _ _ _ _ _ _ c.in_ok-write_number-2.ensures refl
    (more _ _ _ _ _ _ _ c.in_ok-write_given_number-4.ensures refl
    (more _ _ _ _ _ _ _ c.in_ok-write_given_number-3.ensures refl
    (more _ _ _ _ _ _ _ c.in_ok-write_text.ensures (ap (λ w. Some (string w)) c.mode_word.ensures)
    (more _ _ _ _ _ _ _ c.in_ok-write_given_number-2.ensures refl
    (more _ _ _ _ _ _ _ c.in_ok-write_number.ensures refl
    (more _ _ _ _ _ _ _ c.in_ok-write_given_number.ensures refl (no_more _)))))))))))))
    c.in_ok-end_object.ensures)
