use Rattle.std.proofs.Common.{Some, ap, codes}
use Rattle.serde_json.specs.Data.{string}
use Rattle.jc_print.specs.PrintedSpecs.{failure_rule_data}
use Rattle.jc_print.specs.Tokens.{given_tokens}
use Rattle.jc_print.proofs.Requirements.{requirement_behind}
use Rattle.jc_print.proofs.Writing.{adds_same, object_around}
use Rattle.jc_print.proofs.printed_specs.write_failure_rule.Goals as goal

pub returns : goal.returns
unfolding failure_rule_data
returns c =
    object_around _ _ _ _ _ _ _ c.in_ok-begin_object.ensures
    (requirement_behind c.args.rule.now.requirement _ _ _ _
    (adds_same _ _ _ _ (ap (λ s. given_tokens (codes "action") (Some (string s))) c.action_word.ensures)
    c.in_ok-write_text.ensures)
    c.in_ok-write_requirement.ensures)
    c.in_ok-end_object.ensures
