use Rattle.std.proofs.Common.{ap, ◌∙◌}
use Rattle.serde_json.specs.Data.{string}
use Rattle.jc_ranges.specs.Texts.{ranges_text}
use Rattle.jc_print.proofs.Writing.{given_said, not_given}
use Rattle.jc_print.proofs.printed_specs.write_indexes.Goals as goal

pub returns-in-None : goal.returns-in-None
returns-in-None c = not_given (λ set. string (ranges_text set)) _ _ _ c.in-None.is

pub returns-in_ok-text-in-Some : goal.returns-in_ok-text-in-Some
returns-in_ok-text-in-Some c =
    given_said _ (λ set. string (ranges_text set)) _ _ _ _ _ _ c.in-Some.is
    (ap string (c.as_str.ensures.value ∙ c.in_ok-text-in-Some.ensures)) c.write_text.ensures
