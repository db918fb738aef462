use Rattle.std.proofs.Common.{◌∙◌, map, string_bytes}
use Rattle.jc_words.proofs.Reading.{shaped, unshaped}
use Rattle.jc_words.proofs.words.shape_asked.Goals as goal

pub returns-in_err-read_options : goal.returns-in_err-read_options
returns-in_err-read_options c =
    c.from_residual.ensures ∙ unshaped (map string_bytes c.args.words.now) c.in_err-read_options.ensures

pub returns : goal.returns
returns c =
    c.shape_alone.ensures
    ∙ shaped (map string_bytes c.args.words.now) c.in_ok-read_options.field-0 c.in_ok-read_options.ensures
