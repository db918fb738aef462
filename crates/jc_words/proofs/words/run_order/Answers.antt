use Rattle.std.proofs.Common.{◌∙◌, map, string_bytes}
use Rattle.jc_words.proofs.Reading.{ordered, unordered}
use Rattle.jc_words.proofs.words.run_order.Goals as goal

pub returns-in_err-read_options : goal.returns-in_err-read_options
returns-in_err-read_options c =
    c.from_residual.ensures ∙ unordered (map string_bytes c.args.words.now) c.in_err-read_options.ensures

pub returns : goal.returns
returns c =
    c.said_order.ensures
    ∙ ordered (map string_bytes c.args.words.now) c.in_ok-read_options.field-0 c.in_ok-read_options.ensures
