use Rattle.std.proofs.Common.{◌∙◌, ap}
use Rattle.jc_words.specs.Values.{moment_said}
use Rattle.jc_words.proofs.Moments.{said}
use Rattle.jc_words.proofs.numbers.read_moment.Goals as goal

pub returns : goal.returns
returns c =
    c.ok.ensures.value ∙ said c.as_bytes.result.now c.parse.result c.parse.ensures.read ∙ ap moment_said c.as_bytes.ensures.value
