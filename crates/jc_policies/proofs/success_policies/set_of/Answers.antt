use Rattle.std.proofs.Common.{◌∙◌, ap, Err}
use Rattle.jc_policies.specs.IndexSets.{set_of}
use Rattle.jc_policies.proofs.IndexSetFacts.{breaks_set}
use Rattle.jc_policies.proofs.success_policies.set_of.Goals as goal

pub returns-in-Err-BadRanges : goal.returns-in-Err-BadRanges
returns-in-Err-BadRanges c =
    breaks_set _ _ (c.parse.ensures.broken _ (c.in-Err-BadRanges.is ∙ ap Err c.in-Err-BadRanges.field-0-is))
    ∙ ap set_of c.as_bytes.ensures.value
