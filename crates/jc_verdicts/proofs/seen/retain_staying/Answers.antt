use Rattle.std.proofs.Common.{rules, tests}
use Rattle.std.proofs.lemmas.Fn.{filter_same}
use Rattle.jc_verdicts.specs.Verdicts.{stays}
use Rattle.jc_verdicts.proofs.seen.retain_staying.Goals as goal

pub returns : goal.returns
returns c = filter_same _ (stays c.args.known.now.entries) _ (λ x b f' r. search (rules, tests)) _ _ c.retain.ensures.filtered
