use Rattle.std.proofs.Common.{rules, tests}
use Rattle.std.proofs.lemmas.Fn.{filter_same}
use Rattle.jc_account.specs.Judgements.{is_fit}
use Rattle.jc_account.proofs.judgements.retain_within.Goals as goal

pub returns : goal.returns
returns c = filter_same _ (λ row. is_fit c.args.mode c.args.first row.outcome row.uid) _ (λ x b f' r. search (rules, tests)) _ _ c.retain.ensures.filtered
