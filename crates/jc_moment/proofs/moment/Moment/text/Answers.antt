use Rattle.std.proofs.Common.{◌∙◌, ap, ◌++◌}
use Rattle.std.proofs.lemmas.Result.{IfOk-weaker}
use Rattle.std.specs.Prelude.{codes}
use Rattle.jiff.specs.Names.{iso_datetime_text}
use Rattle.jc_moment.proofs.Calendar.{text_is}
use Rattle.jc_moment.proofs.Spelled.{spelled}
use Rattle.jc_moment.proofs.moment.Moment.text.Goals as goal

pub returns-clause-spelled : goal.returns-clause-spelled
returns-clause-spelled c =
    IfOk-weaker c.format.result _ _
    (λ t e. record {
      civil = c.civil.result;
      at = c.civil.ensures.at;
      whole = c.civil.ensures.whole;
      spelled = e ∙ ap (λ civil. iso_datetime_text civil ++ codes "Z") c.from_plain-civil.ensures;
    })
    c.format.ensures.ok

pub returns-clause-text : goal.returns-clause-text
returns-clause-text c = IfOk-weaker c.format.result _ _ (λ t e. text_is _ _ e) (returns-clause-spelled c)

pub returns-clause-twenty : goal.returns-clause-twenty
returns-clause-twenty c = IfOk-weaker c.format.result _ _ (λ t e. (spelled _ _ e).length_is) (returns-clause-spelled c)
