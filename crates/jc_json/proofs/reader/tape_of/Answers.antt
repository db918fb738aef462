-- What is no document spells nothing.
use Rattle.std.proofs.Common.{Err, ap, ◌∙◌}
use Rattle.jc_json.proofs.Reading.{no_document}
use Rattle.jc_json.proofs.reader.tape_of.Goals as goal

pub returns-in-Err-Invalid-clause-err : goal.returns-in-Err-Invalid-clause-err
returns-in-Err-Invalid-clause-err c = λ _. no_document c.args.text.now (c.parse.ensures.invalid (c.in-Err-Invalid.is ∙ ap Err c.in-Err-Invalid.field-0-is))
