use Rattle.std.proofs.Common.{◌∙◌}
use Rattle.jc_reading.proofs.VerbFacts.{no_verb, verb_text}
use Rattle.jc_reading.proofs.reading.read_verb.Goals as goal

pub returns-in-Ok : goal.returns-in-Ok
returns-in-Ok c =
    c.verb_named.ensures ∙ verb_text c.args.word.now c.in-Ok.text.now c.in-Ok.ensures.cases.0 c.in-Ok.ensures.cases.1

pub returns-in-Err : goal.returns-in-Err
returns-in-Err c = no_verb c.args.word.now c.in-Err.ensures.cases.0
