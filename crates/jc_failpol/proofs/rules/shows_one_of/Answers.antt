use Rattle.std.proofs.Common.{ap, sym, ◌∙◌}
use Rattle.jc_failpol.specs.Rules.{shows_one_of}
use Rattle.jc_failpol.proofs.RuleFacts.{shows-none}
use Rattle.jc_failpol.proofs.rules.shows_one_of.Goals as goal

-- Without conditions no pattern finds one.
pub returns-then-is_empty : goal.returns-then-is_empty
returns-then-is_empty c = sym (ap (shows_one_of c.args.patterns.now) (c.is_empty.ensures.0 c.if-is_empty.true) ∙ shows-none c.args.patterns.now)
