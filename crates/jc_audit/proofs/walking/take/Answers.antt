use Rattle.std.proofs.Common.{◌∙◌, ap, is_some, sym, true≢false}
use Rattle.jc_audit.proofs.TakeFacts.{none_is_read}
use Rattle.jc_audit.proofs.walking.take.Goals as goal

-- Of bytes of which nothing is read no event that is taken has the line.
pub returns-in_default-clause-none : goal.returns-in_default-clause-none
returns-in_default-clause-none c = λ none.
    none_is_read c.args.machine.now c.args.rest.now c.requires.shape c.clock_fits.ensures
    (λ read proper begins. true≢false (sym (ap is_some (sym c.in_default.is ∙ c.in_ok-read.ensures.only read proper begins))))
