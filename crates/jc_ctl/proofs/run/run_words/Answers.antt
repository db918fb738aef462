-- The order is that of the words, or there is none.
use Rattle.std.proofs.Common.{refl, sym, ◌∙◌}
use Rattle.std.proofs.KnownBytes.{Keeps-refl}
use Rattle.jc_single.specs.RunEnds.{Refused}
use Rattle.jc_ctl.specs.Done.{ByOne}
use Rattle.jc_ctl.proofs.DoneFacts.{done_as}
use Rattle.jc_ctl.proofs.run.run_words.Goals as goal

pub returns-in-Some : goal.returns-in-Some
returns-in-Some g c = done_as (sym c.read_words.ensures ∙ c.in-Some.is) c.run_asked.ensures

pub returns-in-None : goal.returns-in-None
returns-in-None g c =
    let none = sym c.read_words.ensures ∙ c.in-None.is in
    ByOne (λ order is. absurd (cc (none, is))) (Refused none (Keeps-refl _) (Keeps-refl _) refl)
