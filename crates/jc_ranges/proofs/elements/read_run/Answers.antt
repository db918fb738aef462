use Rattle.std.proofs.Common.{sym, refl}
use Rattle.std.proofs.lemmas.List.{take_rest}
use Rattle.jc_ranges.proofs.Cuts.{cut_some, cut_none}
use Rattle.jc_ranges.proofs.Named.{names_none, names_pair}
use Rattle.jc_ranges.proofs.elements.read_run.Goals as goal

pub returns-in_err-number-in-None : goal.returns-in_err-number-in-None
returns-in_err-number-in-None c =
    rw c.from_residual.ensures (names_none c.args.element.now (cut_none 45 c.args.element.now (sym c.in-None.ensures)) c.in_err-number-in-None.ensures)

pub returns-in-Some : goal.returns-in-Some
returns-in-Some c =
    names_pair c.args.element.now _ _ c.in-Some.dash c.read_pair.result (cut_some 45 c.args.element.now c.in-Some.dash (sym c.in-Some.ensures)) refl (take_rest c.args.element.now _) c.read_pair.ensures
