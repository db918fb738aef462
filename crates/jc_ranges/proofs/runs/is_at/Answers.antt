use Rattle.std.proofs.Common.{◌∙◌, ap, sym, leb}
use Rattle.std.proofs.lemmas.Option.{slice_get-get_or, slice_get_past}
use Rattle.jc_ranges.specs.declared.runs.Run.{Run}
use Rattle.jc_ranges.proofs.Apart.{begins_by, has_place}
use Rattle.jc_ranges.proofs.runs.is_at.Goals as goal

pub returns-in-None : goal.returns-in-None
returns-in-None c =
    ap (begins_by c.args.n) (sym (slice_get_past c.args.runs.now c.args.place c.in-None.ensures.lookup.3))
    ∙ sym (has_place 0 c.args.n c.args.runs.now c.args.place c.requires.apart c.requires.parted.below c.requires.parted.above)

pub returns-in-Some : goal.returns-in-Some
returns-in-Some c =
    ap (λ (t : Run). leb t.first c.args.n) c.in-Some.ensures.lookup.1
    ∙ ap (begins_by c.args.n) (sym (slice_get-get_or c.args.runs.now c.args.place c.in-Some.run'.now c.in-Some.ensures.lookup.3.0))
    ∙ sym (has_place 0 c.args.n c.args.runs.now c.args.place c.requires.apart c.requires.parted.below c.requires.parted.above)
