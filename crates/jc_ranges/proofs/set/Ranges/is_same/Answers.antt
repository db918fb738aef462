use Rattle.std.proofs.Common.{◌∙◌, ap, sym}
use Rattle.std.specs.List.{flat_map}
use Rattle.jc_ranges.specs.Texts.{numbers}
use Rattle.jc_ranges.proofs.Apart.{same_members}
use Rattle.jc_ranges.proofs.set.Ranges.is_same.Goals as goal

pub returns : goal.returns
returns c = (
  λ t. sym c.self.view_is ∙ ap (flat_map numbers) (sym c.as_slice.ensures ∙ c.same_runs.ensures.0 t ∙ c.as_slice-2.ensures) ∙ c.other.view_is,
  λ e. c.same_runs.ensures.1 (c.as_slice.ensures ∙ same_members c.self.inside.runs c.other.inside.runs c.self.invariant.apart c.other.invariant.apart (c.self.view_is ∙ e ∙ sym c.other.view_is) ∙ sym c.as_slice-2.ensures),
)
