use Rattle.std.proofs.Common.{◌<◌, ◌≤◌, ◌∙◌, ap, sym, subst, arith, length}
use Rattle.std.specs.List.{flat_map}
use Rattle.jc_ranges.specs.Sets.{count_below}
use Rattle.jc_ranges.specs.Texts.{numbers, StandApart}
use Rattle.jc_ranges.specs.declared.bounds.TheConstants.{GREATEST_INDEX}
use Rattle.jc_ranges.proofs.Order.{each_weaker}
use Rattle.jc_ranges.proofs.Apart.{apart_set}
use Rattle.jc_ranges.proofs.Counts.{count_all}
use Rattle.jc_ranges.proofs.set.Ranges.from_runs.Goals as goal

pub invariant_of-result : goal.invariant_of-result
invariant_of-result c =
    let members = flat_map numbers c.args.runs.items in
    let small = each_weaker (λ x. x ≤ GREATEST_INDEX) (λ x. x < 100000) (λ x h. omega arith) members (apart_set c.args.runs.items c.requires).small in
    record {
      apart = subst (StandApart 0) (sym c.in_ok-runs.ensures) c.requires;
      counted = c.count_under-count.ensures ∙ ap (λ z. count_below 100000 (flat_map numbers z)) c.as_slice.ensures.value ∙ sym (count_all 100000 members small)
          ∙ ap (λ z. length (flat_map numbers z)) (sym c.in_ok-runs.ensures);
    }
