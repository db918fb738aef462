use Rattle.std.proofs.Common.{not, slice_get, ap, ◌∙◌, sym, false}
use Rattle.std.specs.Ordering.{is_lt}
use Rattle.std.specs.Option.{option_map_or}
use Rattle.std.proofs.lemmas.List.Sorted.{ranks_by}
use Rattle.jc_manage.proofs.Sorting.{going-is}
use Rattle.jc_manage.proofs.ranks.least_of_greatest.Goals as goal

pub returns : goal.returns
returns g c =
    λ x. going-is _ (ranks_by g.met.T.Ord.total (λ y. y)) c.args.items.items _ c.sort_unstable.ensures.sorted c.sort_unstable.ensures.permutation c.args.staying x
    ∙ ap (λ o. option_map_or (λ least. not (is_lt (g.T.Ord.cmp x least))) o false) (sym (c.item_at.ensures ∙ ap (λ ys. slice_get ys c.args.staying) c.as_slice.ensures.value))
