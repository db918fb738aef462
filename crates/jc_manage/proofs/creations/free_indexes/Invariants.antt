use Rattle.std.proofs.Common.{◌≡◌, ◌&&◌, false, get_or, not, filter, map, take, Some}
use Rattle.std.specs.List.{range_with_len}
use Rattle.jc_manage.specs.Creations.{is_done_index}
use Rattle.jc_manage.proofs.creations.free_indexes.Given as goal

-- The indexes so far are the first free ones below this one.
abbrev pub invariant-loop-index : goal.invariant-loop-index
invariant-loop-index l =
    l.indexes ≡ map (λ n. Some n) (take l.most (filter (λ n. not (is_done_index l.counted n) && not (get_or l.kept n false)) (range_with_len 0 l.index)))
