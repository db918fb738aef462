-- The completion index of a pod of an Indexed Job (KEP-2214).
--     has_index n pod                 the pod has the index n
--     is_completed completed pod      its index is one of the completed ones
--     HasSmallIndex pod               its index, if it has one, is at most 99,999
use Rattle.std.specs.Prelude.{ℕ, ◌≤◌, Bool, false, ◌==◌, List, IfSome}
use Rattle.std.specs.Option.{option_map_or}
use Rattle.jc_ranges.specs.declared.bounds.TheConstants.{GREATEST_INDEX}
use Rattle.jc_ranges.specs.Sets.{has}
use Rattle.jc_types.specs.declared.objects.Pod.{Pod}

-- The pod has this index.
abbrev pub has_index : ℕ → Pod → Bool
has_index n pod = option_map_or (λ index. index == n) pod.index false

-- The pod's index is one of the completed ones.
abbrev pub is_completed : List ℕ → Pod → Bool
is_completed completed pod = option_map_or (λ index. has index completed) pod.index false

-- The index of the pod, where it has one, is one that a set of indexes can hold.
abbrev pub HasSmallIndex : Pod → Type 0
HasSmallIndex pod = IfSome pod.index (λ index. index ≤ GREATEST_INDEX)
