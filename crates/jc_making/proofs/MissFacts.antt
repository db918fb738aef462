-- New pods end as was to come: what is still to come is as much less.
use Rattle.std.proofs.Common.{◌≡◌, ℕ, zero, suc, ◌+◌, ◌≤◌, false, List, [], ◌∷◌, filter, length, drop, slice_get, Option, Some, None, IfSome, refl, ap, arith}
use Rattle.std.specs.Option.{option_map_or, option_or}
use Rattle.jc_types.specs.declared.actions.End.{End}
use Rattle.jc_types.specs.declared.objects.Pod.{Pod}
use Rattle.jc_history.specs.Nodes.{end_at, last_end}
use Rattle.jc_making.specs.Grants.{AreNew}
use Rattle.jc_making.specs.Making.{fails, will_fail}
use Rattle.jc_making.proofs.Lists.{length-with, one_if}

-- One end more.
step : (ends : List End) (k : ℕ) (last : Option End) → IfSome last (λ end. fails end ≡ false)
    → one_if (option_map_or fails (option_or (slice_get ends k) last) false) + length (filter fails (drop (suc k) ends)) ≤ length (filter fails (drop k ends))
step [] k None h = omega arith
step [] k (Some end) h = let none = ap one_if h in omega (arith, none)
step (end ∷ ends) zero last h = omega (arith, length-with fails end ends)
step (end ∷ ends) (suc k) last h = step ends k last h

pub new-length : (made : ℕ) (indexes : List (Option ℕ)) (pods : List Pod) → AreNew made indexes pods → length pods ≡ length indexes
new-length made [] [] h = refl
new-length made [] (p ∷ pods) h = absurd h
new-length made (index ∷ indexes) [] h = absurd h
new-length made (index ∷ indexes) (p ∷ pods) h = ap suc (new-length (suc made) indexes pods h.1)

pub new-misses : (ends : List End) (last : IfSome (last_end ends) (λ end. fails end ≡ false)) (made : ℕ) (indexes : List (Option ℕ)) (pods : List Pod) → AreNew made indexes pods
    → length (filter (will_fail ends) pods) + length (filter fails (drop (made + length indexes) ends)) ≤ length (filter fails (drop made ends))
new-misses ends last made [] [] h =
    let same : made + 0 ≡ made = omega arith in
    let is = ap (λ n. length (filter fails (drop n ends))) same in
    omega (arith, is)
new-misses ends last made [] (p ∷ pods) h = absurd h
new-misses ends last made (index ∷ indexes) [] h = absurd h
new-misses ends last made (index ∷ indexes) (p ∷ pods) h =
    let same : made + suc (length indexes) ≡ suc made + length indexes = omega arith in
    let is = ap (λ n. length (filter fails (drop n ends))) same in
    let first = step ends made (last_end ends) last in
    let serial = ap (λ n. one_if (option_map_or fails (end_at n ends) false)) h.0.serial_is in
    omega (arith, is, first, serial, length-with (will_fail ends) p pods, new-misses ends last (suc made) indexes pods h.1)
