-- How a pod is to end: what stands in the rows, and the last of the ends.
use Rattle.std.proofs.Common.{◌≡◌, ◌≢◌, ◌-◌, Bool, true, false, List, [], ◌∷◌, length, slice_get, Option, Some, None, IfSome, Result, Ok, Err, OnOk, OnErr, if◌then◌else◌, refl, sym, ap, subst, ◌∙◌, arith}
use Rattle.std.specs.Option.{option_or}
use Rattle.jc_types.specs.declared.actions.End.{End}
use Rattle.jc_types.specs.declared.objects.KeyNames.{KeyNames as Key}
use Rattle.jc_types.specs.Keys.{same_key}
use Rattle.jc_log.specs.Tables.{at, Sets}
use Rattle.jc_history.specs.Nodes.{last_end}
use Rattle.jc_node.specs.Fated.{HaveEnds}

-- A list that is not empty is set among such.
pub have-set : (old new : List (Key × List End)) (k : Key) (ends : List End) → HaveEnds old → ends ≢ [] → Sets same_key old new k (Some ends) → HaveEnds new
have-set old new k ends have some sets other = subst (λ found. IfSome found (λ ends. ends ≢ [])) (sym (sets other)) (by (same_key k other))
  where
    by : (b : Bool) → IfSome (if b then Some ends else at same_key old other) (λ ends. ends ≢ [])
    by true = some
    by false = have other

-- The same after a write that may find no memory.
pub have-put : {X E : Type 0} (old new : List (Key × List End)) (k : Key) (ends : List End) (result : Result X E) → HaveEnds old → ends ≢ []
    → OnOk result (Sets same_key old new k (Some ends)) → OnErr result (new ≡ old) → HaveEnds new
have-put old new k ends (Ok x) have some sets kept = have-set old new k ends have some sets
have-put old new k ends (Err e) have some sets kept = subst HaveEnds (sym kept) have

-- One of the ends is the last of more than it.
last-more : (end other : End) (ends : List End) → option_or (last_end (end ∷ ends)) (Some other) ≡ last_end (end ∷ ends)
last-more end other ends = by (last_end ends)
  where
    by : (last : Option End) → option_or (option_or last (Some end)) (Some other) ≡ option_or last (Some end)
    by None = refl
    by (Some last) = refl

-- The end at the last place of more than it is the last.
last-at : (ends : List End) (end : End) → slice_get (end ∷ ends) (length ends) ≡ last_end (end ∷ ends)
last-at [] end = refl
last-at (other ∷ ends) end = last-at ends other ∙ sym (last-more other end ends)

-- The end at the last place is the last.
pub last-placed : (ends : List End) → slice_get ends (length ends - 1) ≡ last_end ends
last-placed [] = refl
last-placed (end ∷ ends) =
    let at : length (end ∷ ends) - 1 ≡ length ends = omega arith in
    ap (slice_get (end ∷ ends)) at ∙ last-at ends end
