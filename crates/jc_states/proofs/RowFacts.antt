-- The first entry of a map, where its key is the one that is asked for.
use Rattle.std.proofs.Common.{◌≡◌, Bool, true, cond, List, [], ◌∷◌, slice_get, Some, is_some, unwrap_or, refl, sym, ap, subst, ◌∙◌, true≢false}
use Rattle.std.specs.Cmp.{IsEquivalence}
use Rattle.std.specs.List.{IsDistinct}
use Rattle.std.specs.Map.{lookup, values_of}
use Rattle.std_collections.proofs.Entries.{keys_set_value_at, length-set_value_at}
use Rattle.std_collections.proofs.HashLookup.{IsFirst, lookup-IsFirst, set_value-IsFirst, Updated-set}
use Rattle.indexmap.specs.IndexMap.{IndexMap, IsUnique, WritesThrough, with_value_at}

module _ {K X : Type 0} (test : K → Bool) where
  -- It is the first that passes the test.
  first-passes : (rows : List (K × X)) (k : K) (x : X) → slice_get rows 0 ≡ Some (k, x) → test k ≡ true → IsFirst test rows 0
  first-passes [] k x at passes = absurd (true≢false (sym (ap is_some at)))
  first-passes (e ∷ es) k x at passes = ap (λ found. test (unwrap_or found e).0) at ∙ passes

  -- Its value is what is looked up.
  pub first-found : (rows : List (K × X)) (k : K) (x : X) → slice_get rows 0 ≡ Some (k, x) → test k ≡ true → lookup test rows ≡ Some x
  first-found [] k x at passes = absurd (true≢false (sym (ap is_some at)))
  first-found (e ∷ es) k x at passes =
      ap (λ b. cond b (Some e.1) (lookup test es)) (first-passes (e ∷ es) k x at passes) ∙ ap (λ found. Some (unwrap_or found e).1) at

  -- The first of the values is that too.
  pub first-value : (rows : List (K × X)) (k : K) (x : X) → slice_get rows 0 ≡ Some (k, x) → test k ≡ true → slice_get (values_of rows) 0 ≡ lookup test rows
  first-value rows k x at passes = sym (lookup-IsFirst test rows 0 (first-passes rows k x at passes))

-- A write to it is a write to what the key stands for.
pub first-written : {K X S : Type 0} (eq : K → K → Bool) → IsEquivalence eq → (rows : IndexMap K X S) (key k : K) (x w : X) → IsUnique eq rows → slice_get rows.entries 0 ≡ Some (k, x) → eq key k ≡ true
    → WritesThrough eq (eq key) rows w (with_value_at rows 0 w)
first-written eq laws rows key k x w unique at passes =
    let first = first-passes (eq key) rows.entries k x at passes in (
      set_value-IsFirst (eq key) rows.entries 0 w first,
      keys_set_value_at rows.entries 0 w,
      length-set_value_at rows.entries 0 w,
      (λ _. Updated-set eq laws (eq key) (laws.congr key) rows.entries 0 w first),
      subst (IsDistinct eq) (sym (keys_set_value_at rows.entries 0 w)) unique,
      refl,
      refl,
    )
