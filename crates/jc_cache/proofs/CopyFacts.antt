-- The rows of a table, while they are copied one by one.
use Rattle.std.proofs.Common.{◌≡◌, Bool, cond, true, false, List, [], ◌∷◌, ◌++◌, refl, sym, ap, subst, ◌∙◌}
use Rattle.std.specs.List.{IsDistinct}
use Rattle.std.specs.Map.{keys_of}
use Rattle.std.proofs.lemmas.List.{append_assoc}
use Rattle.indexmap.specs.IndexMap.{insert_entry}
use Rattle.jc_log.specs.Tables.{puts}
use Rattle.jc_log.proofs.TableFacts.{puts-last}

module _ {K V : Type 0} (same : K → K → Bool) where
  -- A map is written as a table is.
  pub insert_entry-puts : (k : K) (v : V) (rows : List (K × V)) → insert_entry same rows k v ≡ puts same rows k v
  insert_entry-puts k v [] = refl
  insert_entry-puts k v (row ∷ rows) = by (same k row.0) (insert_entry-puts k v rows)
    where
      by : (b : Bool) → insert_entry same rows k v ≡ puts same rows k v → cond b ((row.0, v) ∷ rows) (row ∷ insert_entry same rows k v) ≡ cond b ((row.0, v) ∷ rows) (row ∷ puts same rows k v)
      by true ih = refl
      by false ih = ap (λ rest. row ∷ rest) ih

  module _ (eq : (a b : K) → same a b ≡ true → a ≡ b) (itself : (a : K) → same a a ≡ true) where
    -- The next row goes behind those that are copied; with what is left they are all rows again.
    pub row-copied : (rows before left next new : List (K × V)) (k key : K) (v value : V) → IsDistinct same (keys_of rows) → before ++ left ≡ rows → left ≡ (k, v) ∷ next
        → key ≡ k → value ≡ v → new ≡ puts same before key value → new ++ next ≡ rows
    row-copied rows before left next new k key v value once are first is_key is_value put =
        let whole : before ++ (k, v) ∷ next ≡ rows = ap (λ l. before ++ l) (sym first) ∙ are in
        ap (λ some. some ++ next)
        (put ∙ ap (λ key. puts same before key value) is_key ∙ ap (puts same before k) is_value
        ∙ puts-last same eq itself k v before next (subst (λ all. IsDistinct same (keys_of all)) (sym whole) once))
        ∙ append_assoc before ((k, v) ∷ []) next
        ∙ whole
