-- Sums over the keys of Jobs, and over pods.
use Rattle.std.proofs.Common.{◌≡◌, ℕ, ◌+◌, ◌≤◌, Bool, true, false, ◌||◌, cond, List, [], ◌∷◌, ◌++◌, map, Option, Some, refl, sym, ◌∙◌, subst, arith, true≢false}
use Rattle.std.specs.List.{list_any}
use Rattle.std.specs.Map.{lookup}
use Rattle.std.proofs.lemmas.Option.{none-some as none_some}
use Rattle.jc_types.proofs.KeyFacts.{same_key-eq}
use Rattle.jc_types.specs.declared.objects.KeyNames.{KeyNames as Key}
use Rattle.jc_types.specs.Keys.{same_key}
use Rattle.jc_types.specs.declared.actions.End.{End}
use Rattle.jc_types.specs.declared.objects.Entry.{Entry}
use Rattle.jc_types.specs.declared.objects.Job.{Job}
use Rattle.jc_types.specs.declared.objects.Pod.{Pod}
use Rattle.jc_log.specs.Log.{jobs_in}
use Rattle.jc_log.proofs.ObjectFacts.{jobs_in-at}
use Rattle.jc_settle.specs.Left.{pod_left}
use Rattle.jc_remaining.specs.Remaining.{HasEach, all_creations, all_left, creations_under}

module _ (bound : ℕ) (fates : Key → Option (List End)) where
  pub left-append : (xs ys : List Pod) → all_left bound fates (xs ++ ys) ≡ all_left bound fates xs + all_left bound fates ys
  left-append [] ys = omega arith
  left-append (pod ∷ xs) ys = let rest = left-append xs ys in omega (arith, rest)

  -- One of them is another one, or none.
  pub left-among : (front back : List Pod) (pod : Pod) → all_left bound fates (front ++ pod ∷ back) ≡ all_left bound fates front + pod_left bound fates pod + all_left bound fates back
  left-among front back pod = let all = left-append front (pod ∷ back) in omega (arith, all)

module _ (fates : Key → Option (List End)) where
  module _ (log new : List Entry) (most : (k : Key) → creations_under fates new k ≤ creations_under fates log k) where
    pub creations-most : (keys : List Key) → all_creations fates new keys ≤ all_creations fates log keys
    creations-most [] = omega arith
    creations-most (k ∷ keys) = let here = most k in let rest = creations-most keys in omega (arith, here, rest)

    -- By so many fewer for one of the keys.
    pub creations-fewer : (k : Key) (n : ℕ) → creations_under fates new k + n ≤ creations_under fates log k → (keys : List Key) → list_any (same_key k) keys ≡ true
        → all_creations fates new keys + n ≤ all_creations fates log keys
    creations-fewer k n fewer [] among = absurd (true≢false (sym among))
    creations-fewer k n fewer (q ∷ keys) among = by (same_key k q) refl among (creations-fewer k n fewer keys)
      where
        by : (b : Bool) → same_key k q ≡ b → (b || list_any (same_key k) keys) ≡ true
            → (list_any (same_key k) keys ≡ true → all_creations fates new keys + n ≤ all_creations fates log keys)
            → all_creations fates new (q ∷ keys) + n ≤ all_creations fates log (q ∷ keys)
        by true same h more =
            let here = subst (λ x. creations_under fates new x + n ≤ creations_under fates log x) (same_key-eq k q same) fewer in
            let rest = creations-most keys in omega (arith, here, rest)
        by false same h more = let rest = more h in let here = most q in omega (arith, here, rest)

-- The keys of all Jobs that are there.
abbrev pub keys_there : List Entry → List Key
keys_there log = map (λ row. row.0) (jobs_in log)

pub has-each : (log : List Entry) → HasEach (keys_there log) log
has-each log key job there = among (jobs_in log) (jobs_in-at key log ∙ there)
  where
    among : (rows : List (Key × Job)) → lookup (same_key key) rows ≡ Some job → list_any (same_key key) (map (λ row. row.0) rows) ≡ true
    among [] h = absurd (none_some job h)
    among (row ∷ rows) h = by (same_key key row.0) h (among rows)
      where
        by : (b : Bool) → cond b (Some row.1) (lookup (same_key key) rows) ≡ Some job → (lookup (same_key key) rows ≡ Some job → list_any (same_key key) (map (λ (row : Key × Job). row.0) rows) ≡ true)
            → (b || list_any (same_key key) (map (λ (row : Key × Job). row.0) rows)) ≡ true
        by true g more = refl
        by false g more = more g
