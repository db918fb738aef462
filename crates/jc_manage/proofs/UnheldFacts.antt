-- Where all active pods are tracked and no others keep their indexes, the holders tell which indexes are kept; and
-- indexes that are not free may be skipped.
use Rattle.std.proofs.Common.{◌≡◌, ℕ, zero, suc, ◌+◌, ◌-◌, ◌<◌, ◌≤◌, ◌==◌, nat_le, nat_lt, Bool, true, false, cond, not, ◌&&◌, ◌||◌, List, [], ◌∷◌, ◌++◌, map, filter, length, take, Option, Some, None, refl, sym, ap, ◌∙◌, arith}
use Rattle.std.specs.List.{list_any, range_with_len}
use Rattle.std.specs.Option.{option_map_or}
use Rattle.std.proofs.lemmas.Bool.{eq-eqb, leb-false, leb-true, ne_eqb}
use Rattle.std.proofs.lemmas.List.{append-nil}
use Rattle.jc_types.specs.declared.objects.Pod.{Pod}
use Rattle.jc_types.specs.declared.specifications.Replacement.{Replacement}
use Rattle.jc_types.specs.declared.specifications.Replacement.TheVariants.{FailedOnly}
use Rattle.jc_types.proofs.ListFacts.{Each-weaker, filter_same}
use Rattle.jc_states.specs.Holders.{has_index_in}
use Rattle.jc_states.specs.Indexes.{has_index}
use Rattle.jc_states.specs.Pods.{active_pods, ending_pods, is_active, is_ending, is_tracked, tracked_active_pods}
use Rattle.jc_states.proofs.TallyFacts.{some-pass}
use Rattle.jc_manage.specs.Creations.{holds, keepers}
use Rattle.jc_manage.proofs.Sequences.{filter-range_more}
use Rattle.jc_states.proofs.PodListFacts.{each-fails}
use Rattle.jc_manage.proofs.SpareFacts.{length-split}

-- Where as many pass both tests as pass the first, it is the same ones.
same-passing : {X : Type 0} (f g : X → Bool) (xs : List X) → length (filter (λ x. f x && not (g x)) xs) ≡ 0 → filter f xs ≡ filter (λ x. f x && g x) xs
same-passing f g [] h = refl
same-passing {X} f g (x ∷ xs) h = by (f x) (g x) (same-passing f g xs) h
  where
    by : (a b : Bool) → (length (filter (λ y. f y && not (g y)) xs) ≡ 0 → filter f xs ≡ filter (λ y. f y && g y) xs)
        → length (cond (a && not b) (x ∷ filter (λ y. f y && not (g y)) xs) (filter (λ y. f y && not (g y)) xs)) ≡ 0
        → cond a (x ∷ filter f xs) (filter f xs) ≡ cond (a && b) (x ∷ filter (λ y. f y && g y) xs) (filter (λ y. f y && g y) xs)
    by true true ih e = ap (λ ys. x ∷ ys) (ih e)
    by true false ih e = absurd (omega (arith, e))
    by false b ih e = ih e

-- Where as many pods are active and tracked as are active, all active ones are tracked.
all-tracked : (own : List Pod) → length (active_pods own) ≡ length (tracked_active_pods own) → active_pods own ≡ tracked_active_pods own
all-tracked own h = same-passing is_active is_tracked own (omega (arith, length-split is_active is_tracked own, h))

-- Where no pod is ending, only active ones keep their indexes.
pub keepers-active : (own : List Pod) → length (ending_pods own) ≡ 0 → keepers FailedOnly own ≡ active_pods own
keepers-active own none =
    filter_same (λ pod. is_active pod || is_ending pod) is_active own
    (Each-weaker (λ pod. is_ending pod ≡ false) (λ pod. (is_active pod || is_ending pod) ≡ is_active pod) (λ pod h. ap (λ b. is_active pod || b) h ∙ by (is_active pod)) own
    (each-fails is_ending own (sym (some-pass is_ending own) ∙ ap (λ n. nat_lt 0 n) none)))
  where
    by : (b : Bool) → (b || false) ≡ b
    by true = refl
    by false = refl

-- An index between n and n is n.
between-one : (n m : ℕ) → (nat_le n m && nat_le m n) ≡ (m == n)
between-one n m = by (nat_le n m) refl (nat_le m n) refl
  where
    by : (a : Bool) → nat_le n m ≡ a → (b : Bool) → nat_le m n ≡ b → (a && b) ≡ (m == n)
    by true l true g = let low = leb-true n m l in let high = leb-true m n g in sym (eq-eqb m n (omega (arith, low, high)))
    by true l false g = let high = leb-false m n g in sym (ne_eqb m n (λ e. omega (arith, high, e)))
    by false l b g = let low = leb-false n m l in sym (ne_eqb m n (λ e. omega (arith, low, e)))

-- The holders tell which indexes are kept.
pub kept-held : (replacement : Replacement) (own : List Pod) → length (active_pods own) ≡ length (tracked_active_pods own) → keepers replacement own ≡ active_pods own
    → (n : ℕ) → holds (keepers replacement own) n ≡ list_any (has_index_in n n) (tracked_active_pods own)
kept-held replacement own tracked active n =
    ap (list_any (has_index n)) (active ∙ all-tracked own tracked) ∙ (λ i. list_any (λ (pod : Pod). at pod.index i) (tracked_active_pods own))
  where
    at : (index : Option ℕ) → option_map_or (λ m. m == n) index false ≡ option_map_or (λ m. nat_le n m && nat_le m n) index false
    at None = refl
    at (Some m) = sym (between-one n m)

-- What passes below a number passes below a greater one, where nothing between them passes.
filter-skip : (test : ℕ → Bool) (a k : ℕ) → ((n : ℕ) → a ≤ n → n < a + k → test n ≡ false) → filter test (range_with_len 0 (a + k)) ≡ filter test (range_with_len 0 a)
filter-skip test a zero none = let same : a + 0 ≡ a = omega arith in ap (λ n. filter test (range_with_len 0 n)) same
filter-skip test a (suc k) none =
    let more : a + suc k ≡ a + k + 1 = omega arith in
    ap (λ n. filter test (range_with_len 0 n)) more ∙ filter-range_more test (a + k)
    ∙ ap (λ b. filter test (range_with_len 0 (a + k)) ++ cond b ((a + k) ∷ []) []) (none (a + k) (omega arith) (omega arith))
    ∙ append-nil (filter test (range_with_len 0 (a + k))) ∙ filter-skip test a k (λ n low high. none n low (omega (arith, high)))

-- So the first that pass are the same.
pub found-skip : (test : ℕ → Bool) (most a b : ℕ) (found : List (Option ℕ)) → a ≤ b → ((n : ℕ) → a ≤ n → n < b → test n ≡ false)
    → found ≡ map (λ n. Some n) (take most (filter test (range_with_len 0 a))) → found ≡ map (λ n. Some n) (take most (filter test (range_with_len 0 b)))
found-skip test most a b found le none is =
    let whole : a + (b - a) ≡ b = omega (arith, le) in
    is ∙ ap (λ ns. map (λ n. Some n) (take most ns)) (sym (filter-skip test a (b - a) (λ n low high. none n low (omega (arith, le, high)))) ∙ ap (λ n. filter test (range_with_len 0 n)) whole)

-- No new pod may have an index that is done.
pub settled-not_free : (settled held : Bool) → settled ≡ true → (not settled && not held) ≡ false
settled-not_free settled held h = ap (λ b. not b && not held) h

-- Nor one that is taken.
pub held-not_free : (settled held : Bool) → held ≡ true → (not settled && not held) ≡ false
held-not_free true held h = refl
held-not_free false held h = ap not h
