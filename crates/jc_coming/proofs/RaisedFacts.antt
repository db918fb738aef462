-- Failures by index that no pod raises are the same the second time.
use Rattle.std.proofs.Common.{◌≡◌, ℕ, ◌+◌, ◌==◌, Bool, true, false, cond, ◌||◌, List, [], ◌∷◌, map, Option, Some, refl, sym, ap, ◌∙◌, arith, true≢false, eq-eqb, eqb-true}
use Rattle.std.specs.List.{AllByRecursion as Each, list_any}
use Rattle.std.specs.Option.{option_map_or}
use Rattle.std.proofs.lemmas.Bool.{or_left, or_right}
use Rattle.jc_types.specs.declared.objects.Pod.{Pod}
use Rattle.jc_types.specs.declared.policies.FailurePolicy.{FailurePolicy}
use Rattle.jc_types.specs.declared.statuses.IndexCount.{IndexCount}
use Rattle.jc_types.proofs.ListFacts.{Each-weaker}
use Rattle.jc_plan.specs.Failures.{count_at, fails_at, failures_of, newly_failed, raised, raised_at}

-- One of the numbers is n.
abbrev has : ℕ → List ℕ → Bool
has n ns = list_any (λ m. m == n) ns

pub none-failed : (own : List Pod) → newly_failed own [] ≡ []
none-failed [] = refl
none-failed (pod ∷ own) = none-failed own

-- Each is among them.
each-among : {A : Type 0} (same : A → A → Bool) → ((x : A) → same x x ≡ true) → (xs ys : List A) → ((x : A) → list_any (λ y. same y x) xs ≡ true → list_any (λ y. same y x) ys ≡ true)
    → Each (λ x. list_any (λ y. same y x) ys ≡ true) xs
each-among same itself [] ys h = tt
each-among same itself (x ∷ xs) ys h =
    (h x (or_left (same x x) (list_any (λ y. same y x) xs) (itself x)), each-among same itself xs ys (λ z e. h z (or_right (same x z) (list_any (λ y. same y z) xs) e)))

same-mapped : (g h : ℕ → IndexCount) (ns : List ℕ) → Each (λ n. g n ≡ h n) ns → map g ns ≡ map h ns
same-mapped g h [] e = refl
same-mapped g h (n ∷ ns) e = (λ i. e.0 i ∷ same-mapped g h ns e.1 i)

module _ (failure : Option FailurePolicy) (counts : List IndexCount) where
  abbrev index_of : IndexCount → ℕ
  index_of count = count.index

  abbrev raise : ℕ → IndexCount
  raise n = raised_at failure counts [] n

  abbrev once : List IndexCount
  once = raised failure counts []

  same-indexes : (ns : List ℕ) → map index_of (map raise ns) ≡ ns
  same-indexes [] = refl
  same-indexes (n ∷ ns) = ap (λ ms. n ∷ ms) (same-indexes ns)

  found : (ns : List ℕ) (n : ℕ) → has n ns ≡ true → count_at n (map raise ns) ≡ Some (raise n)
  found [] n h = absurd (true≢false (sym h))
  found (m ∷ ns) n h = by (m == n) refl h (found ns n)
    where
      by : (b : Bool) → (m == n) ≡ b → (b || has n ns) ≡ true → (has n ns ≡ true → count_at n (map raise ns) ≡ Some (raise n)) → cond b (Some (raise m)) (count_at n (map raise ns)) ≡ Some (raise n)
      by true e h more = ap (λ k. Some (raise k)) (eqb-true m n e)
      by false e h more = more h

  again : (n : ℕ) → count_at n once ≡ Some (raise n) → raised_at failure once [] n ≡ raise n
  again n e = λ i. record { index = n; failures = failures-are i; fail = fail-is i }
    where
      failures-are : failures_of n once + 0 ≡ failures_of n counts + 0
      failures-are = let is = ap (λ o. option_map_or (λ (count : IndexCount). count.failures) o 0) e in omega (arith, is)

      or-none : (b : Bool) → ((b || false) || false) ≡ (b || false)
      or-none true = refl
      or-none false = refl

      fail-is : (fails_at n once || false) ≡ (fails_at n counts || false)
      fail-is = ap (λ o. option_map_or (λ (count : IndexCount). count.fail) o false || false) e ∙ or-none (fails_at n counts)

  pub raised-again : raised failure once [] ≡ once
  raised-again =
      ap (map (raised_at failure once [])) (same-indexes (map index_of counts))
      ∙ same-mapped (raised_at failure once []) raise (map index_of counts)
      (Each-weaker (λ n. has n (map index_of counts) ≡ true) (λ n. raised_at failure once [] n ≡ raise n) (λ n h. again n (found (map index_of counts) n h)) (map index_of counts)
      (each-among (λ m n. m == n) (λ n. eq-eqb n n refl) (map index_of counts) (map index_of counts) (λ n h. h)))
