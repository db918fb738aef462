-- What is left of pods that a plan was to serve.
use Rattle.std.proofs.Common.{◌≡◌, ◌⊎◌, inl, inr, ℕ, ◌+◌, ◌<◌, ◌≤◌, Bool, true, false, not, cond, List, [], ◌∷◌, Option, Some, None, refl, ap, sym, ◌∙◌, subst, arith, true≢false}
use Rattle.std.proofs.lemmas.Bool.{and_parts, not-true}
use Rattle.jc_types.specs.declared.actions.End.{End}
use Rattle.jc_types.specs.declared.objects.KeyNames.{KeyNames as Key}
use Rattle.jc_types.specs.declared.objects.Pod.{Pod}
use Rattle.jc_states.specs.Pods.{is_active, is_marked, is_open}
use Rattle.jc_states.specs.UidLists.{is_in}
use Rattle.jc_retries.specs.Nodes.{pod_end}
use Rattle.jc_plan.specs.declared.plans.Planned.{Planned}
use Rattle.jc_retries.specs.Grants.{frees}
use Rattle.jc_settle.specs.Left.{left_to_end, left_while_open, pod_left}
use Rattle.jc_bearing.specs.Served.{AllServed, IsGone, IsRewritten, IsServed, NonePod, Served}
use Rattle.jc_remaining.specs.Remaining.{all_left}

abbrev one_if : Bool → ℕ
one_if b = cond b 1 0

-- The pod is one that the plan has something to do with: it takes its finalizer, or marks it.
pub data IsWanted (plan : Planned) (pod : Pod) : Type 0 where
  Frees : pod.tracked ≡ true → frees plan pod.uid ≡ true → IsWanted plan pod
  Marks : is_active pod ≡ true → is_in pod.uid plan.marks ≡ true → IsWanted plan pod

-- One of these is it.
abbrev pub IsOneOf : Pod → List Pod → Type 0
IsOneOf pod [] = ⊥
IsOneOf pod (other ∷ pods) = (other ≡ pod) ⊎ IsOneOf pod pods

module _ (most : ℕ) (fates : Key → Option (List End)) (old new : Pod) (r : IsRewritten old new) where
  -- The pod, but for what it has lost and got.
  abbrev with_both : Bool → Bool → ℕ
  with_both tracked marked = one_if tracked + cond (is_open old) (cond marked 1 (left_to_end most old (pod_end fates old) + 1)) 0

  is-now : pod_left most fates new ≡ with_both new.tracked (is_marked new)
  is-now = ap (pod_left most fates) r.rest

  tracked-most : one_if new.tracked ≤ one_if old.tracked
  tracked-most = by old.tracked refl
    where
      by : (b : Bool) → old.tracked ≡ b → one_if new.tracked ≤ one_if b
      by true is = one new.tracked
        where
          one : (b : Bool) → one_if b ≤ 1
          one true = omega arith
          one false = omega arith
      by false is = let none = ap one_if (r.untracked is) in omega (arith, none)

  abbrev open_left : Bool → ℕ
  open_left marked = cond (is_open old) (cond marked 1 (left_to_end most old (pod_end fates old) + 1)) 0

  open-most : open_left (is_marked new) ≤ open_left (is_marked old)
  open-most = by (is_marked old) refl (is_marked new) refl (is_open old)
    where
      by : (was : Bool) → is_marked old ≡ was → (is : Bool) → is_marked new ≡ is → (opened : Bool) → cond opened (cond is 1 (left_to_end most old (pod_end fates old) + 1)) 0 ≤ cond opened (cond was 1 (left_to_end most old (pod_end fates old) + 1)) 0
      by was s is t false = omega arith
      by true s true t true = omega arith
      by true s false t true = absurd (true≢false (sym (r.marked s) ∙ t))
      by false s true t true = omega arith
      by false s false t true = omega arith

  pub rewritten-most : pod_left most fates new ≤ pod_left most fates old
  rewritten-most = let is = is-now in let tracked = tracked-most in let rest = open-most in omega (arith, is, tracked, rest)

  -- It has less to come once it is served.
  pub served-less : (plan : Planned) → IsServed plan new → IsWanted plan old → pod_left most fates new < pod_left most fates old
  served-less plan served (Frees tracked freed) =
      let is = is-now in let rest = open-most in
      let was = ap one_if tracked in
      let now = ap one_if (served.freed (ap (λ (p : Pod). frees plan p.uid) r.rest ∙ freed)) in
      omega (arith, is, rest, was, now)
  served-less plan served (Marks active meant) =
      let is = is-now in let tracked = tracked-most in
      let parts = and_parts (is_open old) (not (is_marked old)) active in
      let marked = served.marked (ap (λ (p : Pod). is_in p.uid plan.marks) r.rest ∙ meant) in
      let now : open_left (is_marked new) ≡ 1 = (λ i. cond (parts.0 i) (cond (marked i) 1 (left_to_end most old (pod_end fates old) + 1)) 0) in
      let was : open_left (is_marked old) ≡ left_to_end most old (pod_end fates old) + 1 =
      (λ i. cond (parts.0 i) (cond (not-true (is_marked old) parts.1 i) 1 (left_to_end most old (pod_end fates old) + 1)) 0) in
      let some = some-left (pod_end fates old) in
      omega (arith, is, tracked, now, was, some)
    where
      some-left : (o : Option End) → 1 ≤ left_to_end most old o
      some-left None = omega arith
      some-left (Some end) = omega arith

module _ (most : ℕ) (fates : Key → Option (List End)) (plan : Planned) where
  -- One that goes had something left.
  gone-less : (pod : Pod) → IsWanted plan pod → 0 < pod_left most fates pod
  gone-less pod (Frees tracked freed) = let was = ap one_if tracked in omega (arith, was)
  gone-less pod (Marks active meant) =
      let opened : pod_left most fates pod ≡ one_if pod.tracked + left_while_open most pod (pod_end fates pod) =
      ap (λ b. one_if pod.tracked + cond b (left_while_open most pod (pod_end fates pod)) 0) (and_parts (is_open pod) (not (is_marked pod)) active).0 in
      let some = by (is_marked pod) in
      omega (arith, opened, some)
    where
      by : (b : Bool) → 1 ≤ cond b 1 (left_to_end most pod (pod_end fates pod) + 1)
      by true = omega arith
      by false = omega arith

  pub all-most : (olds news : List Pod) → AllServed plan olds news → all_left most fates news ≤ all_left most fates olds
  all-most [] [] NonePod = omega arith
  all-most [] (new ∷ news) h = elim h [ ]
  all-most (old ∷ olds) (new ∷ news) (Served _ _ _ _ r served rest) =
      let here = rewritten-most most fates old new r in let more = all-most olds news rest in omega (arith, here, more)
  all-most (old ∷ olds) news (IsGone _ _ _ freed rest) = let more = all-most olds news rest in omega (arith, more)

  pub all-less : (pod : Pod) → IsWanted plan pod → (olds news : List Pod) → IsOneOf pod olds → AllServed plan olds news → all_left most fates news < all_left most fates olds
  all-less pod wanted [] news among h = absurd among
  all-less pod wanted (old ∷ olds) (new ∷ news) among (Served _ _ _ _ r served rest) = by among (λ more. all-less pod wanted olds news more rest)
    where
      by : (old ≡ pod) ⊎ IsOneOf pod olds → (IsOneOf pod olds → all_left most fates news < all_left most fates olds) → all_left most fates (new ∷ news) < all_left most fates (old ∷ olds)
      by (inl is) behind = let here = served-less most fates old new r plan served (subst (IsWanted plan) (sym is) wanted) in let more = all-most olds news rest in omega (arith, here, more)
      by (inr among) behind = let here = rewritten-most most fates old new r in let more = behind among in omega (arith, here, more)
  all-less pod wanted (old ∷ olds) news among (IsGone _ _ _ freed rest) = by among (λ more. all-less pod wanted olds news more rest)
    where
      by : (old ≡ pod) ⊎ IsOneOf pod olds → (IsOneOf pod olds → all_left most fates news < all_left most fates olds) → all_left most fates news < all_left most fates (old ∷ olds)
      by (inl is) behind = let here = gone-less old (subst (IsWanted plan) (sym is) wanted) in let more = all-most olds news rest in omega (arith, here, more)
      by (inr among) behind = let more = behind among in omega (arith, more)
