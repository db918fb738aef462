-- Pods that are let go are active tracked ones, and none of them is marked at once.
use Rattle.std.proofs.Common.{◌≡◌, ◌≢◌, ℕ, zero, suc, ◌<◌, ◌≤◌, Bool, true, false, cond, not, ◌&&◌, ◌||◌, List, [], ◌∷◌, filter, length, get_or, refl, sym, ap, subst, ◌∙◌, arith, true≢false, ⊎_elim, unwrap_or}
use Rattle.std.specs.List.{All, AllByRecursion as Each, AllPairs, Contains}
use Rattle.std.proofs.lemmas.Bool.{cases_lt, cases_eq, false_from_ne_true}
use Rattle.std.proofs.lemmas.List.Elements.{All-from_recursion, recursion_from_All, All-contains_itself}
use Rattle.jc_types.specs.declared.objects.Job.{Job}
use Rattle.jc_types.specs.declared.objects.Pod.{Pod}
use Rattle.jc_types.specs.declared.syncs.CountIn.{CountIn}
use Rattle.jc_states.specs.Pods.{is_active, is_tracked, is_tracked_active, tracked_active_pods}
use Rattle.jc_states.specs.UidLists.{is_in}
use Rattle.jc_types.proofs.ListFacts.{Each-both, Each-filter, Each-map, Each-passes, Each-weaker}
use Rattle.jc_states.proofs.UidListFacts.{Found, some_in}
use Rattle.jc_manage.specs.Creations.{job_wants}
use Rattle.jc_manage.specs.SeenPods.{IsSeen}
use Rattle.jc_manage.specs.LetGoes.{going, is_let_go, is_needless, is_to_mark, let_goes, marks, seen}

-- A pod of these, active and tracked.
abbrev IsOne : List Pod → Pod → Type 0
IsOne own p = Contains own p × (is_tracked_active p ≡ true)

module _ (own : List Pod) where
  tracked-one : Each (IsOne own) (tracked_active_pods own)
  tracked-one =
      Each-both (Contains own) (λ p. is_tracked_active p ≡ true) (tracked_active_pods own)
      (Each-filter (Contains own) is_tracked_active own (recursion_from_All (Contains own) own (All-contains_itself own)))
      (Each-passes is_tracked_active own)

  -- What holds of each active tracked pod holds of each that goes.
  going-each : (P : Pod → Type 0) (target : Bool) (job : Job) (counted : CountIn) → (target ≡ false → Each P (tracked_active_pods own)) → Each P (going target job own counted)
  going-each P target job counted h = by target job.spec.suspend h
    where
      test : Pod → Bool
      test = is_let_go job.spec.mode (is_needless (unwrap_or job.spec.completions 0) counted) (job_wants job own counted) (tracked_active_pods own)

      by : (t s : Bool) → (t ≡ false → Each P (tracked_active_pods own)) → Each P (cond t [] (cond s (tracked_active_pods own) (filter test (tracked_active_pods own))))
      by true s g = tt
      by false true g = g refl
      by false false g = Each-filter P test (tracked_active_pods own) (g refl)

  pub goes-seen : (target : Bool) (job : Job) (counted : CountIn) → All (λ row. IsSeen own row) (let_goes target job own counted)
  goes-seen target job counted =
      All-from_recursion (λ row. IsSeen own row) (let_goes target job own counted)
      (Each-map seen (λ row. IsSeen own row) (going target job own counted)
      (going-each (λ p. IsSeen own (seen p)) target job counted (λ _. Each-weaker (IsOne own) (λ p. IsSeen own (seen p)) (λ p one. record { pod = p; among = one.0; active = one.1; here = refl }) (tracked_active_pods own) tracked-one)))

  module _ (distinct : AllPairs (λ pod other. pod.uid ≢ other.uid) own) where
    -- A pod of the UID of one of these is that one.
    only : (p : Pod) → Contains own p → Each (λ q. q.uid ≡ p.uid → q ≡ p) own
    only p at = recursion_from_All (λ q. q.uid ≡ p.uid → q ≡ p) own same
      where
        j : ℕ
        j = at.0

        there : (d : Pod) → get_or own j d ≡ p
        there d = get_or_same own j d p at.1 ∙ at.2
          where
            get_or_same : (xs : List Pod) (i : ℕ) (d e : Pod) → i < length xs → get_or xs i d ≡ get_or xs i e
            get_or_same [] i d e l = absurd (omega (arith, l))
            get_or_same (a ∷ xs) zero d e l = refl
            get_or_same (a ∷ xs) (suc i) d e l = get_or_same xs i d e (omega (arith, l))

        same : All (λ q. q.uid ≡ p.uid → q ≡ p) own
        same k d l = ⊎_elim (λ e. λ _. subst (λ i. get_or own i d ≡ p) e (there d)) apart (cases_eq j k)
          where
            apart : j ≢ k → (get_or own k d).uid ≡ p.uid → get_or own k d ≡ p
            apart ne u =
                ⊎_elim
                (λ less. absurd (distinct j k d less l (ap (λ (q : Pod). q.uid) (there d) ∙ sym u)))
                (λ more. absurd (distinct k j d (less_from k j more ne) at.1 (u ∙ sym (ap (λ (q : Pod). q.uid) (there d)))))
                (cases_lt j k)
              where
                less_from : (a b : ℕ) → a ≤ b → b ≢ a → a < b
                less_from a b h n = ⊎_elim (λ lt. lt) (λ ge. absurd (n (omega (arith, h, ge)))) (cases_lt a b)

    tracked_not_marked : (a t : Bool) → (a && t) ≡ true → (a && (false || not t)) ≡ true → ⊥
    tracked_not_marked true true h g = true≢false (sym g)
    tracked_not_marked true false h g = true≢false (sym h)
    tracked_not_marked false t h g = true≢false (sym h)

    unmarked : (p : Pod) → IsOne own p → is_in p.uid (marks false own) ≡ false
    unmarked p one = false_from_ne_true (is_in p.uid (marks false own)) (λ h. clash (some_in (λ q. q.uid ≡ p.uid → q ≡ p) (is_to_mark false) p.uid own (only p one.0) h))
      where
        clash : Found (λ q. q.uid ≡ p.uid → q ≡ p) (is_to_mark false) p.uid → ⊥
        clash found = tracked_not_marked (is_active p) (is_tracked p) one.1 (subst (λ q. is_to_mark false q ≡ true) (found.has found.uid) found.passes)

    pub goes-apart : (target : Bool) (job : Job) (counted : CountIn) → All (λ row. is_in row.0 (marks target own) ≡ false) (let_goes target job own counted)
    goes-apart target job counted =
        All-from_recursion (λ row. is_in row.0 (marks target own) ≡ false) (let_goes target job own counted)
        (Each-map seen (λ row. is_in row.0 (marks target own) ≡ false) (going target job own counted)
        (going-each (λ p. is_in p.uid (marks target own) ≡ false) target job counted
        (λ no. subst (λ t. Each (λ p. is_in p.uid (marks t own) ≡ false) (tracked_active_pods own)) (sym no)
        (Each-weaker (IsOne own) (λ p. is_in p.uid (marks false own) ≡ false) unmarked (tracked_active_pods own) tracked-one))))
