-- What loops over all pods that a sync sees find of the Job's own.
use Rattle.std.proofs.Common.{◌≡◌, ◌≤◌, ◌+◌, ℕ, Bool, not, ◌&&◌, List, filter, length, take, refl, ap, sym, ◌∙◌, arith, length-take}
use Rattle.std.specs.List.{count_by}
use Rattle.std.proofs.lemmas.List.{take_all}
use Rattle.std.proofs.lemmas.List.Filters.{length-filter_both}
use Rattle.std.proofs.lemmas.List.Sums.{length-filter, count_by-le-length}
use Rattle.jc_types.specs.declared.numbers.Uid.{Uid}
use Rattle.jc_types.specs.declared.objects.Job.{Job}
use Rattle.jc_types.specs.declared.objects.Pod.{Pod}
use Rattle.jc_states.specs.Bases.{is_own, own_pods}
use Rattle.jc_states.specs.UidLists.{uids_of}
use Rattle.jc_types.proofs.ListFacts.{filter_filter}

module _ {X : Type 0} where
  -- A filter of a front part keeps at most all.
  pub filter-shorter : (test : X → Bool) (i : ℕ) (xs : List X) → length (filter test (take i xs)) ≤ length xs
  filter-shorter test i xs =
      omega (arith, length-filter test (take i xs), count_by-le-length test (take i xs), length-take i xs)

  -- A filter keeps at most all.
  pub filter-least : (test : X → Bool) (xs : List X) → length (filter test xs) ≤ length xs
  filter-least test xs = omega (arith, length-filter test xs, count_by-le-length test xs)

  -- Those that a filter keeps and those that it does not are all.
  pub kept_and_others : (test : X → Bool) (xs : List X) → length (filter test xs) + count_by (λ x. not (test x)) xs ≡ length xs
  kept_and_others test xs =
      let both = length-filter_both test (λ x. not (test x)) (λ x. refl) xs in
      omega (arith, both, length-filter (λ x. not (test x)) xs)

-- The UIDs of the own pods that pass, found among all.
pub own_uids : (test : Pod → Bool) (job : Job) (pods : List Pod) (i : ℕ) (uids : List Uid) → length pods ≤ i → uids ≡ uids_of (filter (λ pod. is_own job pod && test pod) (take i pods)) → uids ≡ uids_of (filter test (own_pods job pods))
own_uids test job pods i uids past are =
    are
    ∙ ap (λ ps. uids_of (filter (λ pod. is_own job pod && test pod) ps)) (take_all i pods past)
    ∙ ap uids_of (sym (filter_filter test (is_own job) pods))
