-- At which pods a sync has to look: those that are at odds and those that are listed, for lists of pods of which just
-- these are kept.
use Rattle.std.proofs.Common.{◌≡◌, ◌+◌, ◌<◌, ◌^◌, Bool, true, false, cond, not, ◌||◌, List, filter, length, IsSome, sym, refl, subst, arith, true≢false}
use Rattle.std.specs.List.{All}
use Rattle.std.proofs.lemmas.Bool.{or_left, or_right}
use Rattle.std.proofs.lemmas.List.Elements.{All-filter, All-weaker}
use Rattle.jc_types.specs.declared.numbers.Uid.{Uid}
use Rattle.jc_types.specs.declared.objects.Job.{Job}
use Rattle.jc_types.specs.declared.objects.Pod.{Pod}
use Rattle.jc_types.specs.declared.statuses.IndexCount.{IndexCount}
use Rattle.jc_types.specs.Keys.{same_uid}
use Rattle.jc_types.proofs.ListFacts.{filter_swap}
use Rattle.jc_states.specs.Bases.{CountsByIndex, TotalsFit, FailuresFit, is_own, own_pods}
use Rattle.jc_states.specs.Noted.{is_at_odds, needs_look}
use Rattle.jc_states.specs.Pods.{is_active, is_tracked}
use Rattle.jc_states.specs.UidLists.{is_in}
use Rattle.jc_states.proofs.PodListFacts.{length-filter-le}

-- ---- which pods are to look at

module _ (owner : Uid) (uids more : List Uid) (pod : Pod) where
  -- A pod at odds is to look at.
  pub noted-odds : is_at_odds pod ≡ true → needs_look owner uids more pod ≡ true
  noted-odds h = or_left (is_at_odds pod) (not (same_uid pod.owner_uid owner) || (is_in pod.uid uids || is_in pod.uid more)) h

  -- A pod of another owner is to look at.
  pub noted-other : not (same_uid pod.owner_uid owner) ≡ true → needs_look owner uids more pod ≡ true
  noted-other h =
      or_right (is_at_odds pod) (not (same_uid pod.owner_uid owner) || (is_in pod.uid uids || is_in pod.uid more))
      (or_left (not (same_uid pod.owner_uid owner)) (is_in pod.uid uids || is_in pod.uid more) h)

  -- A pod is to look at whose UID is in one of the lists.
  pub noted-listed : (is_in pod.uid uids || is_in pod.uid more) ≡ true → needs_look owner uids more pod ≡ true
  noted-listed h =
      or_right (is_at_odds pod) (not (same_uid pod.owner_uid owner) || (is_in pod.uid uids || is_in pod.uid more))
      (or_right (not (same_uid pod.owner_uid owner)) (is_in pod.uid uids || is_in pod.uid more) h)

  -- So is one whose UID is in the first list.
  pub noted-in : is_in pod.uid uids ≡ true → needs_look owner uids more pod ≡ true
  noted-in h = noted-listed (or_left (is_in pod.uid uids) (is_in pod.uid more) h)

-- A tracked pod that is not active is at odds.
pub odds-tracked : (pod : Pod) → is_tracked pod ≡ true → is_active pod ≡ false → is_at_odds pod ≡ true
odds-tracked pod t a = by (is_tracked pod) t (is_active pod) a
  where
    by : (tracked : Bool) → tracked ≡ true → (active : Bool) → active ≡ false → cond tracked (not active) active ≡ true
    by true e false f = refl
    by true e true f = sym f
    by false e active f = absurd (true≢false (sym e))

-- An active pod that is not tracked is at odds.
pub odds-active : (pod : Pod) → is_active pod ≡ true → not (is_tracked pod) ≡ true → is_at_odds pod ≡ true
odds-active pod a t = by (is_tracked pod) t (is_active pod) a
  where
    by : (tracked : Bool) → not tracked ≡ true → (active : Bool) → active ≡ true → cond tracked (not active) active ≡ true
    by false e active f = f
    by true e active f = absurd (true≢false (sym e))

-- ---- what a part of the pods has of all

module _ (job : Job) (test : Pod → Bool) (pods : List Pod) where
  -- Of a part of the pods the Job's own are that part of its own.
  pub own-part : own_pods job (filter test pods) ≡ filter test (own_pods job pods)
  own-part = filter_swap (is_own job) test pods

  -- A part counts by index as all do.
  pub tidy-part : CountsByIndex job pods → CountsByIndex job (filter test pods)
  tidy-part tidy at =
      let all = tidy at in
      (all.0, subst (All (λ pod. IsSome pod.index)) (sym own-part) (All-filter test (λ pod. IsSome pod.index) (own_pods job pods) all.1))

  -- The totals fit with fewer pods.
  pub totals-part : TotalsFit job pods → TotalsFit job (filter test pods)
  totals-part fit =
      let few = length-filter-le test pods in
      (omega (arith, few, fit.0), omega (arith, few, fit.1))

  -- So do the failures of each index.
  pub failures-part : FailuresFit job pods → FailuresFit job (filter test pods)
  failures-part fit =
      let few = length-filter-le test pods in
      record {
        ascending = fit.ascending;
        fit =
            All-weaker (λ (count : IndexCount). count.failures + length pods < 2 ^ 64) (λ (count : IndexCount). count.failures + length (filter test pods) < 2 ^ 64)
            (λ count h. omega (arith, few, h)) job.status.index_failures fit.fit;
      }
