-- The pods that a sync has to release: those of a list of UIDs, as the sync saw them.
use Rattle.std.proofs.Common.{◌≡◌, true, ◌&&◌, List, find, Some, sym, ap, ◌∙◌}
use Rattle.std.specs.List.{AllByRecursion as Each}
use Rattle.std.proofs.lemmas.Bool.{and_from}
use Rattle.std.proofs.lemmas.Option.{same_Some}
use Rattle.jc_types.specs.declared.numbers.Uid.{Uid}
use Rattle.jc_types.specs.declared.objects.Job.{Job}
use Rattle.jc_types.specs.declared.objects.Pod.{Pod}
use Rattle.jc_states.specs.Bases.{is_own, own_pods}
use Rattle.jc_types.specs.Keys.{same_uid}
use Rattle.jc_states.specs.PodLists.{IsRising}
use Rattle.jc_states.specs.UidLists.{is_in}
use Rattle.jc_types.proofs.KeyFacts.{same_uid-itself}
use Rattle.jc_types.proofs.ListFacts.{Each-both, Each-filter, Each-passes, any_filter}
use Rattle.jc_states.proofs.PodListFacts.{pod_among, rises-found}
use Rattle.jc_states.proofs.UidListFacts.{Found, some_in}
use Rattle.jc_account.specs.Accounts.{counted_in}
use Rattle.jc_account.specs.Judged.{is_to_release}
use Rattle.jc_account.proofs.AccountFacts.{release-member}
use Rattle.jc_account.proofs.ListedFacts.{among_passing}
use Rattle.jc_ledger.proofs.OwnFacts.{found_any}

-- A pod that is among those to release is the Job's, and is to be released.
pub record IsDue (job : Job) (pods : List Pod) (seen : Pod) : Type 0 where
  pub own : is_own job seen ≡ true
  pub ends : is_to_release job (own_pods job pods) seen ≡ true

-- So is one whose UID is among theirs, as the sync saw it.
pub due_from : (job : Job) (pods : List Pod) (seen : Pod) → IsRising pods → find (λ (p : Pod). same_uid p.uid seen.uid) pods ≡ Some seen
    → is_in seen.uid (counted_in job pods).releases ≡ true → IsDue job pods seen
due_from job pods seen rises found due =
    let own = own_pods job pods in
    let One = λ (p : Pod). pod_among p.uid pods ≡ Some p in
    let Own = λ (p : Pod). is_own job p ≡ true in
    let all : Each (λ p. One p × Own p) own = Each-both One Own own (Each-filter One (is_own job) pods (rises-found 0 pods rises)) (Each-passes (is_own job) pods) in
    let one : Found (λ p. One p × Own p) (is_to_release job own) seen.uid =
    some_in (λ p. One p × Own p) (is_to_release job own) seen.uid own all (among_passing seen.uid (is_to_release job own) own ∙ sym (release-member seen.uid job pods) ∙ due) in
    let same : one.pod ≡ seen = same_Some one.pod seen (sym one.has.0 ∙ ap (λ (u : Uid). pod_among u pods) one.uid ∙ found) in
    record { own = ap (is_own job) (sym same) ∙ one.has.1; ends = ap (is_to_release job own) (sym same) ∙ one.passes }

-- And conversely.
pub due_in : (job : Job) (pods : List Pod) (seen : Pod) → find (λ (p : Pod). same_uid p.uid seen.uid) pods ≡ Some seen
    → is_own job seen ≡ true → is_to_release job (own_pods job pods) seen ≡ true → is_in seen.uid (counted_in job pods).releases ≡ true
due_in job pods seen found own ends =
    release-member seen.uid job pods
    ∙ any_filter (λ p. is_to_release job (own_pods job pods) p && same_uid p.uid seen.uid) (is_own job) pods
    ∙ found_any (λ p. same_uid p.uid seen.uid) (λ p. is_own job p && (is_to_release job (own_pods job pods) p && same_uid p.uid seen.uid)) pods seen found
    (and_from (is_own job seen) (is_to_release job (own_pods job pods) seen && same_uid seen.uid seen.uid) own
    (and_from (is_to_release job (own_pods job pods) seen) (same_uid seen.uid seen.uid) ends (same_uid-itself seen.uid)))
