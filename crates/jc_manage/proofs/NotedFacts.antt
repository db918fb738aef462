-- Where a Job's end is not decided, the pods that are marked at once are among those at which a sync has to look.
use Rattle.std.proofs.Common.{◌≡◌, ◌+◌, ◌≤◌, Bool, true, false, not, cond, ◌&&◌, ◌||◌, List, [], ◌∷◌, filter, length, refl, ap, ◌∙◌, arith, true≢false}
use Rattle.std.proofs.lemmas.Bool.{and_parts}
use Rattle.jc_types.specs.declared.numbers.Uid.{Uid}
use Rattle.jc_types.specs.declared.objects.Job.{Job}
use Rattle.jc_types.specs.declared.objects.Pod.{Pod}
use Rattle.jc_types.proofs.ListFacts.{filter_within}
use Rattle.jc_states.specs.Bases.{own_pods}
use Rattle.jc_states.specs.Noted.{needs_look}
use Rattle.jc_states.specs.Pods.{is_active, is_tracked, is_tracked_active}
use Rattle.jc_states.specs.UidLists.{uids_of}
use Rattle.jc_states.proofs.AtOddsFacts.{noted-odds, odds-active, own-part}
use Rattle.jc_manage.specs.LetGoes.{is_to_mark, marks}

-- A pod that is to be marked is active and not tracked.
mark-noted : (owner : Uid) (uids more : List Uid) (pod : Pod) → is_to_mark false pod ≡ true → needs_look owner uids more pod ≡ true
mark-noted owner uids more pod h =
    let parts = and_parts (is_active pod) (not (is_tracked pod)) h in
    noted-odds owner uids more pod (odds-active pod parts.0 parts.1)

pub marks-noted : (target : Bool) → target ≡ false → (job : Job) (pods some : List Pod) (uids more : List Uid) → some ≡ filter (needs_look job.uid uids more) pods
    → marks target (own_pods job some) ≡ marks target (own_pods job pods)
marks-noted true h job pods some uids more are = absurd (true≢false h)
marks-noted false h job pods some uids more are =
    ap (λ ps. marks false (own_pods job ps)) are
    ∙ ap (marks false) (own-part job (needs_look job.uid uids more) pods)
    ∙ ap uids_of (filter_within (is_to_mark false) (needs_look job.uid uids more) (mark-noted job.uid uids more) (own_pods job pods))

-- The active pods are those with the finalizer and those that are marked.
active-parts : (own : List Pod) → length (filter is_active own) ≡ length (filter is_tracked_active own) + length (filter (is_to_mark false) own)
active-parts [] = refl
active-parts (pod ∷ own) = by (is_active pod) (is_tracked pod) (active-parts own)
  where
    by : (active tracked : Bool)
        → length (filter is_active own) ≡ length (filter is_tracked_active own) + length (filter (is_to_mark false) own)
        → length (cond active (pod ∷ filter is_active own) (filter is_active own))
        ≡ length (cond (active && tracked) (pod ∷ filter is_tracked_active own) (filter is_tracked_active own))
        + length (cond (active && (false || not tracked)) (pod ∷ filter (is_to_mark false) own) (filter (is_to_mark false) own))
    by true true rest = omega (arith, rest)
    by true false rest = omega (arith, rest)
    by false tracked rest = rest

-- Where no more are active than have the finalizer, none is marked.
pub marks-none : (own : List Pod) → length (filter is_active own) ≤ length (filter is_tracked_active own) → marks false own ≡ []
marks-none own few = ap uids_of (by (filter (is_to_mark false) own) (omega (arith, active-parts own, few)))
  where
    by : (some : List Pod) → length some ≡ 0 → some ≡ []
    by [] h = refl
    by (pod ∷ rest) h = absurd (omega (arith, h))
