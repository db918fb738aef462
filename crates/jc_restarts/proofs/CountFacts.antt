-- No container has restarted more often than the deeds let it.
use Rattle.std.proofs.Common.{◌≡◌, ℕ, zero, suc, ◌+◌, ◌≤◌, ◌==◌, nat_lt, Bool, true, false, cond, not, List, [], ◌∷◌, Option, Some, None, IfSome, refl, ap, ◌∙◌, arith}
use Rattle.std.specs.List.{AllByRecursion as Each}
use Rattle.jc_types.proofs.ListFacts.{Each-filter, Each-weaker, find_each}
use Rattle.jc_types.specs.Keys.{same_uid}
use Rattle.jc_types.specs.declared.numbers.Uid.{Uid}
use Rattle.jc_types.specs.declared.objects.Entry.{Entry}
use Rattle.jc_types.specs.declared.objects.Entry.TheVariants.{JobPut, JobGone, PodPut, PodGone}
use Rattle.jc_types.specs.declared.objects.Pod.{Pod}
use Rattle.jc_types.specs.declared.runs.Shape.{Shape}
use Rattle.jc_types.specs.declared.runs.Sys.{Sys}
use Rattle.jc_types.specs.declared.runs.Sys.TheVariants as sys
use Rattle.jc_states.specs.Pods.{goes}
use Rattle.jc_states.specs.PodLists.{put_pod}
use Rattle.jc_log.specs.Acts as does
use Rattle.jc_log.specs.Acts.{Act}
use Rattle.jc_log.specs.Deeds.{Deed, act_of_system}
use Rattle.jc_log.specs.Log.{pod_in, pods_in}
use Rattle.jc_log.specs.Requests.{grown, pod_entry}
use Rattle.jc_log.proofs.PodFacts.{pods_in-among}
use Rattle.jc_history.specs.Replies.{gives, log_given}
use Rattle.jc_settle.specs.Left.{first_restarts}
use Rattle.jc_settle.specs.Settles.{next_of_settle, settled_on, with_next}
use Rattle.jc_settle.proofs.OnFacts.{next-is}
use Rattle.jc_restarts.specs.Restarts.{most_restarts, restarts_after}
use Rattle.jc_restarts.proofs.EntryFacts.{act-appends, no-fewer}

-- What each of the pods has, and one more, each has once that is put.
pub each-put : (P : Pod → Type 0) (pod : Pod) (pods : List Pod) → P pod → Each P pods → Each P (put_pod pod pods)
each-put P pod [] one all = (one, tt)
each-put P pod (q ∷ pods) one all = by (nat_lt pod.uid.0 q.uid.0) (pod.uid.0 == q.uid.0) (each-put P pod pods one all.1)
  where
    by : (lt eq : Bool) → Each P (put_pod pod pods) → Each P (cond lt (pod ∷ q ∷ pods) (cond eq (pod ∷ pods) (q ∷ put_pod pod pods)))
    by true eq rest = (one, all)
    by false true rest = (one, all.1)
    by false false rest = (all.0, rest)

-- What an act makes of fewer restarts is no more.
no-more : (act : Act) (m n : ℕ) → m ≤ n → restarts_after act m ≤ restarts_after act n
no-more (does.Report pod change) m n h = omega (arith, h)
no-more does.Node m n h = omega (arith, h)
no-more other m n h = h

-- The pod has restarted so often, at most.
abbrev IsFew : ℕ → Pod → Type 0
IsFew n pod = first_restarts pod ≤ n

abbrev PutsFew : ℕ → Entry → Type 0
PutsFew n (PodPut pod) = first_restarts pod ≤ n
PutsFew n other = Unit {0}

few-then : (n : ℕ) (log : List Entry) (o : Option Entry) → IfSome o (PutsFew n) → Each (IsFew n) (pods_in log) → Each (IsFew n) (pods_in (grown log o))
few-then n log None h all = all
few-then n log (Some (JobPut job)) h all = all
few-then n log (Some (JobGone job)) h all = all
few-then n log (Some (PodPut pod)) h all = each-put (IsFew n) pod (pods_in log) h all
few-then n log (Some (PodGone pod)) h all = Each-filter (IsFew n) (λ (q : Pod). not (same_uid q.uid pod.uid)) (pods_in log) all

one-deed : (shape : Shape) (past : List Deed) (log : List Entry) (act : Act) (n : ℕ) → Each (IsFew n) (pods_in log) → Each (IsFew (restarts_after act n)) (pods_in (grown log (gives shape past log act).entry))
one-deed shape past log act n all =
    few-then (restarts_after act n) log (gives shape past log act).entry
    (act-appends shape past (PutsFew (restarts_after act n)) log act (record {
      job = λ job. tt;
      gone = λ key job is keyed. tt;
      pod = λ u pod new there uid few. entry new (let more = no-more act (first_restarts pod) n (found u pod there) in omega (arith, few, more));
      made = λ c w pod is none m. omega (arith, none);
    }))
    (Each-weaker (IsFew n) (IsFew (restarts_after act n)) (λ pod few. let more = no-fewer act n in omega (arith, few, more)) (pods_in log) all)
  where
    found : (u : Uid) (pod : Pod) → pod_in u log ≡ Some pod → first_restarts pod ≤ n
    found u pod there = find_each (IsFew n) (λ (q : Pod). same_uid q.uid u) (pods_in log) pod all (pods_in-among u log ∙ there)

    entry : (new : Pod) → first_restarts new ≤ restarts_after act n → PutsFew (restarts_after act n) (pod_entry new)
    entry new few = by (goes new)
      where
        by : (b : Bool) → PutsFew (restarts_after act n) (cond b (PodGone new) (PodPut new))
        by true = tt
        by false = few

few-restarted : (shape : Shape) (deeds : List Deed) → Each (IsFew (most_restarts deeds)) (pods_in (log_given shape deeds))
unfolding log_given
few-restarted shape [] = tt
few-restarted shape (d ∷ past) = one-deed shape past (log_given shape past) d.act (most_restarts past) (few-restarted shape past)

pub pod-restarted : (shape : Shape) (deeds : List Deed) (pod : Pod) → pod_in pod.uid (log_given shape deeds) ≡ Some pod → first_restarts pod ≤ most_restarts deeds
pod-restarted shape deeds pod there = find_each (IsFew (most_restarts deeds)) (λ (q : Pod). same_uid q.uid pod.uid) (pods_in (log_given shape deeds)) pod (few-restarted shape deeds) (pods_in-among pod.uid (log_given shape deeds) ∙ there)

-- ---- the events of a settle

event-few : (x : Sys) (n : ℕ) → restarts_after (act_of_system x) n ≤ n + 1
event-few (sys.List c kind) n = omega arith
event-few (sys.Deliver c kind) n = omega arith
event-few (sys.Begin c w) n = omega arith
event-few (sys.Step c w) n = omega arith
event-few sys.Node n = omega arith
event-few (sys.Clock add) n = omega arith

-- Each lets one restart, at most.
pub settle-few : (shape : Shape) (n : ℕ) (past : List Deed) → most_restarts (settled_on shape n past) ≤ most_restarts past + n
settle-few shape zero past = omega arith
settle-few shape (suc n) past = let rest = settle-few shape n (with_next (next_of_settle shape past) past) in let one = by (next_of_settle shape past) refl in omega (arith, rest, one)
  where
    by : (o : Option Deed) → next_of_settle shape past ≡ o → most_restarts (with_next o past) ≤ most_restarts past + 1
    by None e = omega arith
    by (Some d) e = let x = next-is shape past d e in let few = event-few x.comes (most_restarts past) in
        let same : restarts_after (act_of_system x.comes) (most_restarts past) ≡ restarts_after d.act (most_restarts past) = ap (λ (y : Deed). restarts_after y.act (most_restarts past)) x.is in omega (arith, few, same)
