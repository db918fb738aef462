-- A deed of the node, and one of the clock, leave each pod within the bound: what the node has written of a pod brings its
-- key into the queues.
use Rattle.std.proofs.Common.{◌≡◌, ◌⊎◌, inl, inr, ℕ, ◌+◌, ◌<◌, ◌≤◌, Bool, true, false, cond, not, ◌||◌, List, [], ◌∷◌, ◌++◌, length, Some, option_and_then, refl, sym, ap, ◌∙◌, subst, arith, true≢false}
use Rattle.std.specs.List.{AllByRecursion as Each, list_any}
use Rattle.std.specs.Option.{option_map_or}
use Rattle.jc_types.proofs.KeyFacts.{same_key-eq}
use Rattle.jc_types.proofs.ListFacts.{Each-filter, Each-weaker}
use Rattle.jc_types.specs.declared.objects.KeyNames.{KeyNames as Key}
use Rattle.jc_types.specs.Keys.{same_key, same_uid}
use Rattle.jc_types.specs.declared.objects.Entry.{Entry}
use Rattle.jc_types.specs.declared.objects.Entry.TheVariants.{PodPut, PodGone}
use Rattle.jc_types.specs.declared.objects.Kind.TheVariants.{Pods}
use Rattle.jc_types.specs.declared.objects.Pod.{Pod}
use Rattle.jc_types.specs.declared.runs.Shape.{Shape}
use Rattle.jc_types.specs.declared.runs.Sys.{Sys}
use Rattle.jc_states.specs.Pods.{goes}
use Rattle.jc_restarts.specs.ControllerCalls.{told}
use Rattle.jc_restarts.specs.Schedules.{log_end}
use Rattle.jc_log.specs.Acts as does
use Rattle.jc_log.specs.Deeds.{Deed, act_of_system}
use Rattle.jc_log.specs.Log.{entry_at, job_in, pods_in}
use Rattle.jc_log.specs.Requests.{pod_entry, with_report}
use Rattle.jc_log.proofs.LogFacts.{entry_at-newest}
use Rattle.jc_runs.specs.Diaries.{moment, notes_taken, restarts}
use Rattle.jc_runs.specs.Legal.{IsLegal}
use Rattle.jc_remaining.specs.Nodes.{change_by}
use Rattle.jc_runs.specs.Numbers.{number}
use Rattle.jc_runs.specs.Replies.{diary, log_given}
use Rattle.jc_restarts.proofs.LegalFacts.{notes-next}
use Rattle.jc_settle.specs.Comes.{Acts, Begins, Comes, Delivers, HaveNoKeys, Lists, Steps, Ticks}
use Rattle.jc_settle.specs.Left.{first_restarts}
use Rattle.jc_settle.specs.Settles.{next_of_settle}
use Rattle.jc_settle.proofs.ComesFacts.{first-comes}
use Rattle.jc_settle.proofs.OnFacts.{next-is}
use Rattle.jc_calm.specs.SettleTurns.{MovesTheClock, is_node}
use Rattle.jc_counted.proofs.CountedFacts.{Stay}
use Rattle.jc_remaining.specs.Faultless.{IsBetweenTurns}
use Rattle.jc_remaining.proofs.NodePods.{NodeWrites}
use Rattle.jc_remaining.proofs.NodeTurns.{IsToldOf, node-jobs}
use Rattle.jc_remaining.proofs.Sums.{has-each, keys_there}
use Rattle.jc_restarts.specs.Restarts.{HasItsJob, too_many}
use Rattle.jc_finite.proofs.Within.{AllWithin, IsInQueue, RestartsWithin}
use Rattle.jc_restarts.proofs.CountFacts.{each-put}
use Rattle.jc_restarts.proofs.QueueFacts.{IsAtMost, comes-in, none-in-queue, put-listed}
use Rattle.jc_restarts.proofs.StandFacts.{has-controller}

-- ---- where the node acts

-- No key is in line then.
pub node-alone : (shape : Shape) (past : List Deed) → IsLegal shape past → 0 < shape.workers → (d : Deed) → next_of_settle shape past ≡ Some d → d.act ≡ does.Node → HaveNoKeys shape past (log_given shape past)
node-alone shape past legal some d e a = let x = next-is shape past d e in of x.comes (first-comes shape past x.comes legal some x.first) (ap is_node (ap (λ (y : Deed). y.act) x.is ∙ a))
  where
    of : (x : Sys) → Comes shape past (log_given shape past) x → is_node (act_of_system x) ≡ true → HaveNoKeys shape past (log_given shape past)
    of x (Lists c kind lt is n) h = absurd (true≢false (sym h ∙ ap (λ y. is_node (act_of_system y)) is))
    of x (Delivers c kind version lt is n less) h = absurd (true≢false (sym h ∙ ap (λ y. is_node (act_of_system y)) is))
    of x (Steps up c w begun lt less is r) h = absurd (true≢false (sym h ∙ ap (λ y. is_node (act_of_system y)) is))
    of x (Begins up free c w k rest lt is l) h = absurd (true≢false (sym h ∙ ap (λ y. is_node (act_of_system y)) is))
    of x (Acts up free keys step is s) h = keys
    of x (Ticks up free keys none due is l) h = absurd (true≢false (sym h ∙ ap (λ y. is_node (act_of_system y)) is))

-- No key is in a queue where none is in line.
pub none-waits : (shape : Shape) (past : List Deed) → IsBetweenTurns shape past → HaveNoKeys shape past (log_given shape past) → (k : Key) → IsInQueue shape past k → ⊥
none-waits shape past between keys k q = true≢false (sym q.dirty ∙ none-in-queue shape past between.legal between.calm q.controller q.within (keys q.controller q.within) k)

-- ---- what is told of it

module _ (stay : Stay) (shape : Shape) (past : List Deed) (f : IsBetweenTurns shape past) (d : Deed) (e : next_of_settle shape past ≡ Some d) (a : d.act ≡ does.Node) (u : IsToldOf stay shape past f d e a)
    (w : NodeWrites shape past d) (written : log_given shape (d ∷ past) ≡ pod_entry (with_report (log_given shape past) w.pod (change_by w.pod w.act)) ∷ log_given shape past) (most : ℕ) (kept : AllWithin shape past most) where
  abbrev log : List Entry
  log = log_given shape past

  abbrev new : Pod
  new = with_report (log_given shape past) w.pod (change_by w.pod w.act)

  abbrev now : List Deed
  now = u.run ++ d ∷ past

  keys : HaveNoKeys shape past (log_given shape past)
  keys = node-alone shape past f.legal f.workers d e a

  jobs : (k : Key) → job_in k (log_given shape (u.run ++ d ∷ past)) ≡ job_in k (log_given shape past)
  jobs k = ap (job_in k) u.log_is ∙ node-jobs shape past d k a

  -- Of the pods that it leaves alone.
  alone-within : (pod : Pod) → RestartsWithin shape past most pod → RestartsWithin shape (u.run ++ d ∷ past) most pod
  alone-within pod was active policy its = by (was active policy (record { job = its.job; there = sym (jobs pod.owner) ∙ its.there; own = its.own; policy = its.policy }))
    where
      by : (first_restarts pod < most) ⊎ IsInQueue shape past pod.owner → (first_restarts pod < most) ⊎ IsInQueue shape (u.run ++ d ∷ past) pod.owner
      by (inl less) = inl less
      by (inr q) = absurd (none-waits shape past f keys pod.owner q)

  others : Each (RestartsWithin shape (u.run ++ d ∷ past) most) (pods_in (log_given shape past))
  others = Each-weaker (RestartsWithin shape past most) (RestartsWithin shape (u.run ++ d ∷ past) most) alone-within (pods_in (log_given shape past)) kept.pods

  some-controller : 0 < shape.controllers
  some-controller = has-controller shape past f.legal w.pod w.befalls.there

  -- No controller has noted the deed.
  unnoted : (c : ℕ) → diary shape c (d ∷ past) ≡ diary shape c past
  unnoted c =
      notes-next shape c past d f.legal
      ∙ ap (λ act. cond (restarts c act) [] (notes_taken c act d.reply (moment shape past) (log_given shape (d ∷ past)) (diary shape c past) ++ diary shape c past)) a

  -- The key of the pod comes into the queue of the first controller.
  told-of : log_given shape (u.run ++ d ∷ past) ≡ PodPut new ∷ log_given shape past → IsInQueue shape (u.run ++ d ∷ past) new.owner
  told-of is = record {
    controller = 0;
    within = some-controller;
    dirty =
        comes-in new.owner (PodPut new ∷ log_given shape past) (length (log_given shape past)) (omega arith) (put-listed new (pods_in (log_given shape past))) tells shape 0 u.run (d ∷ past) u.between.legal u.telling is before after;
  }
    where
      tells : option_and_then (told Pods) (entry_at (length (log_given shape past) + 1) (PodPut new ∷ log_given shape past)) ≡ Some new.owner
      tells =
          let more : length (log_given shape past) + 1 ≡ length (PodPut new ∷ log_given shape past) = omega arith in
          ap (λ n. option_and_then (told Pods) (entry_at n (PodPut new ∷ log_given shape past))) more
          ∙ ap (option_and_then (told Pods)) (entry_at-newest (PodPut new) (log_given shape past))

      before : IsAtMost (length (log_given shape past)) (number Pods (diary shape 0 (d ∷ past)))
      before = subst (IsAtMost (length (log_given shape past))) (sym (ap (number Pods) (unnoted 0) ∙ f.calm.caches 0 some-controller Pods)) (omega arith)

      after : number Pods (diary shape 0 (u.run ++ d ∷ past)) ≡ Some (log_end (PodPut new ∷ log_given shape past))
      after = u.between.calm.caches 0 some-controller Pods ∙ ap (λ l. Some (log_end l)) is

  pub node-within : AllWithin shape (u.run ++ d ∷ past) most
  node-within = record {
    limits = λ key job there. kept.limits key job (sym (jobs key) ∙ there);
    pods = by (goes new) refl;
  }
    where
      by : (b : Bool) → goes new ≡ b → Each (RestartsWithin shape (u.run ++ d ∷ past) most) (pods_in (log_given shape (u.run ++ d ∷ past)))
      by true g =
          let is : log_given shape (u.run ++ d ∷ past) ≡ PodGone new ∷ log_given shape past = u.log_is ∙ written ∙ ap (λ b. cond b (PodGone new) (PodPut new) ∷ log_given shape past) g in
          subst (λ l. Each (RestartsWithin shape (u.run ++ d ∷ past) most) (pods_in l)) (sym is)
          (Each-filter (RestartsWithin shape (u.run ++ d ∷ past) most) (λ (pod : Pod). not (same_uid pod.uid new.uid)) (pods_in (log_given shape past)) others)
      by false g =
          let is : log_given shape (u.run ++ d ∷ past) ≡ PodPut new ∷ log_given shape past = u.log_is ∙ written ∙ ap (λ b. cond b (PodGone new) (PodPut new) ∷ log_given shape past) g in
          subst (λ l. Each (RestartsWithin shape (u.run ++ d ∷ past) most) (pods_in l)) (sym is)
          (each-put (RestartsWithin shape (u.run ++ d ∷ past) most) new (pods_in (log_given shape past)) (λ active policy its. inr (told-of is)) others)

-- ---- the clock

pub clock-within : (shape : Shape) (past : List Deed) → IsBetweenTurns shape past → (d : Deed) (due : ℕ) → MovesTheClock shape past d due → (most : ℕ) → AllWithin shape past most → AllWithin shape (d ∷ past) most
clock-within shape past f d due h most kept = record {
  limits = λ key job there. kept.limits key job (sym (ap (job_in key) h.log_is) ∙ there);
  pods = subst (λ l. Each (RestartsWithin shape (d ∷ past) most) (pods_in l)) (sym h.log_is) (Each-weaker (RestartsWithin shape past most) (RestartsWithin shape (d ∷ past) most) one (pods_in (log_given shape past)) kept.pods);
}
  where
    one : (pod : Pod) → RestartsWithin shape past most pod → RestartsWithin shape (d ∷ past) most pod
    one pod was active policy its = by (was active policy (subst (λ l. HasItsJob l pod) h.log_is its))
      where
        by : (first_restarts pod < most) ⊎ IsInQueue shape past pod.owner → (first_restarts pod < most) ⊎ IsInQueue shape (d ∷ past) pod.owner
        by (inl less) = inl less
        by (inr q) = absurd (none-waits shape past f h.lines pod.owner q)

-- ---- a bound to begin with

abbrev all_restarts : List Pod → ℕ
all_restarts [] = 0
all_restarts (pod ∷ pods) = first_restarts pod + all_restarts pods

abbrev limit_under : List Entry → Key → ℕ
limit_under entries key = option_map_or too_many (job_in key entries) 0

abbrev all_limits : List Entry → List Key → ℕ
all_limits entries [] = 0
all_limits entries (key ∷ keys) = limit_under entries key + all_limits entries keys

-- More than all restarts that there are, and all restarts that are too many.
abbrev pub enough_restarts : List Entry → ℕ
enough_restarts entries = all_restarts (pods_in entries) + all_limits entries (keys_there entries) + 1

limit-among : (entries : List Entry) (key : Key) (keys : List Key) → list_any (same_key key) keys ≡ true → limit_under entries key ≤ all_limits entries keys
limit-among entries key [] among = absurd (true≢false (sym among))
limit-among entries key (q ∷ keys) among = by (same_key key q) refl among (limit-among entries key keys)
  where
    by : (b : Bool) → same_key key q ≡ b → (b || list_any (same_key key) keys) ≡ true
        → (list_any (same_key key) keys ≡ true → limit_under entries key ≤ all_limits entries keys) → limit_under entries key ≤ limit_under entries q + all_limits entries keys
    by true same h more = let is = ap (limit_under entries) (same_key-eq key q same) in omega (arith, is)
    by false same h more = let rest = more h in omega (arith, rest)

module _ (shape : Shape) (past : List Deed) where
  all-fewer : (most : ℕ) (pods : List Pod) → all_restarts pods < most → Each (RestartsWithin shape past most) pods
  all-fewer most [] less = tt
  all-fewer most (pod ∷ pods) less = (λ active policy its. inl (omega (arith, less)), all-fewer most pods (omega (arith, less)))

  pub begins-within : AllWithin shape past (enough_restarts (log_given shape past))
  begins-within = record {
    limits = λ key job there.
        let among = limit-among (log_given shape past) key (keys_there (log_given shape past)) (has-each (log_given shape past) key job there) in
        let is : limit_under (log_given shape past) key ≡ too_many job = ap (λ o. option_map_or too_many o 0) there in
        omega (arith, among, is);
    pods = all-fewer (enough_restarts (log_given shape past)) (pods_in (log_given shape past)) (omega arith);
  }
