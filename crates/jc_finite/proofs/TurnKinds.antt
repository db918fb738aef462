-- What a turn of a settle lowers: the faults that are pending, the pods that may be made, what is left of those that are
-- there, or what is still to come.
use Rattle.std.proofs.Common.{◌≡◌, ◌⊎◌, inl, inr, ℕ, ◌+◌, ◌-◌, ◌^◌, ◌<◌, ◌≤◌, ◌==◌, nat_le, Bool, true, false, cond, not, ◌&&◌, pos, List, [], ◌∷◌, ◌++◌, length}
use Rattle.std.proofs.Common.{map, Option, Some, None, is_some, refl, sym, ap, ◌∙◌, subst, arith, true≢false, leb-false, leb-true}
use Rattle.std.specs.List.{AllByRecursion as Each}
use Rattle.std.specs.Option.{option_map_or}
use Rattle.std.specs.Ordering.{int_eq}
use Rattle.std.proofs.lemmas.Bool.{and_parts}
use Rattle.std.proofs.lemmas.Option.{same_Some as some_is}
use Rattle.jc_types.proofs.ListFacts.{Each-both, Each-weaker}
use Rattle.jc_types.specs.declared.objects.KeyNames.{KeyNames as Key}
use Rattle.jc_types.specs.Keys.{same_key}
use Rattle.jc_types.specs.declared.actions.End.{End}
use Rattle.jc_types.specs.declared.numbers.Uid.{Uid}
use Rattle.jc_types.specs.declared.objects.Entry.TheVariants.{JobPut}
use Rattle.jc_types.specs.declared.objects.Job.{Job}
use Rattle.jc_types.specs.declared.objects.Pod.{Pod}
use Rattle.jc_types.specs.declared.runs.Shape.{Shape}
use Rattle.jc_types.specs.declared.statuses.JobStatus.{JobStatus}
use Rattle.jc_states.specs.Pods.{is_active}
use Rattle.jc_states.specs.UidLists.{is_in}
use Rattle.jc_restarts.specs.Ask.TheVariants.{MakePod, MarkPod}
use Rattle.jc_restarts.specs.Asks.{asks_of, late_asks, let_go_ask}
use Rattle.jc_log.specs.Acts as does
use Rattle.jc_log.specs.Deeds.{Deed}
use Rattle.jc_log.specs.Log.{Live, job_in, life, living, pod_in, pods_in, pods_under}
use Rattle.jc_log.specs.Requests.{with_status}
use Rattle.jc_log.proofs.LogFacts.{upto-all}
use Rattle.jc_log.proofs.PodFacts.{pods_in-live}
use Rattle.jc_restarts.specs.Lines.{is_dirty}
use Rattle.jc_runs.specs.Basis.{Basis}
use Rattle.jc_runs.specs.Diaries.{moment}
use Rattle.jc_runs.specs.Legal.{IsLegal}
use Rattle.jc_runs.specs.Registers.{pending}
use Rattle.jc_runs.specs.Replies.{diary, log_given}
use Rattle.jc_settle.specs.Left.{ComesTo, first_restarts}
use Rattle.jc_settle.specs.Settles.{ComesToRest, IsCalm, is_on_the_way, is_telling, next_of_settle, settled_on}
use Rattle.jc_settle.proofs.CalmFacts.{telling-on}
use Rattle.jc_settle.proofs.OnFacts.{on-adds, on-some, rest-earlier}
use Rattle.jc_calm.specs.SettleTurns.{Asks, BeginsAlone, ClockMoves, EndsAtOnce, Fails, Finds, MeetsFault, MovesTheClock, NodeActs, Rests, Turn, Writes, WritesAndAsks, WritesNoMore, WritesStatus, faults_pending, notes_of_nothing, pods_asked}
use Rattle.jc_calm.proofs.GoFacts.{goes-on}
use Rattle.jc_remaining.specs.Whole.{DoesAll, RunsWhole, SawLog}
use Rattle.jc_remaining.proofs.WholeFacts.{runs-whole}
use Rattle.jc_counted.proofs.CountedFacts.{Stay, legal-counted, legal-one-key}
use Rattle.jc_remaining.specs.Faultless.{IsBetweenTurns}
use Rattle.jc_remaining.proofs.NodeTurns.{IsToldOf, fates-then, goes-to, node-jobs, node-told}
use Rattle.jc_ends.proofs.Descent.{Falls}
use Rattle.jc_ends.proofs.TurnCounts.{clock-lessens, coming_at, finds-lessens, writes-lessens}
use Rattle.jc_remaining.specs.Decisions.{restarts_on_failure}
use Rattle.jc_remaining.specs.Making.{fails}
use Rattle.jc_remaining.specs.Nodes.{end_at, fate, first_container, pod_end}
use Rattle.jc_remaining.specs.Plans.{planned}
use Rattle.jc_remaining.specs.Remaining.{FitsAll, HasEach, LastEndsCount, all_creations, all_left}
use Rattle.jc_remaining.proofs.NodeLeaves.{node-creations, node-left}
use Rattle.jc_remaining.proofs.NodePods.{NodeWrites, node-writes}
use Rattle.jc_remaining.proofs.StatusAlone.{status-alone}
use Rattle.jc_remaining.proofs.SyncFacts.{sync-creations-most}
use Rattle.jc_remaining.proofs.SyncLeaves.{Fewer, LeavesLess, Less, each-kept, sync-leaves}
use Rattle.jc_finite.proofs.Within.{AllWithin, IsInQueue, RestartsWithin}
use Rattle.jc_finite.proofs.NodeWithin.{clock-within, node-alone, node-within, none-waits}
use Rattle.jc_restarts.proofs.QueueFacts.{GetsNone, all-stay}
use Rattle.jc_finite.proofs.SyncWithin.{find-within, queue-stays, same-stay, sync-within, whole-stay}
use Rattle.jc_finite.specs.Finite.{FillsACount}
use Rattle.jc_finite.proofs.StoppedFacts.{ComesOrHas}
use Rattle.jc_finite.proofs.SuccessFacts.{CountsIfNone, pod-found-has, pod-has}

-- ---- where a settle may end

-- It comes to rest, or a container has restarted as often as is counted.
abbrev pub Ends : Shape → List Deed → Type 0
Ends shape past = ComesToRest shape past ⊎ FillsACount shape past

-- So it does before some of its events.
pub ends-earlier : (shape : Shape) (n : ℕ) (past now : List Deed) → settled_on shape n past ≡ now → Ends shape now → Ends shape past
ends-earlier shape n past now are (inl rests) = inl (rest-earlier shape n past (subst (ComesToRest shape) (sym are) rests))
ends-earlier shape n past now are (inr out) = inr (record {
  events = n + out.events;
  pod = out.pod;
  there = ap (λ deeds. pod_in out.pod.uid (log_given shape deeds)) (on-adds shape n out.events past ∙ ap (settled_on shape out.events) are) ∙ out.there;
  active = out.active;
  policy = out.policy;
  end = out.end;
  fated = sym (ap (λ o. option_map_or (end_at out.pod.serial) o None) (fates-then shape past n now are out.pod.owner)) ∙ out.fated;
  failing = out.failing;
  full = out.full;
})

-- ---- one pod

module _ (fates : Key → Option (List End)) where
  -- The pod is active, its containers restart after a failure, its end is one, and it has restarted as often as is counted.
  abbrev is_full : Pod → Bool
  is_full pod = is_active pod && (restarts_on_failure pod.restart && (option_map_or fails (pod_end fates pod) false && nat_le (2 ^ 32 - 1) (first_restarts pod)))

  -- Of one that has not, less is left once the node does something to it.
  pod-comes : (shape : Shape) (past : List Deed) (most : ℕ) (pod : Pod) → ComesOrHas fates (log_given shape past) pod → RestartsWithin shape past most pod → (IsInQueue shape past pod.owner → ⊥) → is_full pod ≡ false → ComesTo most fates pod
  pod-comes shape past most pod h within alone unfull = record { fails = failing; few = few }
    where
      failing : (end : End) → is_active pod ≡ true → pod_end fates pod ≡ Some end → restarts_on_failure pod.restart ≡ true → int_eq end.exit (pos 0) ≡ false
          → (is_some (first_container pod.containers) ≡ true) × (first_restarts pod < most) × (first_restarts pod < 2 ^ 32 - 1)
      failing end active fated policy exit = (h.some, of (within active policy (h.has active policy end fated (ap not exit))), leb-false (2 ^ 32 - 1) (first_restarts pod) less)
        where
          of : (first_restarts pod < most) ⊎ IsInQueue shape past pod.owner → first_restarts pod < most
          of (inl lt) = lt
          of (inr q) = absurd (alone q)

          less : nat_le (2 ^ 32 - 1) (first_restarts pod) ≡ false
          less =
              sym ((λ i. active i && (policy i && (option_map_or fails (fated i) false && nat_le (2 ^ 32 - 1) (first_restarts pod))))
              ∙ (λ i. not (exit i) && nat_le (2 ^ 32 - 1) (first_restarts pod)))
              ∙ unfull

      few : (end : End) → pod_end fates pod ≡ Some end → restarts_on_failure pod.restart ≡ true → int_eq end.exit (pos 0) ≡ true → end.restarts ≤ 2 ^ 32 - 1
      few end fated policy exit = pod-has CountsIfNone fates pod (h.counts policy) end fated (ap not exit)

-- ---- the plan of a sync that asks for nothing

asks-marks-none : (basis : Basis) → asks_of (planned basis) ≡ [] → (u : Uid) → is_in u (planned basis).marks ≡ false
asks-marks-none basis none u = by (planned basis).creates refl (planned basis).marks refl
  where
    longer : (creates : List (Option ℕ)) → (planned basis).creates ≡ creates → (marked : List Uid) → (planned basis).marks ≡ marked
        → length ((map MakePod creates ++ (map MarkPod marked ++ map let_go_ask (planned basis).let_goes)) ++ late_asks (planned basis)) ≡ 0
    longer creates c marked m = (λ i. length ((map MakePod (sym c i) ++ (map MarkPod (sym m i) ++ map let_go_ask (planned basis).let_goes)) ++ late_asks (planned basis))) ∙ ap length none

    by : (creates : List (Option ℕ)) → (planned basis).creates ≡ creates → (marked : List Uid) → (planned basis).marks ≡ marked → is_in u (planned basis).marks ≡ false
    by [] c [] m = ap (is_in u) m
    by [] c (v ∷ marked) m = let n = longer [] c (v ∷ marked) m in absurd (omega (arith, n))
    by (index ∷ creates) c marked m = let n = longer (index ∷ creates) c marked m in absurd (omega (arith, n))

-- A key that is not its own stays in the queues that it is in.
find-queues : (shape : Shape) (past : List Deed) (c w : ℕ) (basis : Basis) (begin end : Deed) → EndsAtOnce shape past c w basis begin end → (k : Key) → same_key basis.key k ≡ false → IsInQueue shape past k → IsInQueue shape (end ∷ begin ∷ past) k
find-queues shape past c w basis begin end h k apart q = record {
  controller = q.controller;
  within = q.within;
  dirty =
      ap (is_dirty k) (h.notes q.controller)
      ∙ all-stay k (cond (c == q.controller) (notes_of_nothing w basis (moment shape past)) []) (diary shape q.controller past) (none (c == q.controller)) q.dirty;
}
  where
    none : (t : Bool) → Each (GetsNone k) (cond t (notes_of_nothing w basis (moment shape past)) [])
    none true = (refl, (apart, tt))
    none false = tt

-- ---- turns

module _ (stay : Stay) (shape : Shape) (fates : Key → Option (List End)) where
  -- A state between turns, where the pods end as these fates say, each pod comes to its end or has its Job, and no Job ignores
  -- the last end of its fate.
  pub record IsFated (past : List Deed) : Type 0 where
    pub between : IsBetweenTurns shape past
    pub same : fate past ≡ fates
    pub comes : (events : ℕ) → Each (ComesOrHas fates (log_given shape (settled_on shape events past))) (pods_in (log_given shape (settled_on shape events past)))
    pub lasts : (events : ℕ) → LastEndsCount fates (log_given shape (settled_on shape events past))

  -- So it is after some events more, where it is between turns.
  fated-on : (past : List Deed) → IsFated past → (n : ℕ) (now : List Deed) → settled_on shape n past ≡ now → IsBetweenTurns shape now → IsFated now
  fated-on past g n now are between = record {
    between = between;
    same = (λ i key. fates-then shape past n now are key i) ∙ g.same;
    comes = λ events.
        subst (λ deeds. Each (ComesOrHas fates (log_given shape deeds)) (pods_in (log_given shape deeds))) (on-adds shape n events past ∙ ap (settled_on shape events) are)
        (g.comes (n + events));
    lasts = λ events.
        subst (λ deeds. LastEndsCount fates (log_given shape deeds)) (on-adds shape n events past ∙ ap (settled_on shape events) are) (g.lasts (n + events));
  }

  module _ (keys : List Key) where
    abbrev pub creations_at : List Deed → ℕ
    creations_at past = all_creations fates (log_given shape past) keys

    -- A later state that is between turns.
    pub record IsLater (past now : List Deed) : Type 0 where
      pub fated : IsFated now
      pub back : Ends shape now → Ends shape past

    -- Up to so many restarts after failures.
    module _ (most : ℕ) where
      abbrev pub left_at : List Deed → ℕ
      left_at past = all_left most fates (pods_in (log_given shape past))

      pub data TurnKind (past : List Deed) : Type 0 where
        AtEnd : Ends shape past → TurnKind past
        FewerFaults : (now : List Deed) → IsLater past now → faults_pending shape now < faults_pending shape past → TurnKind past
        FewerPods : (now : List Deed) → IsLater past now → HasEach keys (log_given shape now) → faults_pending shape now ≤ faults_pending shape past → creations_at now < creations_at past → TurnKind past
        LessLeft : (now : List Deed) → IsLater past now → AllWithin shape now most → HasEach keys (log_given shape now) → faults_pending shape now ≤ faults_pending shape past → creations_at now ≤ creations_at past
            → left_at now < left_at past → TurnKind past
        LessToCome : (now : List Deed) → IsLater past now → AllWithin shape now most → HasEach keys (log_given shape now) → faults_pending shape now ≤ faults_pending shape past → creations_at now ≤ creations_at past
            → left_at now ≤ left_at past → Falls (coming_at shape past) (coming_at shape now) → TurnKind past

      module _ (past : List Deed) (g : IsFated past) (each : HasEach keys (log_given shape past)) (kept : AllWithin shape past most) where
        later : (n : ℕ) (now : List Deed) → settled_on shape n past ≡ now → IsCalm shape now → IsLater past now
        later n now are calm = record {
          fated = fated-on past g n now are (goes-to shape past n now are g.between calm);
          back = ends-earlier shape n past now are;
        }

        fits : FitsAll (log_given shape past)
        fits = record {
          counted = legal-counted stay shape past g.between.legal g.between.valid;
          apart = legal-one-key stay shape past g.between.legal g.between.valid;
        }

        -- The log is as it was.
        unwritten : (n : ℕ) (now : List Deed) → settled_on shape n past ≡ now → log_given shape now ≡ log_given shape past → IsCalm shape now → AllWithin shape now most → faults_pending shape now ≤ faults_pending shape past
            → Falls (coming_at shape past) (coming_at shape now) → TurnKind past
        unwritten n now are log calm within faults falls =
            LessToCome now (later n now are calm) within (subst (HasEach keys) (sym log) each) faults
            (let same : creations_at now ≡ creations_at past = ap (λ l. all_creations fates l keys) log in omega (arith, same))
            (let same : left_at now ≡ left_at past = ap (λ l. all_left most fates (pods_in l)) log in omega (arith, same)) falls

        clock : (d : Deed) (due : ℕ) → MovesTheClock shape past d due → TurnKind past
        clock d due h =
            unwritten 1 (d ∷ past) (on-some shape 0 past d h.next) h.log_is h.calm (clock-within shape past g.between d due h most kept) h.faults
            (clock-lessens stay shape g.between.start past g.between.legal g.between.valid d due h)

        -- The node acts: to a pod that has restarted as often as is counted, or to none.
        module _ (d : Deed) (e : next_of_settle shape past ≡ Some d) (a : d.act ≡ does.Node) where
          alone : (key : Key) → IsInQueue shape past key → ⊥
          alone = none-waits shape past g.between (node-alone shape past g.between.legal g.between.workers d e a)

          abbrev Known : Pod → Type 0
          Known pod = (pod_in pod.uid (log_given shape past) ≡ Some pod) × (ComesOrHas fates (log_given shape past) pod × RestartsWithin shape past most pod)

          all-known : Each Known (pods_in (log_given shape past))
          all-known =
              Each-both (λ (pod : Pod). pod_in pod.uid (log_given shape past) ≡ Some pod) (λ (pod : Pod). ComesOrHas fates (log_given shape past) pod × RestartsWithin shape past most pod) (pods_in (log_given shape past))
              (Each-weaker (λ (pod : Pod). life pod.uid (log_given shape past) ≡ Live pod) (λ (pod : Pod). pod_in pod.uid (log_given shape past) ≡ Some pod)
              (λ pod live. ap living live) (pods_in (log_given shape past)) (pods_in-live (log_given shape past)))
              (Each-both (ComesOrHas fates (log_given shape past)) (RestartsWithin shape past most) (pods_in (log_given shape past)) (g.comes 0) kept.pods)

          out-of : (pod : Pod) → Known pod → is_full fates pod ≡ true → FillsACount shape past
          out-of pod known full = by (pod_end fates pod) refl parts.1
            where
              parts : (restarts_on_failure pod.restart ≡ true) × ((option_map_or fails (pod_end fates pod) false && nat_le (2 ^ 32 - 1) (first_restarts pod)) ≡ true)
              parts = and_parts (restarts_on_failure pod.restart) _ (and_parts (is_active pod) _ full).1

              by : (o : Option End) → pod_end fates pod ≡ o → (option_map_or fails o false && nat_le (2 ^ 32 - 1) (first_restarts pod)) ≡ true → FillsACount shape past
              by None is h = absurd (true≢false (sym h))
              by (Some end) is h =
                  let both = and_parts (fails end) (nat_le (2 ^ 32 - 1) (first_restarts pod)) h in
                  record {
                    events = 0;
                    pod = pod;
                    there = known.0;
                    active = (and_parts (is_active pod) _ full).0;
                    policy = parts.0;
                    end = end;
                    fated = ap (λ x. pod_end x pod) g.same ∙ is;
                    failing = both.0;
                    full = leb-true (2 ^ 32 - 1) (first_restarts pod) both.1;
                  }

          -- One of the pods has, or each comes to its end.
          full-or : (pods : List Pod) → Each Known pods → FillsACount shape past ⊎ Each (ComesTo most fates) pods
          full-or [] known = inr tt
          full-or (pod ∷ pods) known = by (is_full fates pod) refl (full-or pods known.1)
            where
              by : (b : Bool) → is_full fates pod ≡ b → FillsACount shape past ⊎ Each (ComesTo most fates) pods → FillsACount shape past ⊎ Each (ComesTo most fates) (pod ∷ pods)
              by true full rest = inl (out-of pod known.0 full)
              by false unfull (inl out) = inl out
              by false unfull (inr all) = inr (pod-comes fates shape past most pod known.0.1.0 known.0.1.1 (alone pod.owner) unfull, all)

          node-less : Each (ComesTo most fates) (pods_in (log_given shape past)) → IsToldOf stay shape past g.between d e a → TurnKind past
          node-less comes u =
              LessLeft (u.run ++ d ∷ past) (later u.events (u.run ++ d ∷ past) u.are u.between.calm)
              (node-within stay shape past g.between d e a u writes (writes.log_is most its) most kept)
              (subst (HasEach keys) (sym u.log_is) (λ key job there. each key job (sym (node-jobs shape past d key a) ∙ there))) u.faults
              (subst (λ l. all_creations fates l keys ≤ creations_at past) (sym u.log_is)
              (subst (λ x. all_creations x (log_given shape (d ∷ past)) keys ≤ all_creations x (log_given shape past) keys) g.same (node-creations shape past d keys a fits)))
              (subst (λ l. all_left most fates (pods_in l) < left_at past) (sym u.log_is)
              (subst (λ x. all_left most x (pods_in (log_given shape (d ∷ past))) < all_left most x (pods_in (log_given shape past))) g.same
              (node-left shape past d most g.between.legal g.between.workers e a comes-then)))
            where
              comes-then : Each (ComesTo most (fate past)) (pods_in (log_given shape past))
              comes-then = subst (λ x. Each (ComesTo most x) (pods_in (log_given shape past))) (sym g.same) comes

              writes : NodeWrites shape past d
              writes = node-writes shape past g.between.legal g.between.workers d e a

              its : ComesTo most (fate past) writes.pod
              its = pod-found-has (ComesTo most (fate past)) (log_given shape past) writes.pod comes-then writes.befalls.there

          node : TurnKind past
          node = by (full-or (pods_in (log_given shape past)) all-known)
            where
              by : FillsACount shape past ⊎ Each (ComesTo most fates) (pods_in (log_given shape past)) → TurnKind past
              by (inl out) = AtEnd (inr out)
              by (inr comes) = node-less comes (node-told stay shape past g.between d e a)

        module _ (c w : ℕ) (basis : Basis) (begin : Deed) (b : BeginsAlone shape past c w basis begin) where
          saw : SawLog (log_given shape past) basis
          saw = record {
            job = ap (λ (x : Basis). x.job) b.saw ∙ ap (job_in basis.key) (upto-all (length (log_given shape past)) (log_given shape past) (omega arith));
            pods = ap (λ (x : Basis). x.pods) b.saw ∙ ap (pods_under basis.key) (upto-all (length (log_given shape past)) (log_given shape past) (omega arith));
          }

          finds : (end : Deed) → EndsAtOnce shape past c w basis begin end → TurnKind past
          finds end h =
              unwritten 2 (end ∷ begin ∷ past) h.after h.log_is h.calm
              (find-within shape past (end ∷ begin ∷ past) basis saw (same-stay (log_given shape past) basis (log_given shape (end ∷ begin ∷ past)) h.log_is) (find-queues shape past c w basis begin end h) most kept h.log_is
              (asks-marks-none basis h.asks)) h.faults
              (finds-lessens stay shape g.between.start past g.between.legal g.between.valid c w basis begin b end h)

          -- It asks for a pod.
          asks : pending w (diary shape c past) ≡ None → 0 < pods_asked (planned basis) → TurnKind past
          asks fine some = by (runs-whole stay shape g.between.workers past g.between.legal g.between.valid g.between.calm c w basis begin b fine)
            where
              by : RunsWhole shape past c w basis begin → TurnKind past
              by r = of (sync-leaves keys (log_given shape past) (log_given shape (r.run ++ begin ∷ past)) basis r.saw r.all each most fates (g.lasts 0) fits some)
                where
                  then : IsLater past (r.run ++ begin ∷ past)
                  then = later r.events (r.run ++ begin ∷ past) r.are r.calm

                  on-way : (x : Deed) → (x.act ≡ does.Step c w) ⊎ (is_telling x.act ≡ true) → is_on_the_way x.act ≡ true
                  on-way x (inl step) = ap is_on_the_way step
                  on-way x (inr telling) = telling-on shape x.act telling

                  within : (planned basis).creates ≡ [] → AllWithin shape (r.run ++ begin ∷ past) most
                  within none =
                      sync-within shape past (r.run ++ begin ∷ past) basis r.saw (whole-stay (log_given shape past) basis (log_given shape (r.run ++ begin ∷ past)) r.saw r.all)
                      (queue-stays shape past g.between.legal g.between.calm c w basis begin b r.run then.fated.between.legal
                      (Each-weaker (λ (x : Deed). (x.act ≡ does.Step c w) ⊎ (is_telling x.act ≡ true)) (λ (x : Deed). is_on_the_way x.act ≡ true) on-way r.run r.way))
                      most kept r.all none

                  still : HasEach keys (log_given shape (r.run ++ begin ∷ past))
                  still = each-kept keys (log_given shape past) (log_given shape (r.run ++ begin ∷ past)) basis r.saw r.all each

                  of : LeavesLess most fates keys (log_given shape past) (log_given shape (r.run ++ begin ∷ past)) basis → TurnKind past
                  of (Fewer fewer) = FewerPods (r.run ++ begin ∷ past) then still r.faults fewer
                  of (Less none few less) = LessLeft (r.run ++ begin ∷ past) then (within none) still r.faults few less

          -- It writes its Job's status alone.
          writes : (job : Job) (status : JobStatus) (write : Deed) → WritesStatus shape past c w basis job status begin write → WritesNoMore shape past basis job status → TurnKind past
          writes job status write h m =
              LessToCome (settled_on shape m.events past) then within
              (subst (HasEach keys) (sym m.log_is) (each-kept keys (log_given shape past) _ basis saw all each)) m.faults
              (subst (λ l. all_creations fates l keys ≤ creations_at past) (sym m.log_is) (sync-creations-most fates (log_given shape past) (g.lasts 0) _ basis saw all fits keys))
              (let same : left_at (settled_on shape m.events past) ≡ left_at past = ap (λ l. all_left most fates (pods_in l)) m.log_is in omega (arith, same))
              (writes-lessens stay shape g.between.start past g.between.legal g.between.valid c w basis begin b job status write h m)
            where
              all : DoesAll (log_given shape past) basis (JobPut (with_status (log_given shape past) job status) ∷ log_given shape past)
              all = status-alone (log_given shape past) basis job status saw h.job_is h.status_is m.second h.creates h.marks h.let_goes m.releases

              then : IsLater past (settled_on shape m.events past)
              then = later m.events (settled_on shape m.events past) refl m.calm

              all-then : DoesAll (log_given shape past) basis (log_given shape (settled_on shape m.events past))
              all-then = subst (DoesAll (log_given shape past) basis) (sym m.log_is) all

              queues : (k : Key) → same_key basis.key k ≡ false → IsInQueue shape past k → IsInQueue shape (settled_on shape m.events past) k
              queues k apart q =
                  subst (λ deeds. IsInQueue shape deeds k) (sym m.are)
                  (queue-stays shape past g.between.legal g.between.calm c w basis m.begin (subst (BeginsAlone shape past c w basis) (some_is begin m.begin (sym b.next ∙ m.next)) b) m.run
                  (subst (IsLegal shape) m.are then.fated.between.legal) m.way k apart q)

              within : AllWithin shape (settled_on shape m.events past) most
              within = sync-within shape past (settled_on shape m.events past) basis saw (whole-stay (log_given shape past) basis (log_given shape (settled_on shape m.events past)) saw all-then) queues most kept all-then h.creates

          is-failed : (failed : Deed) → MeetsFault shape past c w begin failed → TurnKind past
          is-failed failed h = FewerFaults (settled_on shape h.events past) (later h.events (settled_on shape h.events past) refl h.calm) h.fewer

        pub turn-kind : TurnKind past
        turn-kind = by (goes-on shape past g.between.workers g.between.start g.between.legal g.between.calm)
          where
            by : Turn shape past → TurnKind past
            by (Rests rests) = AtEnd (inl (record { events = 0; rests = rests }))
            by (NodeActs d e a) = node d e a
            by (ClockMoves d due h) = clock d due h
            by (Finds c w basis begin end b h) = finds c w basis begin b end h
            by (Asks c w basis begin b fine h at some) = asks c w basis begin b fine some
            by (WritesAndAsks c w basis job status begin write b h more some) = asks c w basis begin b h.no_fault some
            by (Writes c w basis job status begin write b h m) = writes c w basis begin b job status write h m
            by (Fails c w basis begin failed b h) = is-failed c w basis begin b failed h
