-- What the node does to a pod is written, and leaves less of all pods.
use Rattle.std.proofs.Common.{◌≡◌, ℕ, ◌+◌, ◌<◌, Bool, true, false, not, cond, ◌&&◌, List, [], ◌∷◌, map, pos, ℤ, find, Option, Some, None, is_none, is_some, refl, sym, ap, ◌∙◌, arith, true≢false}
use Rattle.std.specs.List.{AllByRecursion as Each, cons_option, filter_map, list_any}
use Rattle.std.specs.Ordering.{int_eq}
use Rattle.std.specs.Option.{option_map, option_to_list}
use Rattle.std.specs.Cmp.Lexicographic.{pointwise}
use Rattle.std.proofs.lemmas.Bool.{and_parts, false_from_ne_true, or_left, or_right}
use Rattle.std.proofs.lemmas.Option.{same_Some as some_is}
use Rattle.std.specs.Cmp.Lexicographic.{pointwise_decides}
use Rattle.jc_types.proofs.EqualityFacts.{containers-exact, nat-exact}
use Rattle.jc_types.proofs.KeyFacts.{same_uid-eq}
use Rattle.jc_types.proofs.ListFacts.{Each-weaker}
use Rattle.jc_types.specs.declared.objects.KeyNames.{KeyNames as Key}
use Rattle.jc_types.specs.Keys.{same_uid}
use Rattle.jc_types.specs.Equality.{same_container, same_pattern, same_phase, same_text}
use Rattle.jc_types.specs.declared.actions.ContainerChange.{ContainerChange}
use Rattle.jc_types.specs.declared.actions.End.{End}
use Rattle.jc_types.specs.declared.objects.Container.{Container}
use Rattle.jc_types.specs.declared.objects.Entry.{Entry}
use Rattle.jc_types.specs.declared.objects.Entry.TheVariants.{PodPut, PodGone}
use Rattle.jc_types.specs.declared.objects.Phase.{Phase}
use Rattle.jc_types.specs.declared.objects.Phase.TheVariants.{Pending, Running, Succeeded, Failed}
use Rattle.jc_types.specs.declared.objects.Pod.{Pod}
use Rattle.jc_types.specs.declared.replies.Reply.TheVariants as reply
use Rattle.jc_types.specs.declared.runs.Shape.{Shape}
use Rattle.jc_types.specs.declared.runs.Sys.{Sys}
use Rattle.jc_states.specs.Pods.{goes, is_final, is_marked, is_pending}
use Rattle.jc_states.specs.PodLists.{drop_pod}
use Rattle.jc_states.proofs.PodListFacts.{pod_among, rises-found}
use Rattle.jc_log.specs.Acts as does
use Rattle.jc_log.specs.Deeds.{Deed, act_of_system}
use Rattle.jc_log.specs.Log.{next_version, pod_in, pods_in}
use Rattle.jc_log.specs.Requests.{accepted, grown, refused, is_unnamed, named, pod_entry, report_phase_at, report_unless, same_course_of, with_report}
use Rattle.jc_log.proofs.PodFacts.{pods_in-among, pods_in-rises}
use Rattle.jc_retries.specs.Nodes.{Again, Finish, NodeAct, Start, Stop, act_with, change_by, exits, fate, first_container, killed, node_step, once_more, pod_end, with_exit}
use Rattle.jc_runs.specs.Replies.{gives, log_given, node_gives}
use Rattle.jc_runs.specs.Legal.{IsLegal}
use Rattle.jc_settle.specs.Comes.{Acts, Begins, Comes, Delivers, Lists, Steps, Ticks}
use Rattle.jc_settle.specs.Left.{ComesTo, pod_left}
use Rattle.jc_settle.specs.Settles.{next_of_settle}
use Rattle.jc_settle.proofs.ComesFacts.{first-comes}
use Rattle.jc_settle.proofs.OnFacts.{next-is}
use Rattle.jc_calm.specs.SettleTurns.{is_node}
use Rattle.jc_settle.proofs.LeftFacts.{node-lowers}
use Rattle.jc_retries.proofs.NodeSteps.{Befalls, node-step-befalls}
use Rattle.jc_bearing.proofs.ReportFacts.{Among, Only, splits}
use Rattle.jc_bearing.proofs.TrackFacts.{put-replaced}
use Rattle.jc_remaining.specs.Remaining.{all_left}
use Rattle.jc_remaining.proofs.Sums.{left-among, left-append}

-- ---- it names containers of the pod alone

module _ (all : List Container) where
  abbrev IsNamed : ContainerChange → Type 0
  IsNamed change = list_any (named change.name) all ≡ true

  abbrev HasName : Container → Type 0
  HasName container = list_any (named container.name) all ≡ true

  killed-named : (cs : List Container) → Each HasName cs → Each IsNamed (filter_map killed cs)
  killed-named [] h = tt
  killed-named (c ∷ cs) h = by (not c.init && is_none c.exit) (killed-named cs h.1)
    where
      by : (b : Bool) → Each IsNamed (filter_map killed cs) → Each IsNamed (cons_option (cond b (Some (with_exit (pos 143) c)) None) (filter_map killed cs))
      by true rest = (h.0, rest)
      by false rest = rest

  all-exit : (exit : ℤ) (cs : List Container) → Each HasName cs → Each IsNamed (map (with_exit exit) cs)
  all-exit exit [] h = tt
  all-exit exit (c ∷ cs) h = (h.0, all-exit exit cs h.1)

  exits-named : (exit : ℤ) (cs : List Container) → Each HasName cs → Each IsNamed (exits exit cs)
  exits-named exit [] h = tt
  exits-named exit (c ∷ cs) h = by c.init (exits-named exit cs h.1)
    where
      by : (b : Bool) → Each IsNamed (exits exit cs) → Each IsNamed (cond b (with_exit (pos 0) c ∷ exits exit cs) (with_exit exit c ∷ map (with_exit (pos 0)) cs))
      by true rest = (h.0, rest)
      by false rest = (h.0, all-exit (pos 0) cs h.1)

  first-named : (cs : List Container) → Each HasName cs → Each IsNamed (option_to_list (option_map once_more (first_container cs)))
  first-named [] h = tt
  first-named (c ∷ cs) h = (h.0, tt)

same-text-itself : (name : List ℕ) → same_text name name ≡ true
same-text-itself name = (pointwise_decides nat-exact name name).1 refl

have-names : (cs : List Container) → Each (HasName cs) cs
have-names [] = tt
have-names (c ∷ cs) = (
  or_left (same_text c.name c.name) (list_any (named c.name) cs) (same-text-itself c.name),
  Each-weaker (HasName cs) (HasName (c ∷ cs)) (λ d h. or_right (same_text c.name d.name) (list_any (named d.name) cs) h) cs (have-names cs),
)

module _ (pod : Pod) where
  all-named : (act : NodeAct) → Each (IsNamed pod.containers) (change_by pod act).containers
  all-named Stop = by (is_pending pod.phase)
    where
      by : (b : Bool) → Each (IsNamed pod.containers) (cond b [] (filter_map killed pod.containers))
      by true = tt
      by false = killed-named pod.containers pod.containers (have-names pod.containers)
  all-named Start = tt
  all-named Again = first-named pod.containers pod.containers (have-names pod.containers)
  all-named (Finish end) = exits-named pod.containers end.exit pod.containers (have-names pod.containers)

  none-unnamed : (changes : List ContainerChange) → Each (IsNamed pod.containers) changes → find (is_unnamed pod) changes ≡ None
  none-unnamed [] h = refl
  none-unnamed (change ∷ changes) h = ap (λ b. cond (not b) (Some change) (find (is_unnamed pod) changes)) h.0 ∙ none-unnamed changes h.1

  -- It never goes back.
  never-back : (act : NodeAct) → (same_phase pod.phase Running && same_phase (change_by pod act).phase Pending) ≡ false
  never-back act = by (same_phase pod.phase Running) (onward act)
    where
      either : (b : Bool) → same_phase (cond b Succeeded Failed) Pending ≡ false
      either true = refl
      either false = refl

      onward : (act : NodeAct) → same_phase (change_by pod act).phase Pending ≡ false
      onward Stop = refl
      onward Start = refl
      onward Again = refl
      onward (Finish end) = either (int_eq end.exit (pos 0))

      by : (b : Bool) {t : Bool} → t ≡ false → (b && t) ≡ false
      by true h = h
      by false h = refl

-- ---- it is written

same-phase-eq : (a b : Phase) → same_phase a b ≡ true → a ≡ b
same-phase-eq Pending Pending h = refl
same-phase-eq Pending other h = absurd (true≢false (sym h))
same-phase-eq Running Running h = refl
same-phase-eq Running other h = absurd (true≢false (sym h))
same-phase-eq Succeeded Succeeded h = refl
same-phase-eq Succeeded other h = absurd (true≢false (sym h))
same-phase-eq Failed Failed h = refl
same-phase-eq Failed other h = absurd (true≢false (sym h))

module _ (most : ℕ) (fates : Key → Option (List End)) (log : List Entry) (pod : Pod) (act : NodeAct) (befalls : Befalls log fates pod act) (comes : ComesTo most fates pod) where
  abbrev new : Pod
  new = with_report log pod (change_by pod act)

  pub less-left : pod_left most fates new < pod_left most fates pod
  less-left = node-lowers most fates log pod comes act befalls.acts

  -- What is left of it is not the same, so it is not the same course.
  not-same : same_course_of pod (with_report log pod (change_by pod act)) ≡ false
  not-same =
      false_from_ne_true (same_course_of pod new)
      (λ same.
      let parts = and_parts (same_phase pod.phase new.phase) (pointwise same_container pod.containers new.containers && pointwise same_pattern pod.conditions new.conditions) same in
      let phase = same-phase-eq pod.phase new.phase parts.0 in
      let containers = (containers-exact pod.containers new.containers).0 (and_parts (pointwise same_container pod.containers new.containers) (pointwise same_pattern pod.conditions new.conditions) parts.1).0 in
      let left : pod_left most fates pod ≡ pod_left most fates new = (λ i. pod_left most fates (record pod { phase = phase i; containers = containers i })) in
      let less = less-left in omega (arith, left, less))

  opened : is_final pod.phase ≡ false
  opened = by (is_final pod.phase) befalls.acts
    where
      by : (b : Bool) → cond (not (not b)) None (cond (is_marked pod) (Some Stop) (act_with pod (pod_end fates pod))) ≡ Some act → b ≡ false
      by true h = absurd (true≢false (sym (ap is_some h)))
      by false h = refl

  pub written : (report_phase_at log (change_by pod act) (pod_in pod.uid log)).entry ≡ Some (pod_entry (with_report log pod (change_by pod act)))
  written =
      ap (λ o. (report_phase_at log (change_by pod act) o).entry) befalls.there
      ∙ (λ i. (cond (opened i) (refused (reply.Final pod.phase)) (cond (never-back pod act i) (refused (reply.BadStep Running Pending))
      (report_unless log pod (change_by pod act) (none-unnamed pod (change_by pod act).containers (all-named pod act) i)))).entry)
      ∙ (λ i. (cond (not-same i) (refused (reply.Unchanged pod.version)) (accepted (reply.Written (next_version log)) (pod_entry (with_report log pod (change_by pod act))))).entry)

  -- ---- less is left

  all-only : Only pod.uid pod (pods_in log)
  all-only =
      Each-weaker (λ (q : Pod). pod_among q.uid (pods_in log) ≡ Some q) (λ (q : Pod). same_uid q.uid pod.uid ≡ true → q ≡ pod)
      (λ q at same. some_is q pod (sym at ∙ ap (λ u. pod_among u (pods_in log)) (same_uid-eq q.uid pod.uid same) ∙ pods_in-among pod.uid log ∙ befalls.there)) (pods_in log) (rises-found 0 (pods_in log) (pods_in-rises log))

  found : is_some (pod_among pod.uid (pods_in log)) ≡ true
  found = ap is_some (pods_in-among pod.uid log ∙ befalls.there)

  at : Among (with_report log pod (change_by pod act)) pod (pods_in log)
  at = splits (with_report log pod (change_by pod act)) pod 0 (pods_in log) (pods_in-rises log) all-only found

  pub pods-less : all_left most fates (pods_in (pod_entry (with_report log pod (change_by pod act)) ∷ log)) < all_left most fates (pods_in log)
  pods-less = by (goes new)
    where
      was : all_left most fates (pods_in log) ≡ all_left most fates at.front + pod_left most fates pod + all_left most fates at.back
      was = ap (all_left most fates) at.are ∙ left-among most fates at.front at.back pod

      by : (b : Bool) → all_left most fates (pods_in (cond b (PodGone new) (PodPut new) ∷ log)) < all_left most fates (pods_in log)
      by true =
          let now : all_left most fates (drop_pod pod.uid (pods_in log)) ≡ all_left most fates at.front + all_left most fates at.back = ap (all_left most fates) at.drop ∙ left-append most fates at.front at.back in
          let old = was in let less = less-left in omega (arith, now, old, less)
      by false =
          let now : all_left most fates (pods_in (PodPut new ∷ log)) ≡ all_left most fates at.front + pod_left most fates new + all_left most fates at.back =
          ap (all_left most fates) (put-replaced 0 new (pods_in log) (pods_in-rises log) found ∙ at.put) ∙ left-among most fates at.front at.back new in
          let old = was in let less = less-left in omega (arith, now, old, less)

-- ---- a deed of the node

-- A pod that something befalls, and what is written of it.
pub record NodeWrites (shape : Shape) (past : List Deed) (d : Deed) : Type 0 where
  pub pod : Pod
  pub act : NodeAct
  pub befalls : Befalls (log_given shape past) (fate past) pod act
  pub log_is : (most : ℕ) → ComesTo most (fate past) pod → log_given shape (d ∷ past) ≡ pod_entry (with_report (log_given shape past) pod (change_by pod act)) ∷ log_given shape past

module _ (shape : Shape) (past : List Deed) (legal : IsLegal shape past) (some : 0 < shape.workers) (d : Deed) (e : next_of_settle shape past ≡ Some d) (a : d.act ≡ does.Node) where
  abbrev log : List Entry
  log = log_given shape past

  -- The settle's next deed is the node's only where something befalls a pod.
  steps : (x : Sys) → Comes shape past log x → is_node (act_of_system x) ≡ true → is_some (node_step log (fate past)) ≡ true
  steps x (Lists c kind lt is n) h = absurd (true≢false (sym h ∙ ap (λ y. is_node (act_of_system y)) is))
  steps x (Delivers c kind version lt is n less) h = absurd (true≢false (sym h ∙ ap (λ y. is_node (act_of_system y)) is))
  steps x (Steps up c w begun lt less is r) h = absurd (true≢false (sym h ∙ ap (λ y. is_node (act_of_system y)) is))
  steps x (Begins up free c w k rest lt is l) h = absurd (true≢false (sym h ∙ ap (λ y. is_node (act_of_system y)) is))
  steps x (Acts up free keys step is s) h = ap is_some s
  steps x (Ticks up free keys none due is l) h = absurd (true≢false (sym h ∙ ap (λ y. is_node (act_of_system y)) is))

  has-step : is_some (node_step log (fate past)) ≡ true
  has-step = let x = next-is shape past d e in steps x.comes (first-comes shape past x.comes legal some x.first) (ap is_node (ap (λ (y : Deed). y.act) x.is ∙ a))

  grew : log_given shape (d ∷ past) ≡ grown (log_given shape past) (node_gives (log_given shape past) (node_step (log_given shape past) (fate past))).entry
  unfolding log_given gives
  grew = ap (λ act. grown (log_given shape past) (gives shape past (log_given shape past) act).entry) a

  pub node-writes : NodeWrites shape past d
  node-writes = by (node_step log (fate past)) refl has-step
    where
      by : (o : Option (Pod × NodeAct)) → node_step log (fate past) ≡ o → is_some o ≡ true → NodeWrites shape past d
      by None is h = absurd (true≢false (sym h))
      by (Some step) is h = record {
        pod = step.0;
        act = step.1;
        befalls = node-step-befalls log (fate past) step is;
        log_is = λ most comes.
            grew
            ∙ ap (λ o. grown log (node_gives log o).entry) is
            ∙ ap (grown log) (written most (fate past) log step.0 step.1 (node-step-befalls log (fate past) step is) comes);
      }
