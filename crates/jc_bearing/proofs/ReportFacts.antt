-- What the node does to a pod, and a bound on the pods that are made for a Job.
use Rattle.std.proofs.Common.{◌≡◌, ℕ, zero, suc, ◌+◌, ◌≤◌, Bool, true, false, not, cond, ◌&&◌, List, [], ◌∷◌, ◌++◌, map, filter, find, Option, Some, None, is_some, refl, sym, ap, ◌∙◌, subst, arith, true≢false, eqb-true}
use Rattle.std.specs.List.{AllByRecursion as Each}
use Rattle.std.specs.Option.{option_map_or, unwrap_or}
use Rattle.std.proofs.Math.Bool.{and-false}
use Rattle.std.proofs.lemmas.Bool.{and_parts, cond-false, not-true}
use Rattle.std.proofs.lemmas.Option.{same_Some as some_is}
use Rattle.jc_types.proofs.KeyFacts.{same_key-eq, same_uid-eq}
use Rattle.jc_types.proofs.ListFacts.{Each-filter, Each-passes, Each-weaker, filter_swap, find_each, find_passes}
use Rattle.jc_types.specs.declared.objects.KeyNames.{KeyNames as Key}
use Rattle.jc_types.specs.Keys.{same_key, same_uid}
use Rattle.jc_types.specs.Equality.{same_phase}
use Rattle.jc_types.specs.declared.actions.ContainerChange.{ContainerChange}
use Rattle.jc_types.specs.declared.actions.End.{End}
use Rattle.jc_types.specs.declared.numbers.Uid.{Uid}
use Rattle.jc_types.specs.declared.objects.Entry.{Entry}
use Rattle.jc_types.specs.declared.objects.Entry.TheVariants.{PodPut, PodGone}
use Rattle.jc_types.specs.declared.objects.Job.{Job}
use Rattle.jc_types.specs.declared.objects.Phase.TheVariants.{Pending, Running}
use Rattle.jc_types.specs.declared.objects.Pod.{Pod}
use Rattle.jc_types.specs.declared.replies.Reply.{Reply}
use Rattle.jc_types.specs.declared.replies.Reply.TheVariants as reply
use Rattle.jc_types.specs.declared.runs.Shape.{Shape}
use Rattle.jc_states.specs.Bases.{is_own, own_pods}
use Rattle.jc_states.specs.Pods.{goes, is_final, is_marked, is_tracked}
use Rattle.jc_states.specs.PodLists.{IsRising, RisesFrom, drop_pod}
use Rattle.jc_states.proofs.PodListFacts.{among_none, drop-absent, pod_among, rises-found, rises_filter}
use Rattle.jc_log.specs.Log.{is_never, life, made_for, pod_in, pods_in, pods_under}
use Rattle.jc_log.specs.Acts as does
use Rattle.jc_log.specs.Deeds.{Deed}
use Rattle.jc_log.specs.Requests.{Answered, grown, is_unnamed, pod_entry, refused, report_phase_at, report_phase_gives, report_unless, same_course_of, with_report}
use Rattle.jc_log.proofs.PodFacts.{living-live, pods_in-among, pods_in-rises}
use Rattle.jc_runs.specs.Replies.{gives, log_given, node_gives}
use Rattle.jc_making.specs.Making.{IsCounted, creations_left}
use Rattle.jc_making.specs.Nodes.{NodeAct, act_on, change_by, end_at, fate, node_step, pod_end}
use Rattle.jc_making.proofs.NodeFacts.{gone, node-falls}
use Rattle.jc_making.proofs.NodeSteps.{Befalls, node-step-befalls}
use Rattle.jc_bearing.specs.AtMost.{pods_at_most}
use Rattle.jc_bearing.proofs.TrackFacts.{put-replaced, replaced}

-- ---- one pod among others

-- The pod stands among them; there it is written again, or it goes.
pub record Among (new pod : Pod) (pods : List Pod) : Type 0 where
  pub front : List Pod
  pub back : List Pod
  pub are : pods ≡ front ++ pod ∷ back
  pub put : map (replaced new) pods ≡ front ++ new ∷ back
  pub drop : drop_pod new.uid pods ≡ front ++ back

-- A pod of the UID is that one.
abbrev pub Only : Uid → Pod → List Pod → Type 0
Only u pod pods = Each (λ (q : Pod). same_uid q.uid u ≡ true → q ≡ pod) pods

-- Where none has the UID, all stay.
none-same : (new : Pod) (pods : List Pod) → pod_among new.uid pods ≡ None → map (replaced new) pods ≡ pods
none-same new [] h = refl
none-same new (q ∷ pods) h = by (same_uid q.uid new.uid) refl h (none-same new pods)
  where
    by : (s : Bool) → same_uid q.uid new.uid ≡ s → cond s (Some q) (pod_among new.uid pods) ≡ None → (pod_among new.uid pods ≡ None → map (replaced new) pods ≡ pods) → map (replaced new) (q ∷ pods) ≡ q ∷ pods
    by true s g more = absurd (true≢false (ap is_some g))
    by false s g more = (λ i. cond-false (same_uid q.uid new.uid) new q s i ∷ more g i)

pub splits : (new pod : Pod) (low : ℕ) (pods : List Pod) → RisesFrom low pods → Only new.uid pod pods → is_some (pod_among new.uid pods) ≡ true → Among new pod pods
splits new pod low [] rises only there = absurd (true≢false (sym there))
splits new pod low (q ∷ pods) rises only there = by (same_uid q.uid new.uid) refl there (splits new pod (q.uid.0 + 1) pods rises.1 only.1)
  where
    by : (s : Bool) → same_uid q.uid new.uid ≡ s → is_some (cond s (Some q) (pod_among new.uid pods)) ≡ true → (is_some (pod_among new.uid pods) ≡ true → Among new pod pods) → Among new pod (q ∷ pods)
    by true s g more =
        let is = only.0 s in
        let none = among_none (q.uid.0 + 1) new.uid pods (let same = eqb-true q.uid.0 new.uid.0 s in omega (arith, same)) rises.1 in
        record {
          front = [];
          back = pods;
          are = ap (λ p. p ∷ pods) is;
          put = (λ i. cond (s i) new q ∷ none-same new pods none i);
          drop = ap (λ b. cond (not b) (q ∷ drop_pod new.uid pods) (drop_pod new.uid pods)) s ∙ drop-absent new.uid pods none;
        }
    by false s g more =
        let m = more g in
        record {
          front = q ∷ m.front;
          back = m.back;
          are = ap (λ l. q ∷ l) m.are;
          put = (λ i. cond (s i) new q ∷ m.put i);
          drop = ap (λ b. cond (not b) (q ∷ drop_pod new.uid pods) (drop_pod new.uid pods)) s ∙ ap (λ l. q ∷ l) m.drop;
        }

-- A pod that is written again passes where it did.
filter-replaced : (test : Pod → Bool) (new : Pod) (pods : List Pod) → Each (λ (q : Pod). same_uid q.uid new.uid ≡ true → test new ≡ test q) pods → filter test (map (replaced new) pods) ≡ map (replaced new) (filter test pods)
filter-replaced test new [] h = refl
filter-replaced test new (q ∷ pods) h = by (same_uid q.uid new.uid) refl (test q) refl (filter-replaced test new pods h.1)
  where
    by : (s : Bool) → same_uid q.uid new.uid ≡ s → (t : Bool) → test q ≡ t → filter test (map (replaced new) pods) ≡ map (replaced new) (filter test pods)
        → filter test (cond s new q ∷ map (replaced new) pods) ≡ map (replaced new) (cond t (q ∷ filter test pods) (filter test pods))
    by true s true t ih =
        ap (λ b. cond b (new ∷ filter test (map (replaced new) pods)) (filter test (map (replaced new) pods))) (h.0 s ∙ t)
        ∙ (λ i. cond (sym s i) new q ∷ ih i)
    by true s false t ih = ap (λ b. cond b (new ∷ filter test (map (replaced new) pods)) (filter test (map (replaced new) pods))) (h.0 s ∙ t) ∙ ih
    by false s true t ih =
        ap (λ b. cond b (q ∷ filter test (map (replaced new) pods)) (filter test (map (replaced new) pods))) t
        ∙ (λ i. cond (sym s i) new q ∷ ih i)
    by false s false t ih = ap (λ b. cond b (q ∷ filter test (map (replaced new) pods)) (filter test (map (replaced new) pods))) t ∙ ih

filter-drops : (test : Pod → Bool) (u : Uid) (pods : List Pod) → filter test (drop_pod u pods) ≡ drop_pod u (filter test pods)
filter-drops test u pods = filter_swap test (λ (pod : Pod). not (same_uid pod.uid u)) pods

-- ---- what the node does

-- Where no ends are said none comes.
none-said : (serial : ℕ) → end_at serial [] ≡ None
none-said zero = refl
none-said (suc n) = refl

-- A bound on pods of a Job, by how many were made and by its own pods: nothing that the node does to one of these raises it,
-- and a pod without its finalizer counts for nothing.
pub record NodeKeeps (ends : List End) (job : Job) (bound : ℕ → List Pod → ℕ) : Type 0 where
  pub acts : (fates : Key → Option (List End)) (made : ℕ) (front back : List Pod) (log : List Entry) (pod : Pod) (act : NodeAct) → IsCounted job (front ++ pod ∷ back)
      → pod_end fates pod ≡ end_at pod.serial ends → act_on fates pod ≡ Some act
      → bound made (front ++ with_report log pod (change_by pod act) ∷ back) ≤ bound made (front ++ pod ∷ back)
  pub gone : (made : ℕ) (front back : List Pod) (pod : Pod) → is_tracked pod ≡ false → bound made (front ++ pod ∷ back) ≡ bound made (front ++ back)

-- The bound at a log.
abbrev pub bound_in : (ℕ → List Pod → ℕ) → Job → List Entry → ℕ
bound_in bound job log = bound (made_for job.uid log) (own_pods job (pods_under job.key log))

module _ (bound : ℕ → List Pod → ℕ) (fates : Key → Option (List End)) (ends : List End) (log : List Entry) (job : Job) (keeps : NodeKeeps ends job bound) (pod : Pod) (act : NodeAct)
    (there : pod_in pod.uid log ≡ Some pod)
    (counted : IsCounted job (own_pods job (pods_under job.key log))) (fated : unwrap_or (fates job.key) [] ≡ ends) (befalls : act_on fates pod ≡ Some act) where
  abbrev new : Pod
  new = with_report log pod (change_by pod act)

  abbrev is_under : Pod → Bool
  is_under q = same_key q.owner job.key

  abbrev own : List Pod
  own = own_pods job (pods_under job.key log)

  own-rises : IsRising (own_pods job (pods_under job.key log))
  own-rises = rises_filter 0 (is_own job) (pods_under job.key log) (rises_filter 0 is_under (pods_in log) (pods_in-rises log))

  pub all-only : Only pod.uid pod (pods_in log)
  all-only =
      Each-weaker (λ (q : Pod). pod_among q.uid (pods_in log) ≡ Some q) (λ (q : Pod). same_uid q.uid pod.uid ≡ true → q ≡ pod)
      (λ q at same. some_is q pod (sym at ∙ ap (λ u. pod_among u (pods_in log)) (same_uid-eq q.uid pod.uid same) ∙ pods_in-among pod.uid log ∙ there)) (pods_in log) (rises-found 0 (pods_in log) (pods_in-rises log))

  under-only : Only pod.uid pod (pods_under job.key log)
  under-only = Each-filter (λ (q : Pod). same_uid q.uid pod.uid ≡ true → q ≡ pod) is_under (pods_in log) all-only

  own-only : Only pod.uid pod (own_pods job (pods_under job.key log))
  own-only = Each-filter (λ (q : Pod). same_uid q.uid pod.uid ≡ true → q ≡ pod) (is_own job) (pods_under job.key log) under-only

  -- The own pods then.
  put-own : own_pods job (pods_under job.key (PodPut new ∷ log)) ≡ map (replaced new) (own_pods job (pods_under job.key log))
  put-own =
      ap (λ pods. own_pods job (filter is_under pods)) (put-replaced 0 new (pods_in log) (pods_in-rises log) (ap is_some (pods_in-among pod.uid log ∙ there)))
      ∙ ap (own_pods job) (filter-replaced is_under new (pods_in log)
      (Each-weaker (λ (q : Pod). same_uid q.uid pod.uid ≡ true → q ≡ pod)
      (λ (q : Pod). same_uid q.uid pod.uid ≡ true → is_under new ≡ is_under q)
      (λ q is same. ap is_under (sym (is same))) (pods_in log) all-only))
      ∙ filter-replaced (is_own job) new (pods_under job.key log)
      (Each-weaker (λ (q : Pod). same_uid q.uid pod.uid ≡ true → q ≡ pod)
      (λ (q : Pod). same_uid q.uid pod.uid ≡ true → is_own job new ≡ is_own job q)
      (λ q is same. ap (is_own job) (sym (is same))) (pods_under job.key log) under-only)

  gone-own : own_pods job (pods_under job.key (PodGone new ∷ log)) ≡ drop_pod pod.uid (own_pods job (pods_under job.key log))
  gone-own = ap (own_pods job) (filter-drops is_under pod.uid (pods_in log)) ∙ filter-drops (is_own job) pod.uid (pods_under job.key log)

  abbrev left : List Pod → ℕ
  left pods = bound (made_for job.uid log) pods

  -- It is none of them.
  module _ (none : pod_among pod.uid (own_pods job (pods_under job.key log)) ≡ None) where
    none-more : (b : Bool) → bound (made_for job.uid log) (own_pods job (pods_under job.key (cond b (PodGone new) (PodPut new) ∷ log))) ≤ bound (made_for job.uid log) (own_pods job (pods_under job.key log))
    none-more true = let same = ap left (gone-own ∙ drop-absent pod.uid (own_pods job (pods_under job.key log)) none) in omega (arith, same)
    none-more false = let same = ap left (put-own ∙ none-same new (own_pods job (pods_under job.key log)) none) in omega (arith, same)

  -- It is one of them.
  module _ (some : is_some (pod_among pod.uid (own_pods job (pods_under job.key log))) ≡ true) (mine : same_key pod.owner job.key ≡ true) where
    at : Among new pod (own_pods job (pods_under job.key log))
    at = splits new pod 0 (own_pods job (pods_under job.key log)) own-rises own-only some

    ended-by : (o : Option (List End)) → unwrap_or o [] ≡ ends → option_map_or (end_at pod.serial) o None ≡ end_at pod.serial ends
    ended-by None is = sym (none-said pod.serial) ∙ ap (end_at pod.serial) is
    ended-by (Some said) is = ap (end_at pod.serial) is

    ended : pod_end fates pod ≡ end_at pod.serial ends
    ended =
        ap (λ k. option_map_or (end_at pod.serial) (fates k) None) (same_key-eq pod.owner job.key mine)
        ∙ ended-by (fates job.key) fated

    falls : bound (made_for job.uid log) (at.front ++ new ∷ at.back) ≤ bound (made_for job.uid log) (own_pods job (pods_under job.key log))
    falls =
        subst (λ pods. bound (made_for job.uid log) (at.front ++ new ∷ at.back) ≤ bound (made_for job.uid log) pods) (sym at.are)
        (keeps.acts fates (made_for job.uid log) at.front at.back log pod act (subst (IsCounted job) at.are counted) ended befalls)

    some-more : (b : Bool) → goes new ≡ b → bound (made_for job.uid log) (own_pods job (pods_under job.key (cond b (PodGone new) (PodPut new) ∷ log)))
        ≤ bound (made_for job.uid log) (own_pods job (pods_under job.key log))
    some-more true goes-now =
        let lost = not-true (is_tracked new) (and_parts (not (is_tracked new)) (is_final new.phase) (and_parts (is_marked new) (not (is_tracked new) && is_final new.phase) goes-now).1).0 in
        let none = keeps.gone (made_for job.uid log) at.front at.back new lost in
        let same = ap left (gone-own ∙ at.drop) in
        omega (arith, falls, none, same)
    some-more false stays = let same = ap left (put-own ∙ at.put) in omega (arith, falls, same)

  made-same : (b : Bool) → made_for job.uid (cond b (PodGone new) (PodPut new) ∷ log) ≡ made_for job.uid log
  made-same true = refl
  made-same false =
      ap (λ l. cond (same_uid pod.owner_uid job.uid && is_never l) (made_for job.uid log + 1) (made_for job.uid log)) (living-live (life pod.uid log) pod there)
      ∙ ap (λ b. cond b (made_for job.uid log + 1) (made_for job.uid log)) (and-false (same_uid pod.owner_uid job.uid))

  pub node-no-more : bound_in bound job (pod_entry new ∷ log) ≤ bound_in bound job log
  node-no-more = by (goes new) refl (pod_among pod.uid (own_pods job (pods_under job.key log))) refl
    where
      mine-of : (q : Pod) → pod_among pod.uid (own_pods job (pods_under job.key log)) ≡ Some q → same_key pod.owner job.key ≡ true
      mine-of q found =
          let passes =
          find_each (λ (p : Pod). same_key p.owner job.key ≡ true) (λ (p : Pod). same_uid p.uid pod.uid) (own_pods job (pods_under job.key log)) q
          (Each-filter (λ (p : Pod). same_key p.owner job.key ≡ true) (is_own job) (pods_under job.key log) (Each-passes (λ (p : Pod). same_key p.owner job.key) (pods_in log))) found in
          let is = find_each (λ (p : Pod). same_uid p.uid pod.uid ≡ true → p ≡ pod) (λ (p : Pod). same_uid p.uid pod.uid) (own_pods job (pods_under job.key log)) q own-only found in
          ap (λ (p : Pod). same_key p.owner job.key) (sym (is (find_passes (λ (p : Pod). same_uid p.uid pod.uid) (own_pods job (pods_under job.key log)) q found))) ∙ passes

      less : (b : Bool) → goes new ≡ b → (o : Option Pod) → pod_among pod.uid (own_pods job (pods_under job.key log)) ≡ o
          → bound (made_for job.uid log) (own_pods job (pods_under job.key (cond b (PodGone new) (PodPut new) ∷ log))) ≤ bound (made_for job.uid log) (own_pods job (pods_under job.key log))
      less b is None found = none-more found b
      less b is (Some q) found = some-more (ap is_some found) (mine-of q found) b is

      by : (b : Bool) → goes new ≡ b → (o : Option Pod) → pod_among pod.uid (own_pods job (pods_under job.key log)) ≡ o → bound_in bound job (cond b (PodGone new) (PodPut new) ∷ log) ≤ bound_in bound job log
      by b is o found =
          let fewer = less b is o found in
          let made = made-same b in
          let all = ap (λ n. bound n (own_pods job (pods_under job.key (cond b (PodGone new) (PodPut new) ∷ log)))) made in
          omega (arith, fewer, all)

-- ---- a deed of the node

module _ (bound : ℕ → List Pod → ℕ) (shape : Shape) (past : List Deed) (d : Deed) (act : d.act ≡ does.Node) (ends : List End) (job : Job) (keeps : NodeKeeps ends job bound) (fated : unwrap_or (fate past job.key) [] ≡ ends)
    (counted : IsCounted job (own_pods job (pods_under job.key (log_given shape past)))) where
  abbrev log : List Entry
  log = log_given shape past

  grew : log_given shape (d ∷ past) ≡ grown (log_given shape past) (node_gives (log_given shape past) (node_step (log_given shape past) (fate past))).entry
  unfolding log_given gives
  grew = ap (λ a. grown (log_given shape past) (gives shape past (log_given shape past) a).entry) act

  -- A report that is refused changes nothing.
  refused-or : (b : Bool) (r : Reply) (a : Answered) → bound_in bound job (grown (log_given shape past) a.entry) ≤ bound_in bound job (log_given shape past)
      → bound_in bound job (grown (log_given shape past) (cond b (refused r) a).entry) ≤ bound_in bound job (log_given shape past)
  refused-or true r a h = omega arith
  refused-or false r a h = h

  reported : (pod : Pod) (what : NodeAct) → Befalls (log_given shape past) (fate past) pod what
      → bound_in bound job (grown (log_given shape past) (report_phase_gives (log_given shape past) pod.uid (change_by pod what)).entry) ≤ bound_in bound job (log_given shape past)
  reported pod what b =
      subst (λ o. bound_in bound job (grown (log_given shape past) (report_phase_at (log_given shape past) (change_by pod what) o).entry) ≤ bound_in bound job (log_given shape past)) (sym b.there)
      (refused-or (is_final pod.phase) (reply.Final pod.phase) _
      (refused-or (same_phase pod.phase Running && same_phase (change_by pod what).phase Pending) (reply.BadStep Running Pending) _
      (unless (find (is_unnamed pod) (change_by pod what).containers))))
    where
      unless : (o : Option ContainerChange) → bound_in bound job (grown (log_given shape past) (report_unless (log_given shape past) pod (change_by pod what) o).entry) ≤ bound_in bound job (log_given shape past)
      unless (Some unnamed) = omega arith
      unless None =
          refused-or (same_course_of pod (with_report (log_given shape past) pod (change_by pod what))) (reply.Unchanged pod.version) _
          (node-no-more bound (fate past) ends (log_given shape past) job keeps pod what b.there counted fated b.acts)

  pub node-bound : bound_in bound job (log_given shape (d ∷ past)) ≤ bound_in bound job (log_given shape past)
  node-bound = subst (λ l. bound_in bound job l ≤ bound_in bound job (log_given shape past)) (sym grew) (by (node_step (log_given shape past) (fate past)) refl)
    where
      by : (o : Option (Pod × NodeAct)) → node_step (log_given shape past) (fate past) ≡ o
          → bound_in bound job (grown (log_given shape past) (node_gives (log_given shape past) o).entry) ≤ bound_in bound job (log_given shape past)
      by None is = omega arith
      by (Some step) is = reported step.0 step.1 (node-step-befalls (log_given shape past) (fate past) step is)

-- ---- pods that are made at most

at-most-kept : (ends : List End) (job : Job) → NodeKeeps ends job (λ made own. made + creations_left ends made job own)
at-most-kept ends job = record {
  acts = λ fates made front back log pod act counted ended befalls. let fewer = node-falls fates ends made job front back log pod counted ended act befalls in omega (arith, fewer);
  gone = λ made front back pod lost. ap (λ n. made + n) (gone ends made job front back pod lost);
}

pub node-turn : (shape : Shape) (past : List Deed) (d : Deed) → d.act ≡ does.Node → (ends : List End) (job : Job) → unwrap_or (fate past job.key) [] ≡ ends
    → IsCounted job (own_pods job (pods_under job.key (log_given shape past))) → pods_at_most ends (log_given shape (d ∷ past)) job ≤ pods_at_most ends (log_given shape past) job
node-turn shape past d act ends job fated counted = node-bound (λ made own. made + creations_left ends made job own) shape past d act ends job (at-most-kept ends job) fated counted
