-- A whole sync that makes no pod leaves each pod within the bound: those of its own Job are marked, where their containers
-- have restarted too often, and keys of others stay in their queues.
use Rattle.std.proofs.Common.{◌≡◌, ◌⊎◌, inl, inr, ℕ, ◌<◌, ◌≤◌, ◌==◌, max, Bool, true, false, cond, not, List, [], ◌∷◌, ◌++◌, filter, length, Option, Some, None, refl, sym, ap, ◌∙◌, subst, arith, true≢false}
use Rattle.std.specs.List.{AllByRecursion as Each}
use Rattle.std.proofs.lemmas.Bool.{and_from, and_parts, false_from_ne_true, not-true}
use Rattle.std.proofs.lemmas.List.{append-nil}
use Rattle.std.proofs.lemmas.Option.{none-some as none_some, same_Some as some_is}
use Rattle.jc_types.proofs.KeyFacts.{same_key-eq, same_key-itself}
use Rattle.jc_types.specs.declared.objects.KeyNames.{KeyNames as Key}
use Rattle.jc_types.specs.Keys.{same_key, same_uid}
use Rattle.jc_types.specs.declared.numbers.Uid.{Uid}
use Rattle.jc_types.specs.declared.objects.Entry.{Entry}
use Rattle.jc_types.specs.declared.objects.Job.{Job}
use Rattle.jc_types.specs.declared.objects.Pod.{Pod}
use Rattle.jc_types.specs.declared.runs.Shape.{Shape}
use Rattle.jc_types.specs.declared.specifications.JobSpec.{JobSpec}
use Rattle.jc_states.specs.Bases.{is_own, own_pods}
use Rattle.jc_states.specs.Pods.{is_active, is_marked, is_open}
use Rattle.jc_states.specs.UidLists.{is_in}
use Rattle.jc_states.specs.declared.bases.Basis.{Basis}
use Rattle.jc_log.specs.Deeds.{Deed}
use Rattle.jc_log.specs.Log.{job_in, pods_in, pods_under}
use Rattle.jc_remaining.specs.Decisions.{restarts_on_failure}
use Rattle.jc_remaining.specs.Plans.{last_status, planned}
use Rattle.jc_runs.specs.Legal.{IsLegal}
use Rattle.jc_restarts.specs.Lines.{is_dirty}
use Rattle.jc_restarts.specs.Notes.{Began}
use Rattle.jc_runs.specs.Replies.{diary, log_given}
use Rattle.jc_settle.specs.Left.{first_restarts}
use Rattle.jc_settle.specs.Settles.{IsCalm, is_on_the_way}
use Rattle.jc_calm.specs.SettleTurns.{BeginsAlone}
use Rattle.jc_calm.proofs.FirstFacts.{begun-notes, seen}
use Rattle.jc_remaining.specs.Served.{AllServed, IsGone, IsRewritten, NonePod, Served}
use Rattle.jc_remaining.specs.Whole.{DoesAll, SawLog}
use Rattle.jc_remaining.proofs.TrackFacts.{rewritten-itself}
use Rattle.jc_remaining.proofs.ServedFacts.{IsOneOf}
use Rattle.jc_restarts.specs.Restarts.{HasItsJob, too_many}
use Rattle.jc_finite.proofs.Within.{AllWithin, IsInQueue, RestartsWithin}
use Rattle.jc_restarts.proofs.LimitFacts.{few-restarts}
use Rattle.jc_restarts.proofs.QueueFacts.{GetsNone, all-stay, run-stays}

-- ---- the queues

-- A key that is not the sync's own stays in the queues that it is in.
pub queue-stays : (shape : Shape) (past : List Deed) → IsLegal shape past → IsCalm shape past → (c w : ℕ) (basis : Basis) (begin : Deed) → BeginsAlone shape past c w basis begin → (run : List Deed) → IsLegal shape (run ++ begin ∷ past)
    → Each (λ (d : Deed). is_on_the_way d.act ≡ true) run → (k : Key) → same_key basis.key k ≡ false → IsInQueue shape past k → IsInQueue shape (run ++ begin ∷ past) k
queue-stays shape past legal calm c w basis begin b run then-legal way k apart q = record {
  controller = q.controller;
  within = q.within;
  dirty = run-stays k shape q.controller run (begin ∷ past) then-legal way begun;
}
  where
    none : (t : Bool) → Each (GetsNone k) (cond t (Began w (seen shape past legal calm begin c w basis.key b.rest b.next b.controller b.worker b.act b.first) ∷ []) [])
    none true = (apart, tt)
    none false = tt

    begun : is_dirty k (diary shape q.controller (begin ∷ past)) ≡ true
    begun =
        ap (is_dirty k) (begun-notes shape past legal calm begin c w basis.key b.rest b.next b.controller b.worker b.act b.first q.controller)
        ∙ all-stay k (cond (c == q.controller) (Began w (seen shape past legal calm begin c w basis.key b.rest b.next b.controller b.worker b.act b.first) ∷ []) []) (diary shape q.controller past) (none (c == q.controller)) q.dirty

-- ---- the Jobs

-- The Job is there as it was, but for its status and its version.
pub record IsStill (log : List Entry) (key : Key) (job : Job) : Type 0 where
  pub now : Job
  pub there : job_in key log ≡ Some now
  pub uid : now.uid ≡ job.uid
  pub spec : now.spec ≡ job.spec

-- So is the sync's own; all others are as they were, and none is new.
pub record JobsStay (log : List Entry) (basis : Basis) (new : List Entry) : Type 0 where
  pub its : (job : Job) → job_in basis.key log ≡ Some job → IsStill new basis.key job
  pub others : (k : Key) → same_key basis.key k ≡ false → job_in k new ≡ job_in k log
  pub none : job_in basis.key log ≡ None → job_in basis.key new ≡ None

pub whole-stay : (log : List Entry) (basis : Basis) (new : List Entry) → SawLog log basis → DoesAll log basis new → JobsStay log basis new
whole-stay log basis new saw all = record {
  its = λ job there. let h = all.its job (saw.job ∙ there) in record { now = record job { version = h.version; status = last_status (planned basis) job.status }; there = h.job_is; uid = refl; spec = refl };
  others = all.others.jobs;
  none = λ none. all.others.none (saw.job ∙ none);
}

pub same-stay : (log : List Entry) (basis : Basis) (new : List Entry) → new ≡ log → JobsStay log basis new
same-stay log basis new same = record {
  its = λ job there. record { now = job; there = ap (job_in basis.key) same ∙ there; uid = refl; spec = refl };
  others = λ k apart. ap (job_in k) same;
  none = λ none. ap (job_in basis.key) same ∙ none;
}

-- What each of the pods has, one of them has.
one-has : (P : Pod → Type 0) (pod : Pod) (pods : List Pod) → IsOneOf pod pods → Each P pods → P pod
one-has P pod [] among all = absurd among
one-has P pod (q ∷ pods) (inl is) all = subst P is all.0
one-has P pod (q ∷ pods) (inr among) all = one-has P pod pods among all.1

abbrev FewUnlessMarked : Basis → Job → Pod → Type 0
FewUnlessMarked basis job pod = is_active pod ≡ true → is_in pod.uid (planned basis).marks ≡ false → first_restarts pod < too_many job

one-filtered : (test : Pod → Bool) (pod : Pod) (pods : List Pod) → test pod ≡ true → IsOneOf pod pods → IsOneOf pod (filter test pods)
one-filtered test pod [] h among = absurd among
one-filtered test pod (q ∷ pods) h among = by (test q) refl among (one-filtered test pod pods h)
  where
    by : (b : Bool) → test q ≡ b → (q ≡ pod) ⊎ IsOneOf pod pods → (IsOneOf pod pods → IsOneOf pod (filter test pods)) → IsOneOf pod (cond b (q ∷ filter test pods) (filter test pods))
    by true s (inl is) more = inl is
    by true s (inr among) more = inr (more among)
    by false s (inl is) more = absurd (true≢false (sym h ∙ ap test (sym is) ∙ s))
    by false s (inr among) more = more among

module _ (shape : Shape) (past now : List Deed) (basis : Basis) (saw : SawLog (log_given shape past) basis) (stay : JobsStay (log_given shape past) basis (log_given shape now))
    (queues : (k : Key) → same_key basis.key k ≡ false → IsInQueue shape past k → IsInQueue shape now k) (most : ℕ) (kept : AllWithin shape past most) where
  abbrev log : List Entry
  log = log_given shape past

  abbrev new : List Entry
  new = log_given shape now

  -- ---- limits

  limits-then : (key : Key) (job : Job) → job_in key (log_given shape now) ≡ Some job → too_many job ≤ most
  limits-then key job there = by (same_key basis.key key) refl
    where
      own : (o : Option Job) → job_in basis.key log ≡ o → job_in basis.key new ≡ Some job → too_many job ≤ most
      own None none is = absurd (none_some job (sym (stay.none none) ∙ is))
      own (Some old) was is =
          let still = stay.its old was in
          let few = kept.limits basis.key old was in
          let same : job.spec ≡ old.spec = ap (λ (j : Job). j.spec) (some_is job still.now (sym is ∙ still.there)) ∙ still.spec in
          let limit : too_many job ≡ too_many old = ap (λ (spec : JobSpec). max 1 spec.backoff_limit) same in
          omega (arith, few, limit)

      by : (b : Bool) → same_key basis.key key ≡ b → too_many job ≤ most
      by true s = own (job_in basis.key log) refl (ap (λ k. job_in k new) (same_key-eq basis.key key s) ∙ there)
      by false s = kept.limits key job (sym (stay.others key s) ∙ there)

  -- ---- a pod that is left

  module _ (old pod : Pod) (among : IsOneOf old (pods_in (log_given shape past))) (r : IsRewritten old pod) (marked : is_in pod.uid (planned basis).marks ≡ true → is_marked pod ≡ true) (was : RestartsWithin shape past most old)
      (active : is_active pod ≡ true) (policy : restarts_on_failure pod.restart ≡ true) (its : HasItsJob (log_given shape now) pod) where
    parts : (is_open pod ≡ true) × (not (is_marked pod) ≡ true)
    parts = and_parts (is_open pod) (not (is_marked pod)) active

    owner : pod.owner ≡ old.owner
    owner = ap (λ (p : Pod). p.owner) r.rest

    restarts-are : first_restarts pod ≡ first_restarts old
    restarts-are = ap first_restarts r.rest

    old-active : is_active old ≡ true
    old-active =
        and_from (is_open old) (not (is_marked old)) (sym (ap is_open r.rest) ∙ parts.0)
        (ap not (false_from_ne_true (is_marked old) (λ h. true≢false (sym (r.marked h) ∙ not-true (is_marked pod) parts.1))))

    old-policy : restarts_on_failure old.restart ≡ true
    old-policy = sym (ap (λ (p : Pod). restarts_on_failure p.restart) r.rest) ∙ policy

    not-marked : is_in old.uid (planned basis).marks ≡ false
    not-marked =
        sym (ap (λ (p : Pod). is_in p.uid (planned basis).marks) r.rest)
        ∙ false_from_ne_true (is_in pod.uid (planned basis).marks) (λ h. true≢false (sym (marked h) ∙ not-true (is_marked pod) parts.1))

    -- Its Job is the sync's own.
    own-within : same_key basis.key pod.owner ≡ true → first_restarts pod < most
    own-within same = by (job_in basis.key log) refl
      where
        at-key : basis.key ≡ pod.owner
        at-key = same_key-eq basis.key pod.owner same

        by : (o : Option Job) → job_in basis.key log ≡ o → first_restarts pod < most
        by None none = absurd (none_some its.job (sym (stay.none none) ∙ ap (λ k. job_in k new) at-key ∙ its.there))
        by (Some job) there =
            let few = one-has (FewUnlessMarked basis job) old (own_pods job basis.pods) mine (few-restarts basis job (saw.job ∙ there) on-failure) old-active not-marked in
            let limit = kept.limits basis.key job there in
            let same-restarts = restarts-are in
            omega (arith, few, limit, same-restarts)
          where
            still : IsStill (log_given shape now) basis.key job
            still = stay.its job there

            job-is : its.job ≡ still.now
            job-is = some_is its.job still.now (sym its.there ∙ ap (λ k. job_in k new) (sym at-key) ∙ still.there)

            is-mine : is_own job old ≡ true
            is-mine = sym ((λ i. same_uid (ap (λ (p : Pod). p.owner_uid) r.rest i) ((ap (λ (j : Job). j.uid) job-is ∙ still.uid) i))) ∙ its.own

            on-failure : restarts_on_failure job.spec.template.restart ≡ true
            on-failure = ap (λ (spec : JobSpec). restarts_on_failure spec.template.restart) (sym (ap (λ (j : Job). j.spec) job-is ∙ still.spec)) ∙ ap restarts_on_failure its.policy ∙ policy

            mine : IsOneOf old (own_pods job basis.pods)
            mine =
                subst (λ pods. IsOneOf old (own_pods job pods)) (sym saw.pods)
                (one-filtered (is_own job) old (pods_under basis.key log) is-mine
                (one-filtered (λ (p : Pod). same_key p.owner basis.key) old (pods_in log) (ap (λ q. same_key q basis.key) (sym owner ∙ sym at-key) ∙ same_key-itself basis.key) among))

    -- It is another's.
    other-within : same_key basis.key pod.owner ≡ false → (first_restarts pod < most) ⊎ IsInQueue shape now pod.owner
    other-within apart = by (was old-active old-policy old-its)
      where
        old-apart : same_key basis.key old.owner ≡ false
        old-apart = ap (same_key basis.key) (sym owner) ∙ apart

        old-its : HasItsJob (log_given shape past) old
        old-its = record {
          job = its.job;
          there = sym (stay.others old.owner old-apart) ∙ ap (λ k. job_in k new) (sym owner) ∙ its.there;
          own = sym (ap (λ (p : Pod). same_uid p.owner_uid its.job.uid) r.rest) ∙ its.own;
          policy = its.policy ∙ ap (λ (p : Pod). p.restart) r.rest;
        }

        by : (first_restarts old < most) ⊎ IsInQueue shape past old.owner → (first_restarts pod < most) ⊎ IsInQueue shape now pod.owner
        by (inl less) = inl (let same = restarts-are in omega (arith, less, same))
        by (inr q) = inr (subst (IsInQueue shape now) (sym owner) (queues old.owner old-apart q))

    left-within : (first_restarts pod < most) ⊎ IsInQueue shape now pod.owner
    left-within = by (same_key basis.key pod.owner) refl
      where
        by : (b : Bool) → same_key basis.key pod.owner ≡ b → (first_restarts pod < most) ⊎ IsInQueue shape now pod.owner
        by true s = inl (own-within s)
        by false s = other-within s

  -- ---- all that are left

  within-served : (olds news : List Pod) → ((pod : Pod) → IsOneOf pod olds → IsOneOf pod (pods_in (log_given shape past))) → Each (RestartsWithin shape past most) olds → AllServed (planned basis) olds news → Each (RestartsWithin shape now most) news
  within-served [] [] some was NonePod = tt
  within-served [] (pod ∷ news) some was h = elim h [ ]
  within-served (old ∷ olds) (pod ∷ news) some was (Served _ _ _ _ r served rest) = (
    λ active policy its. left-within old pod (some old (inl refl)) r served.marked was.0 active policy its,
    within-served olds news (λ q among. some q (inr among)) was.1 rest,
  )
  within-served (old ∷ olds) news some was (IsGone _ _ _ freed rest) = within-served olds news (λ q among. some q (inr among)) was.1 rest

  -- Where the log is as it was.
  within-same : (pods : List Pod) → ((u : Uid) → is_in u (planned basis).marks ≡ false) → ((pod : Pod) → IsOneOf pod pods → IsOneOf pod (pods_in (log_given shape past)))
      → Each (RestartsWithin shape past most) pods → Each (RestartsWithin shape now most) pods
  within-same [] none some was = tt
  within-same (pod ∷ pods) none some was = (
    λ active policy its. left-within pod pod (some pod (inl refl)) (rewritten-itself pod) (λ h. absurd (true≢false (sym h ∙ none pod.uid))) was.0 active policy its,
    within-same pods none (λ q among. some q (inr among)) was.1,
  )

  pub sync-within : DoesAll (log_given shape past) basis (log_given shape now) → (planned basis).creates ≡ [] → AllWithin shape now most
  sync-within all none = record {
    limits = limits-then;
    pods = subst (Each (RestartsWithin shape now most)) (sym no-fresh) (within-served (pods_in log) all.all.after (λ q among. among) kept.pods all.all.served);
  }
    where
      no-fresh : pods_in (log_given shape now) ≡ all.all.after
      no-fresh = all.all.parts ∙ by all.all.fresh (all.all.count ∙ ap length none)
        where
          by : (fresh : List Pod) → length fresh ≡ 0 → all.all.after ++ fresh ≡ all.all.after
          by [] is = append-nil all.all.after
          by (pod ∷ fresh) is = absurd (omega (arith, is))

  pub find-within : log_given shape now ≡ log_given shape past → ((u : Uid) → is_in u (planned basis).marks ≡ false) → AllWithin shape now most
  find-within same none = record {
    limits = limits-then;
    pods = subst (λ l. Each (RestartsWithin shape now most) (pods_in l)) (sym same) (within-same (pods_in log) none (λ q among. among) kept.pods);
  }
