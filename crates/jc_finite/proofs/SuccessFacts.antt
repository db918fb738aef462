-- What each end has, that of a pod has; and what is so of the deeds of a settle, of its pods and their containers.
use Rattle.std.proofs.Common.{◌≡◌, ℕ, zero, suc, ◌+◌, ◌-◌, ◌^◌, ◌<◌, ◌≤◌, true, false, List, [], ◌∷◌, ◌++◌, map, length, Option, Some, None, is_some, IfSome, slice_get, refl, sym, ◌∙◌, subst, arith, true≢false}
use Rattle.std.specs.List.{AllByRecursion as Each}
use Rattle.std.specs.Option.{option_map_or, option_or, unwrap_or}
use Rattle.std.proofs.lemmas.Option.{none-some as none_some}
use Rattle.jc_types.specs.declared.actions.End.{End}
use Rattle.jc_types.specs.declared.objects.Container.{Container}
use Rattle.jc_types.specs.declared.objects.Entry.{Entry}
use Rattle.jc_types.specs.declared.objects.Job.{Job}
use Rattle.jc_types.specs.declared.objects.Pod.{Pod}
use Rattle.jc_types.specs.declared.runs.Shape.{Shape}
use Rattle.jc_types.specs.declared.specifications.JobSpec.{JobSpec}
use Rattle.jc_log.specs.Deeds.{Deed, act_of_system}
use Rattle.jc_log.specs.Log.{pod_in, pods_in}
use Rattle.jc_log.specs.Requests.{new_container}
use Rattle.jc_log.proofs.PodFacts.{pods_in-among}
use Rattle.jc_runs.specs.Machines.{AllAskValid, AsksValid}
use Rattle.jc_runs.specs.Replies.{log_given}
use Rattle.jc_settle.specs.Settles.{next_of_settle, settled_on, with_next}
use Rattle.jc_remaining.specs.Making.{fails}
use Rattle.jc_remaining.specs.Nodes.{fate, end_at, first_container, last_end, pod_end}
use Rattle.jc_remaining.specs.Remaining.{ends_of}
use Rattle.jc_types.proofs.ListFacts.{Each-weaker, find_each}
use Rattle.jc_types.specs.declared.objects.KeyNames.{KeyNames as Key}
use Rattle.jc_types.specs.Keys.{same_uid}
use Rattle.jc_types.specs.declared.runs.Sys.{Sys}
use Rattle.jc_types.specs.declared.runs.Sys.TheVariants as sys
use Rattle.jc_types.specs.declared.specifications.Restart.{Restart}
use Rattle.jc_log.specs.Acts as does
use Rattle.jc_log.specs.Acts.{Act}
use Rattle.jc_counted.proofs.KeptFacts.{AreKept, MayAct, pods-kept}
use Rattle.jc_counted.proofs.PolicyFacts.{CreatesSuch, pods-have}
use Rattle.jc_settle.proofs.OnFacts.{next-is}
use Rattle.jc_remaining.specs.Decisions.{restarts_on_failure}
use Rattle.jc_restarts.specs.Restarts.{most_restarts, deletes}
use Rattle.jc_restarts.proofs.CountFacts.{pod-restarted, settle-few}
use Rattle.jc_finite.specs.Finite.{EndInTheEnd, FillsACount, RestartsEnd, SucceedAll, SucceedAlways, SucceedInTheEnd}

-- ---- what each end has, that of a pod has

module _ (P : End → Type 0) where
  last-has : (ends : List End) → Each P ends → IfSome (last_end ends) P
  last-has [] h = tt
  last-has (end ∷ ends) h = by (last_end ends) (last-has ends h.1)
    where
      by : (o : Option End) → IfSome o P → IfSome (option_or o (Some end)) P
      by None rest = h.0
      by (Some last) rest = rest

  nth-has : (ends : List End) (n : ℕ) → Each P ends → IfSome (slice_get ends n) P
  nth-has [] zero h = tt
  nth-has [] (suc n) h = tt
  nth-has (end ∷ ends) zero h = h.0
  nth-has (end ∷ ends) (suc n) h = nth-has ends n h.1

  at-has : (ends : List End) (n : ℕ) → Each P ends → IfSome (end_at n ends) P
  at-has ends n h = by (slice_get ends n) (nth-has ends n h) (last_end ends) (last-has ends h)
    where
      by : (o : Option End) → IfSome o P → (p : Option End) → IfSome p P → IfSome (option_or o p) P
      by None here p rest = rest
      by (Some end) here p rest = here

  pub pod-has : (fates : Key → Option (List End)) (pod : Pod) → Each P (ends_of fates pod.owner) → (end : End) → pod_end fates pod ≡ Some end → P end
  pod-has fates pod = by (fates pod.owner)
    where
      by : (o : Option (List End)) → Each P (unwrap_or o []) → (end : End) → option_map_or (end_at pod.serial) o None ≡ Some end → P end
      by None all end is = absurd (none_some end is)
      by (Some ends) all end is = subst (λ o. IfSome o P) is (at-has ends pod.serial all)

abbrev pub Succeeds : End → Type 0
Succeeds end = (fails end ≡ false) × (end.restarts ≤ 2 ^ 32 - 1)

abbrev pub CountsIfNone : End → Type 0
CountsIfNone end = fails end ≡ false → end.restarts ≤ 2 ^ 32 - 1

-- What each of the pods of a log has, one that is found has.
pub pod-found-has : (Q : Pod → Type 0) (log : List Entry) (pod : Pod) → Each Q (pods_in log) → pod_in pod.uid log ≡ Some pod → Q pod
pod-found-has Q log pod all there = find_each Q (λ (p : Pod). same_uid p.uid pod.uid) (pods_in log) pod all (pods_in-among pod.uid log ∙ there)

-- ---- the deeds of a settle

-- What is so of all that the system does of itself is so of the deeds of a settle, if it was before.
module _ (shape : Shape) (Q : Act → Type 0) (system : (x : Sys) → Q (act_of_system x)) where
  pub each-on : (n : ℕ) (past : List Deed) → Each (λ (d : Deed). Q d.act) past → Each (λ (d : Deed). Q d.act) (settled_on shape n past)
  each-on zero past h = h
  each-on (suc n) past h = each-on n (with_next (next_of_settle shape past) past) (by (next_of_settle shape past) refl)
    where
      by : (o : Option Deed) → next_of_settle shape past ≡ o → Each (λ (d : Deed). Q d.act) (with_next o past)
      by None e = h
      by (Some d) e = let x = next-is shape past d e in (subst (λ (y : Deed). Q y.act) x.is (system x.comes), h)

-- None deletes a Job.
pub none-deletes : (key : Key) (x : Sys) → deletes key (act_of_system x) ≡ false
none-deletes key (sys.List c kind) = refl
none-deletes key (sys.Deliver c kind) = refl
none-deletes key (sys.Begin c w) = refl
none-deletes key (sys.Step c w) = refl
none-deletes key sys.Node = refl
none-deletes key (sys.Clock add) = refl

-- ---- the containers of a pod

abbrev HasContainers : Job → Type 0
HasContainers job = 0 < length job.spec.template.containers

abbrev pub HasOne : Pod → Type 0
HasOne pod = is_some (first_container pod.containers) ≡ true

abbrev MakesSome : Key → JobSpec → Type 0
MakesSome key spec = 0 < length spec.template.containers

new-some : (names : List (List ℕ)) (more : List Container) → 0 < length names → is_some (first_container (map (new_container false) names ++ more)) ≡ true
new-some [] more some = absurd (omega (arith, some))
new-some (name ∷ names) more some = refl

still-some : (change : Container → Container) (cs : List Container) → is_some (first_container cs) ≡ true → is_some (first_container (map change cs)) ≡ true
still-some change [] h = h
still-some change (c ∷ cs) h = refl

containers-kept : AreKept HasContainers HasOne MakesSome
containers-kept = record {
  created = λ log key spec now may. may;
  updated = λ log job change h. h;
  stated = λ log basis job current status saw h there is. there;
  made = λ log job index now h. new-some job.spec.template.containers _ h;
  marked = λ log pod now h. h;
  freed = λ log pod h. h;
  reported = λ log pod change h. still-some _ pod.containers h;
}

pub pods-some : (shape : Shape) (deeds : List Deed) → AllAskValid deeds → Each HasOne (pods_in (log_given shape deeds))
pods-some shape deeds valid =
    pods-kept HasContainers HasOne MakesSome containers-kept shape deeds
    (Each-weaker (λ (d : Deed). AsksValid d.act) (λ (d : Deed). MayAct HasContainers HasOne MakesSome containers-kept d.act) (λ d. may d.act) deeds valid)
  where
    may : (act : Act) → AsksValid act → MayAct HasContainers HasOne MakesSome containers-kept act
    may (does.Create key spec) h = h.some
    may other h = tt

-- A container that has restarted as often as is counted has come to that by so many reports and deeds.
pub late-out : (shape : Shape) (past : List Deed) (out : FillsACount shape past) → 2 ^ 32 - 1 ≤ most_restarts past + out.events
late-out shape past out =
    let full = out.full in
    let few = pod-restarted shape (settled_on shape out.events past) out.pod out.there in
    let more = settle-few shape out.events past in
    omega (arith, full, few, more)

-- ---- where no container restarts for ever

module _ (shape : Shape) (past : List Deed) (ends : EndInTheEnd past) where
  abbrev EndsWell : Key → Restart → Type 0
  EndsWell key restart = restarts_on_failure restart ≡ true → SucceedAll (ends_of (fate past) key)

  system-ends : (x : Sys) → RestartsEnd (fate past) (act_of_system x)
  system-ends (sys.List c kind) = tt
  system-ends (sys.Deliver c kind) = tt
  system-ends (sys.Begin c w) = tt
  system-ends (sys.Step c w) = tt
  system-ends sys.Node = tt
  system-ends (sys.Clock add) = tt

  end-such : (act : Act) → RestartsEnd (fate past) act → CreatesSuch EndsWell act
  end-such (does.Create key spec) h = h
  end-such other h = tt

  -- So none restarts as often as is counted.
  pub never-out : FillsACount shape past → ⊥
  never-out out = true≢false (sym out.failing ∙ (pod-has Succeeds (fate past) out.pod (well out.policy) out.end out.fated).0)
    where
      have : Each (λ (pod : Pod). EndsWell pod.owner pod.restart) (pods_in (log_given shape (settled_on shape out.events past)))
      have =
          pods-have EndsWell shape (settled_on shape out.events past)
          (Each-weaker (λ (d : Deed). RestartsEnd (fate past) d.act) (λ (d : Deed). CreatesSuch EndsWell d.act) (λ d. end-such d.act) (settled_on shape out.events past)
          (each-on shape (RestartsEnd (fate past)) system-ends out.events past ends.restarts))

      well : EndsWell out.pod.owner out.pod.restart
      well = pod-found-has (λ (pod : Pod). EndsWell pod.owner pod.restart) (log_given shape (settled_on shape out.events past)) out.pod have out.there

-- ---- where each end is a success

module _ (past : List Deed) (always : SucceedAlways past) where
  all-ends : (key : Key) → SucceedAll (ends_of (fate past) key)
  all-ends key = by (fate past key) refl
    where
      by : (o : Option (List End)) → fate past key ≡ o → SucceedAll (unwrap_or o [])
      by None is = tt
      by (Some ends) is = always key ends is

  each-restarts : (deeds : List Deed) → Each (λ (d : Deed). RestartsEnd (fate past) d.act) deeds
  each-restarts [] = tt
  each-restarts (d ∷ deeds) = (by d.act, each-restarts deeds)
    where
      by : (act : Act) → RestartsEnd (fate past) act
      by (does.Create key spec) = λ policy. all-ends key
      by other = tt

  pub always-enough : SucceedInTheEnd past
  always-enough = record {
    lasts = λ key. by (last_end (ends_of (fate past) key)) (last-has Succeeds (ends_of (fate past) key) (all-ends key));
    restarts = each-restarts past;
  }
    where
      by : (o : Option End) → IfSome o Succeeds → IfSome o (λ end. fails end ≡ false)
      by None h = tt
      by (Some end) h = h.0
