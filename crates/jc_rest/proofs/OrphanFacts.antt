-- No orphan is left at rest: a sync that saw the last entry of the pod, and the last one of a Job of its owner's key,
-- has the pod released; so it does not end before the pod has lost its finalizer.
use Rattle.std.proofs.Common.{◌≡◌, ℕ, suc, ◌≤◌, ◌<◌, ◌==◌, nat_le, nat_lt, Bool, true, false, cond, not, ◌&&◌, ◌||◌, List, [], ◌∷◌, find, length, map, Option, Some, None, is_some, option_and_then, refl, sym, ap, ◌∙◌, subst, arith, eqb-true}
use Rattle.std.proofs.Common.{le-leb, ltb-true, true≢false, ◌⊎◌, inl, inr}
use Rattle.std.specs.List.{list_any}
use Rattle.std.specs.Option.{option_map_or, unwrap_or}
use Rattle.std.proofs.lemmas.Bool.{and_from, cases_lt, ltb-false, or_left, or_right}
use Rattle.jc_control.specs.ControllerCalls.{told}
use Rattle.jc_control.specs.Queued.{has_key}
use Rattle.jc_types.specs.declared.actions.Fault.{Fault}
use Rattle.jc_types.specs.declared.numbers.Uid.{Uid}
use Rattle.jc_types.specs.declared.objects.Entry.{Entry}
use Rattle.jc_types.specs.declared.objects.Entry.TheVariants.{JobPut, JobGone, PodPut, PodGone}
use Rattle.jc_types.specs.declared.objects.Job.{Job}
use Rattle.jc_types.specs.declared.objects.Kind.TheVariants.{Jobs, Pods}
use Rattle.jc_types.specs.declared.objects.Pod.{Pod}
use Rattle.jc_types.specs.declared.runs.Shape.{Shape}
use Rattle.jc_types.specs.declared.objects.KeyNames.{KeyNames as Key}
use Rattle.jc_types.specs.Keys.{same_key, same_uid}
use Rattle.jc_types.proofs.KeyFacts.{same_key-itself, same_uid-itself}
use Rattle.jc_states.specs.Owners.{is_foreign}
use Rattle.jc_states.specs.UidLists.{is_in}
use Rattle.jc_log.specs.Deeds.{Deed}
use Rattle.jc_log.specs.Log.{Gone, Life, Live, entry_at, is_lost, job_in, life, living, pods_in, upto}
use Rattle.jc_log.specs.Writes.{Legal, Stored}
use Rattle.jc_log.proofs.LogFacts.{entry_at-newest, entry_at-older, upto-all, upto-fixed}
use Rattle.jc_log.proofs.PodFacts.{pods_in-among}
use Rattle.jc_log.proofs.WriteFacts.{Stored-from_legal, place_is_version}
use Rattle.jc_plan.specs.Plans.{planned}
use Rattle.jc_plan.specs.Releases.{due_uids, is_orphan, is_owed, is_released}
use Rattle.jc_plan.proofs.OrderFacts.{plan-released}
use Rattle.jc_sync.specs.Ask.{Ask}
use Rattle.jc_sync.specs.Flight.{Flight}
use Rattle.jc_sync.specs.Flights.{Flies}
use Rattle.jc_sync.specs.SyncPlaces.{IsAt}
use Rattle.jc_sync.specs.AllRegisters.{WritesShow}
use Rattle.jc_sync.specs.Steps.{stepped_at}
use Rattle.jc_history.specs.Available.{is_quiescent}
use Rattle.jc_history.specs.Diaries.{listed_keys, notes}
use Rattle.jc_history.specs.Legal.{IsLegal}
use Rattle.jc_history.specs.Replies.{log_given}
use Rattle.jc_history.proofs.LegalFacts.{legal-fit}
use Rattle.jc_order.specs.Rest.{HasNothingToDo}
use Rattle.jc_order.specs.Restless.{AllEndRestless, HasCacheSeen}
use Rattle.jc_order.proofs.ForgetFacts.{never-begins, notes-none}
use Rattle.jc_order.proofs.LastFacts.{last_told, last-job, last-within, tells}
use Rattle.jc_order.proofs.RestFacts.{at-rest}
use Rattle.jc_order.proofs.RestlessFacts.{not-busy}
use Rattle.jc_order.proofs.RetryFacts.{all-well, none-retried}
use Rattle.jc_history.specs.Registers.{register}
use Rattle.jc_runs.specs.Machines.{AllAskValid}
use Rattle.jc_runs.proofs.LegalRuns.{legal_run}
use Rattle.jc_rest.specs.Both.{FailsAfter}
use Rattle.jc_rest.specs.Orphans.{is_about, is_sure_of, last_about}
use Rattle.jc_rest.proofs.EndFacts.{all-released, fails-unless, found-kept}
use Rattle.jc_rest.proofs.HistoryFacts.{Stay, StoodEarlier, all-fail}
use Rattle.jc_rest.proofs.AddFacts.{added-busy}

-- ---- the last entry of the pod

-- The entry that put the pod, and since which it stands so.
record LastPut (u : Uid) (pod : Pod) (log : List Entry) : Type 0 where
  from : ℕ
  within : from ≤ length log
  is : entry_at from log ≡ Some (PodPut pod)
  stays : (n : ℕ) → from ≤ n → n ≤ length log → life u (upto n log) ≡ Live pod

further : (u : Uid) (pod : Pod) (e : Entry) (older : List Entry) → life u (e ∷ older) ≡ Live pod → LastPut u pod older → LastPut u pod (e ∷ older)
further u pod e older its last = record {
  from = last.from;
  within = let w = last.within in omega (arith, w);
  is = entry_at-older last.from e older last.within ∙ last.is;
  stays = λ n low high. by n low (cases_lt (length older) n);
}
  where
    by : (n : ℕ) → last.from ≤ n → (length older < n) ⊎ (n ≤ length older) → life u (upto n (e ∷ older)) ≡ Live pod
    by n low (inl lt) = ap (life u) (upto-all n (e ∷ older) (omega (arith, lt))) ∙ its
    by n low (inr le) = ap (life u) (upto-fixed n e older le) ∙ last.stays n low le

abbrev is-live : Life → Bool
is-live (Live pod) = true
is-live other = false

abbrev pod-of : Pod → Life → Pod
pod-of other (Live pod) = pod
pod-of other rest = other

last-put : (u : Uid) (pod : Pod) (log : List Entry) → life u log ≡ Live pod → LastPut u pod log
last-put u pod [] its = absurd (true≢false (sym (ap is-live its)))
last-put u pod (PodPut new ∷ older) its = by (same_uid new.uid u) its (last-put u pod older)
  where
    by : (b : Bool) → cond b (Live new) (life u older) ≡ Live pod → (life u older ≡ Live pod → LastPut u pod older) → LastPut u pod (PodPut new ∷ older)
    by true e more = record {
      from = suc (length older);
      within = omega arith;
      is = entry_at-newest (PodPut new) older ∙ ap (λ l. Some (PodPut (pod-of pod l))) e;
      stays = λ n low high. ap (life u) (upto-all n (PodPut new ∷ older) (omega (arith, low))) ∙ its;
    }
    by false e more = further u pod (PodPut new) older its (more e)
last-put u pod (PodGone gone ∷ older) its = by (same_uid gone.uid u) its (last-put u pod older)
  where
    by : (b : Bool) → cond b Gone (life u older) ≡ Live pod → (life u older ≡ Live pod → LastPut u pod older) → LastPut u pod (PodGone gone ∷ older)
    by true e more = absurd (true≢false (sym (ap is-live e)))
    by false e more = further u pod (PodGone gone) older its (more e)
last-put u pod (JobPut job ∷ older) its = further u pod (JobPut job) older its (last-put u pod older its)
last-put u pod (JobGone job ∷ older) its = further u pod (JobGone job) older its (last-put u pod older its)

-- ---- the last entry that is about it

about-told : (pod : Pod) (e : Entry) → tells Jobs pod.owner e ≡ true → is_about pod e ≡ true
about-told pod (JobPut job) h = h
about-told pod (JobGone job) h = h
about-told pod (PodPut new) h = absurd (true≢false (sym h))
about-told pod (PodGone new) h = absurd (true≢false (sym h))

about-within : (pod : Pod) (log : List Entry) → last_about pod log ≤ length log
about-within pod [] = omega arith
about-within pod (e ∷ older) = by (is_about pod e) (about-within pod older)
  where
    by : (a : Bool) → last_about pod older ≤ length older → cond a (suc (length older)) (last_about pod older) ≤ suc (length older)
    by true ih = omega arith
    by false ih = omega (arith, ih)

-- It is no earlier than the last one that a cache of Jobs tells under the key of its owner.
told-before : (pod : Pod) (log : List Entry) → last_told Jobs pod.owner log ≤ last_about pod log
told-before pod [] = omega arith
told-before pod (e ∷ older) = by (tells Jobs pod.owner e) refl (is_about pod e) refl (told-before pod older) (last-within Jobs pod.owner older)
  where
    by : (t : Bool) → tells Jobs pod.owner e ≡ t → (a : Bool) → is_about pod e ≡ a → last_told Jobs pod.owner older ≤ last_about pod older → last_told Jobs pod.owner older ≤ length older
        → cond t (suc (length older)) (last_told Jobs pod.owner older) ≤ cond a (suc (length older)) (last_about pod older)
    by true s true i ih le = omega arith
    by true s false i ih le = absurd (true≢false (sym (about-told pod e s) ∙ i))
    by false s true i ih le = omega (arith, le)
    by false s false i ih le = ih

-- Nor than the one that put the pod.
put-before : (pod : Pod) (v : ℕ) (log : List Entry) → entry_at v log ≡ Some (PodPut pod) → v ≤ last_about pod log
put-before pod v [] e = absurd (true≢false (sym (ap is_some e)))
put-before pod v (new ∷ older) e = by (suc (length older) == v) refl (is_about pod new) refl e (put-before pod v older)
  where
    about : (o : Option Entry) → o ≡ Some (PodPut pod) → option_map_or (is_about pod) o false ≡ true
    about o h = ap (λ o. option_map_or (is_about pod) o false) h ∙ same_uid-itself pod.uid

    by : (t : Bool) → (suc (length older) == v) ≡ t → (a : Bool) → is_about pod new ≡ a → cond t (Some new) (entry_at v older) ≡ Some (PodPut pod) → (entry_at v older ≡ Some (PodPut pod) → v ≤ last_about pod older)
        → v ≤ cond a (suc (length older)) (last_about pod older)
    by true s true i e ih = let same = eqb-true (suc (length older)) v s in omega (arith, same)
    by true s false i e ih = absurd (true≢false (sym (about (Some new) e) ∙ i))
    by false s true i e ih = let le = ih e in let most = about-within pod older in omega (arith, le, most)
    by false s false i e ih = ih e

-- ---- a sync that saw both

-- From version a on the Job of the key is this or none, and from version b on the pod is there as it is now.
pub record IsLeft (k : Key) (o : Option Job) (pod : Pod) (a b : ℕ) (log : List Entry) : Type 0 where
  pub jobs : (n : ℕ) → a ≤ n → n ≤ length log → job_in k (upto n log) ≡ o
  pub pods : (n : ℕ) → b ≤ n → n ≤ length log → life pod.uid (upto n log) ≡ Live pod

left-older : (k : Key) (o : Option Job) (pod : Pod) (a b : ℕ) → StoodEarlier (IsLeft k o pod a b)
left-older k o pod a b e log h = record {
  jobs = λ n low high. ap (job_in k) (sym (upto-fixed n e log high)) ∙ h.jobs n low (omega (arith, high));
  pods = λ n low high. ap (life pod.uid) (sym (upto-fixed n e log high)) ∙ h.pods n low (omega (arith, high));
}

-- What is found passes some test with its UID.
any-found : (test : Pod → Bool) (u : Uid) (pods : List Pod) (pod : Pod) → find (λ (p : Pod). same_uid p.uid u) pods ≡ Some pod → test pod ≡ true
    → list_any (λ p. test p && same_uid p.uid u) pods ≡ true
any-found test u [] pod e h = absurd (true≢false (sym (ap is_some e)))
any-found test u (p ∷ pods) pod e h = by (same_uid p.uid u) refl e (any-found test u pods pod)
  where
    by : (b : Bool) → same_uid p.uid u ≡ b → cond b (Some p) (find (λ (p : Pod). same_uid p.uid u) pods) ≡ Some pod
        → (find (λ (p : Pod). same_uid p.uid u) pods ≡ Some pod → test pod ≡ true → list_any (λ p. test p && same_uid p.uid u) pods ≡ true)
        → ((test p && same_uid p.uid u) || list_any (λ p. test p && same_uid p.uid u) pods) ≡ true
    by true s e ih =
        or_left (test p && same_uid p.uid u) (list_any (λ p. test p && same_uid p.uid u) pods)
        (and_from (test p) (same_uid p.uid u) (ap test (ap (λ o. unwrap_or o p) e) ∙ h) s)
    by false s e ih = or_right (test p && same_uid p.uid u) (list_any (λ p. test p && same_uid p.uid u) pods) (ih e h)

module _ (k : Key) (o : Option Job) (pod : Pod) (a b : ℕ) (owner : pod.owner ≡ k) (foreign : is_foreign o pod ≡ true) (tracked : pod.tracked ≡ true) (seen : pod.version.0 ≤ a)
    (log : List Entry) (stored : Stored log) (left : IsLeft k o pod a b log) (now : ℕ) (flight : Flight) (flies : Flies log flight)
    (named : flight.basis.key ≡ k) (jobs : a ≤ flight.basis.jobs_at.0) (pods : b ≤ flight.basis.pods_at.0) where
  whole : upto (length log) log ≡ log
  whole = upto-all (length log) log (omega arith)

  saw : flight.basis.job ≡ o
  saw = flies.basis.job ∙ ap (λ q. job_in q (upto flight.basis.jobs_at.0 log)) named ∙ left.jobs flight.basis.jobs_at.0 jobs flies.basis.jobs_at

  as-is : flight.basis.job ≡ job_in k log
  as-is = saw ∙ sym (ap (job_in k) (sym whole) ∙ left.jobs (length log) (let le = flies.basis.jobs_at in omega (arith, jobs, le)) (omega arith))

  found : find (λ (p : Pod). same_uid p.uid pod.uid) flight.basis.pods ≡ Some pod
  found =
      ap (find (λ (p : Pod). same_uid p.uid pod.uid)) flies.basis.pods
      ∙ found-kept (λ p. same_uid p.uid pod.uid) (λ p. same_key p.owner flight.basis.key) (pods_in (upto flight.basis.pods_at.0 log)) pod
      (ap (same_key pod.owner) (named ∙ sym owner) ∙ same_key-itself pod.owner)
      (pods_in-among pod.uid (upto flight.basis.pods_at.0 log) ∙ ap living (left.pods flight.basis.pods_at.0 pods flies.basis.pods_at))

  orphan : is_orphan flight.basis pod ≡ true
  orphan =
      and_from pod.tracked (is_foreign flight.basis.job pod && nat_le pod.version.0 flight.basis.jobs_at.0) tracked
      (and_from (is_foreign flight.basis.job pod) (nat_le pod.version.0 flight.basis.jobs_at.0) (ap (λ j. is_foreign j pod) saw ∙ foreign)
      (le-leb pod.version.0 flight.basis.jobs_at.0 (omega (arith, seen, jobs))))

  due : is_in pod.uid (planned flight.basis).releases ≡ true
  due =
      plan-released pod.uid flight.basis
      ∙ any-found (is_released flight.basis) pod.uid flight.basis.pods pod found
      (or_right (is_owed (due_uids flight.basis.job flight.basis.pods) pod) (is_orphan flight.basis pod) orphan)

  held : is_lost (life pod.uid log) ≡ false
  held =
      ap is_lost (ap (life pod.uid) (sym whole) ∙ left.pods (length log) (let le = flies.basis.pods_at in omega (arith, pods, le)) (omega arith))
      ∙ ap not tracked

  never-ends : IsAt flight [] → WritesShow log flight [] → ⊥
  never-ends at wrote = true≢false (sym (flies.released pod.uid (all-released flight at pod.uid due)) ∙ held)

  pub orphan-fails : (pending : Option Fault) (asks : List Ask) → IsAt flight asks → WritesShow log flight asks → FailsAfter (stepped_at now pending log flight asks).reply
  orphan-fails = fails-unless k log now flight named as-is never-ends

-- ---- at rest

module _ (stay : Stay) (shape : Shape) (deeds : List Deed) (legal : IsLegal shape deeds) (valid : AllAskValid deeds) (working : 0 < shape.workers)
    (quiet : is_quiescent shape deeds (log_given shape deeds) ≡ true) (c : ℕ) (within : c < shape.controllers)
    (pod : Pod) (lives : life pod.uid (log_given shape deeds) ≡ Live pod) (gone : is_foreign (job_in pod.owner (log_given shape deeds)) pod ≡ true)
    (sure : is_sure_of pod (last_about pod (log_given shape deeds)) (notes shape c deeds (log_given shape deeds)) ≡ true) where
  stored : Stored (log_given shape deeds)
  stored = let m = legal_run stay shape deeds legal valid in Stored-from_legal (log_given shape deeds) (subst Legal m.run.log_is m.run.syncs.tied.legal)

  put : LastPut pod.uid pod (log_given shape deeds)
  put = last-put pod.uid pod (log_given shape deeds) lives

  version : pod.version.0 ≡ put.from
  version = place_is_version put.from (log_given shape deeds) (PodPut pod) stored put.is

  version-by : pod.version.0 ≤ last_about pod (log_given shape deeds)
  version-by = let le = put-before pod put.from (log_given shape deeds) put.is in omega (arith, le, version)

  left : IsLeft pod.owner (job_in pod.owner (log_given shape deeds)) pod (last_about pod (log_given shape deeds)) put.from (log_given shape deeds)
  left = record {
    jobs = λ n low high. last-job pod.owner (log_given shape deeds) n (let le = told-before pod (log_given shape deeds) in omega (arith, le, low)) high;
    pods = put.stays;
  }

  well : pod.tracked ≡ true → AllEndRestless pod.owner (last_about pod (log_given shape deeds)) put.from (notes shape c deeds (log_given shape deeds))
  well tracked =
      all-well pod.owner (last_about pod (log_given shape deeds)) (last_about pod (log_given shape deeds)) put.from (omega arith) (notes shape c deeds (log_given shape deeds))
      (all-fail stay shape pod.owner (last_about pod (log_given shape deeds)) put.from
      (IsLeft pod.owner (job_in pod.owner (log_given shape deeds)) pod (last_about pod (log_given shape deeds)) put.from)
      (left-older pod.owner (job_in pod.owner (log_given shape deeds)) pod (last_about pod (log_given shape deeds)) put.from)
      (orphan-fails pod.owner (job_in pod.owner (log_given shape deeds)) pod (last_about pod (log_given shape deeds)) put.from refl gone tracked version-by)
      c deeds legal valid left)
      (none-retried pod.owner (last_about pod (log_given shape deeds)) shape c deeds legal (told-before pod (log_given shape deeds)))

  -- A list of the pods has the key of its owner, and a delivery of its last entry adds it.
  lists : (n : ℕ) → put.from ≤ n → n ≤ length (log_given shape deeds) → has_key pod.owner (listed_keys Pods (upto n (log_given shape deeds))) ≡ true
  lists n low high = among pod (pods_in (upto n (log_given shape deeds))) (pods_in-among pod.uid (upto n (log_given shape deeds)) ∙ ap living (put.stays n low high))
    where
      among : (pod : Pod) (pods : List Pod) → find (λ (p : Pod). same_uid p.uid pod.uid) pods ≡ Some pod → has_key pod.owner (map (λ (p : Pod). p.owner) pods) ≡ true
      among pod [] e = absurd (true≢false (sym (ap is_some e)))
      among pod (p ∷ pods) e = by (same_uid p.uid pod.uid) e (among pod pods)
        where
          by : (t : Bool) → cond t (Some p) (find (λ (p : Pod). same_uid p.uid pod.uid) pods) ≡ Some pod → (find (λ (p : Pod). same_uid p.uid pod.uid) pods ≡ Some pod → has_key pod.owner (map (λ (p : Pod). p.owner) pods) ≡ true)
              → (same_key pod.owner p.owner || has_key pod.owner (map (λ (p : Pod). p.owner) pods)) ≡ true
          by true e ih =
              or_left (same_key pod.owner p.owner) (has_key pod.owner (map (λ (p : Pod). p.owner) pods))
              (ap (λ o. same_key pod.owner (unwrap_or o p).owner) e ∙ same_key-itself pod.owner)
          by false e ih = or_right (same_key pod.owner p.owner) (has_key pod.owner (map (λ (p : Pod). p.owner) pods)) (ih e)

  tells-it : option_and_then (told Pods) (entry_at put.from (log_given shape deeds)) ≡ Some pod.owner
  tells-it = ap (option_and_then (told Pods)) put.is

  free : (w : ℕ) → register w (notes shape c deeds (log_given shape deeds)) ≡ None
  free w = by (nat_lt w shape.workers) refl
    where
      by : (t : Bool) → nat_lt w shape.workers ≡ t → register w (notes shape c deeds (log_given shape deeds)) ≡ None
      by true s = ((at-rest shape deeds legal working quiet).each c within).registers w (ltb-true w shape.workers s)
      by false s = never-begins w _ (notes-none shape w (ltb-false w shape.workers s) c deeds (log_given shape deeds) legal)

  pub orphan-released : pod.tracked ≡ false
  orphan-released = by pod.tracked refl
    where
      idle : HasNothingToDo (notes shape c deeds (log_given shape deeds)) (log_given shape deeds) shape.workers
      idle = (at-rest shape deeds legal working quiet).each c within

      by : (t : Bool) → pod.tracked ≡ t → pod.tracked ≡ false
      by false t = t
      by true t =
          absurd (not-busy pod.owner (last_about pod (log_given shape deeds)) put.from (notes shape c deeds (log_given shape deeds)) (legal-fit shape c deeds legal) idle.line free idle.delays
          (added-busy pod (last_about pod (log_given shape deeds)) put.from shape c deeds legal lists tells-it (well t) sure
          (subst (λ o. HasCacheSeen o put.from) (sym (idle.caches Pods)) put.within)))
