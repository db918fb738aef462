-- Entries that the lists of a Job don't have leave its pods, and the Job of a key, as they were.
use Rattle.std.proofs.Common.{◌≡◌, ℕ, zero, suc, ◌+◌, ◌<◌, ◌≤◌, Bool, true, false, cond, not, ◌||◌, List, [], ◌∷◌, ◌++◌, filter, length, get_or, reverse, take, Some, None, refl, sym, ap, ◌∙◌, subst, arith}
use Rattle.std.specs.List.{AllByRecursion as Each}
use Rattle.std.specs.List.Sorted.{IsNonDecreasingBy}
use Rattle.std.specs.Option.{option_map_or}
use Rattle.std.proofs.lemmas.Bool.{cond-false, both_ways, false_from_ne_true}
use Rattle.std.proofs.lemmas.List.{length-reverse, length-take-le, reverse-append, take_all, take_more, get_or_default}
use Rattle.jc_types.specs.declared.numbers.Uid.{Uid}
use Rattle.jc_types.specs.declared.objects.Entry.{Entry}
use Rattle.jc_types.specs.declared.objects.Entry.TheVariants.{JobPut, JobGone, PodPut, PodGone}
use Rattle.jc_types.specs.declared.objects.Pod.{Pod}
use Rattle.jc_types.specs.declared.objects.KeyNames.{KeyNames as Key}
use Rattle.jc_types.specs.Keys.{same_key, same_uid}
use Rattle.jc_types.proofs.KeyFacts.{same_uid-eq, same_uid-itself}
use Rattle.jc_states.specs.PodLists.{IsRising, drop_pod}
use Rattle.jc_types.proofs.ListFacts.{filter_within}
use Rattle.jc_states.proofs.PodListFacts.{rises_filter}
use Rattle.jc_log.specs.Log.{Live, job_in, life, living, pods_in, pods_of}
use Rattle.jc_log.specs.PlainReadings.{is_about_job, job_put}
use Rattle.jc_log.proofs.PodFacts.{pods_in-rises, pods_of-live, pods_of-owned}
use Rattle.jc_verdicts.specs.LogPlaces.{IsCut, owns, places_where, job_places, touching_places, touches}
use Rattle.jc_failpol.specs.declared.outcomes.Outcome.{Outcome}
use Rattle.jc_verdicts.specs.Verdicts.{HasSeen, before_place, kept_pods, stays}
use Rattle.jc_verdicts.proofs.PlaceLists.{Changes, changes-cut, changes-first, changes-more, changes-next, changes-place, changes-rise}
use Rattle.jc_verdicts.proofs.VerdictPods.{passing-drop, passing-put}

-- A UID that none of the pods has is not taken out.
drop_none : (u : Uid) (pods : List Pod) → Each (λ pod. same_uid pod.uid u ≡ false) pods → drop_pod u pods ≡ pods
drop_none u [] h = refl
drop_none u (q ∷ pods) h =
    ap (λ b. cond (not b) (q ∷ drop_pod u pods) (drop_pod u pods)) h.0 ∙ ap (λ rest. q ∷ rest) (drop_none u pods h.1)

module _ (j u : Uid) (older : List Entry) (other : owns j u older ≡ false) where
  -- None of the Job's pods has the UID.
  not_owned : Each (λ pod. same_uid pod.uid u ≡ false) (pods_of j older)
  not_owned = both (pods_of j older) (pods_of-live j older) (pods_of-owned j older)
    where
      one : (pod : Pod) → life pod.uid older ≡ Live pod → pod.owner_uid ≡ j → same_uid pod.uid u ≡ false
      one pod live own = false_from_ne_true (same_uid pod.uid u) (λ s.
          both_ways (owns j u older) other
          (ap (λ l. option_map_or (λ (p : Pod). same_uid p.owner_uid j) (living l) false) (subst (λ v. life v older ≡ Live pod) (same_uid-eq pod.uid u s) live)
          ∙ ap (λ o. same_uid o j) own ∙ same_uid-itself j))

      both : (pods : List Pod) → Each (λ pod. life pod.uid older ≡ Live pod) pods → Each (λ pod. pod.owner_uid ≡ j) pods → Each (λ pod. same_uid pod.uid u ≡ false) pods
      both [] l o = tt
      both (pod ∷ pods) l o = (one pod l.0 o.0, both pods l.1 o.1)

  -- Where none of the Job's pods has the UID, they stay as it is taken out.
  drop_other : drop_pod u (pods_of j older) ≡ pods_of j older
  drop_other = drop_none u (pods_of j older) not_owned

-- An entry that does not touch the pods of the Job.
pub untouched : (j : Uid) (e : Entry) (older : List Entry) → touches j e older ≡ false → pods_of j (e ∷ older) ≡ pods_of j older
untouched j (JobPut job) older h = refl
untouched j (JobGone job) older h = refl
untouched j (PodPut pod) older h = by (same_uid pod.owner_uid j) refl h
  where
    by : (b : Bool) → same_uid pod.owner_uid j ≡ b → (b || owns j pod.uid older) ≡ false → pods_of j (PodPut pod ∷ older) ≡ pods_of j older
    by true s k = absurd (both_ways true k refl)
    by false s k =
        passing-put (λ p. same_uid p.owner_uid j) pod 0 (pods_in older) (pods_in-rises older)
        ∙ cond-false (same_uid pod.owner_uid j) _ (drop_pod pod.uid (pods_of j older)) s
        ∙ drop_other j pod.uid older k
untouched j (PodGone pod) older h = passing-drop (λ p. same_uid p.owner_uid j) pod.uid (pods_in older) ∙ drop_other j pod.uid older h

-- It does not touch those of them that stay.
pub untouched-kept_pods : (known : List (Uid × Outcome)) (j : Uid) (e : Entry) (older : List Entry) → touches j e older ≡ false → kept_pods known j (e ∷ older) ≡ kept_pods known j older
untouched-kept_pods known j e older h = ap (filter (stays known)) (untouched j e older h)

-- An entry that is not about the Job of the key.
pub not_about : (k : Key) (e : Entry) (older : List Entry) → is_about_job k e ≡ false → job_in k (e ∷ older) ≡ job_in k older
not_about k (JobPut job) older h = cond-false (same_key job.key k) (Some job) (job_in k older) h
not_about k (JobGone job) older h = cond-false (same_key job.key k) None (job_in k older) h
not_about k (PodPut pod) older h = refl
not_about k (PodGone pod) older h = refl

-- An entry that is about it says what it is.
about : (k : Key) (e : Entry) (older : List Entry) → is_about_job k e ≡ true → job_in k (e ∷ older) ≡ job_put e
about k (JobPut job) older h = ap (λ b. cond b (Some job) (job_in k older)) h
about k (JobGone job) older h = ap (λ b. cond b None (job_in k older)) h
about k (PodPut pod) older h = absurd (both_ways false refl h)
about k (PodGone pod) older h = absurd (both_ways false refl h)

-- The first entries and one more.
pub first-more : (log : List Entry) (n : ℕ) (e : Entry) → n < length log → e ≡ get_or log n e → reverse (take (n + 1) log) ≡ e ∷ reverse (take n log)
first-more log n e h is =
    ap reverse (take_more log n e h ∙ ap (λ x. take n log ++ x ∷ []) (sym is)) ∙ reverse-append (take n log) (e ∷ [])

module _ {X : Type 0} (f : List Entry → X) (test : Entry → List Entry → Bool)
    (others : (e : Entry) (older : List Entry) → test e older ≡ false → f (e ∷ older) ≡ f older) where
  -- What is said of the first entries of a log.
  abbrev pub said : List Entry → ℕ → X
  said log n = f (reverse (take n log))

  -- The entry at the place is one of which the test is true.
  abbrev pub Passes : List Entry → ℕ → Type 0
  Passes log n = (e : Entry) → e ≡ get_or log n e → test e (reverse (take n log)) ≡ true

  -- What is said of them changes only at the places of those of which the test is true.
  said_upto : (log : List Entry) (d : Entry) (n : ℕ) → n ≤ length log → Changes (said log) (Passes log) 0 n (places_where test (reverse (take n log)))
  said_upto log d zero h = (omega arith, λ m low high. let e : m ≡ 0 = omega (arith, high) in ap (said log) e)
  said_upto log d (suc n) h =
      subst (λ k. Changes (said log) (Passes log) 0 k (places_where test (reverse (take k log)))) next
      (subst (λ es. Changes (said log) (Passes log) 0 (n + 1) (places_where test es)) (sym grows)
      (subst (λ l. Changes (said log) (Passes log) 0 (n + 1) (cond (test e older) (places_where test older ++ l ∷ []) (places_where test older))) (sym long)
      (changes-more (said log) (Passes log) (test e older) 0 n (places_where test older)
      (λ t x is. ap (λ y. test y older) (is ∙ get_or_default log n x e within ∙ sym here) ∙ t)
      (λ t. ap f grows ∙ others e older t) (said_upto log d n (omega (arith, h))))))
    where
      next : n + 1 ≡ suc n
      next = omega arith

      e : Entry
      e = get_or log n d

      older : List Entry
      older = reverse (take n log)

      within : n < length log
      within = omega (arith, h)

      here : e ≡ get_or log n e
      here = get_or_default log n d e within

      grows : reverse (take (n + 1) log) ≡ e ∷ older
      grows = first-more log n e within here

      long : length older ≡ n
      long = length-reverse (take n log) ∙ length-take-le n log (omega (arith, within))

  -- So it is of the whole log.
  said-changes : (log : List Entry) → Changes (said log) (Passes log) 0 (length log) (places_where test (reverse log))
  said-changes [] = (omega arith, λ m low high. let e : m ≡ 0 = omega (arith, high) in ap (said []) e)
  said-changes (d ∷ log) =
      subst (λ es. Changes (said (d ∷ log)) (Passes (d ∷ log)) 0 (length (d ∷ log)) (places_where test (reverse es))) (take_all (length (d ∷ log)) (d ∷ log) (omega arith))
      (said_upto (d ∷ log) d (length (d ∷ log)) (omega arith))

  module _ (log : List Entry) (places : List ℕ) (are : places ≡ places_where test (reverse log)) where
    -- What is said changes only at the places of the list.
    changes : Changes (said log) (Passes log) 0 (length log) places
    changes = subst (Changes (said log) (Passes log) 0 (length log)) (sym are) (said-changes log)

    -- The places do not fall.
    pub places-rise : IsNonDecreasingBy (λ place. place) places
    places-rise = changes-rise (said log) (Passes log) 0 (length log) places changes

    -- Each of them is a place of the log.
    pub places-within : (at : ℕ) → at < length places → get_or places at 0 < length log
    places-within at within = (changes-place (said log) (Passes log) 0 (length log) places at changes within).0

    -- The test is true of the entry there.
    pub places-pass : (at : ℕ) (entry : Entry) → at < length places → entry ≡ get_or log (get_or places at 0) entry → test entry (reverse (take (get_or places at 0) log)) ≡ true
    places-pass at entry within read = (changes-place (said log) (Passes log) 0 (length log) places at changes within).1 entry read

    -- Before the first place it is said of no entry.
    pub places-first : f (reverse (take (before_place places 0 log) log)) ≡ f []
    places-first = changes-first (said log) (Passes log) (length log) places changes

    -- Before the next place it is said as right after this one.
    pub places-next : (at : ℕ) → at < length places → f (reverse (take (before_place places (at + 1) log) log)) ≡ f (reverse (take (get_or places at 0 + 1) log))
    places-next at within = changes-next (said log) (Passes log) (length log) places at changes within

    -- Before the first place that is not below a number it is said as of so many entries.
    pub places-cut : (end count : ℕ) → end ≤ length log → IsCut end places count → f (reverse (take (before_place places count log) log)) ≡ f (reverse (take end log))
    places-cut end count high cut = changes-cut (said log) (Passes log) (length log) end places count changes high cut

module _ (known : List (Uid × Outcome)) (owner : Uid) (log : List Entry) (places : List ℕ) (are : places ≡ touching_places owner log) where
  -- What is said of a list that has its places, is said of those of the Job.
  seen_as : (pods : List Pod) (at : ℕ) → (at ≤ length places) → pods ≡ kept_pods known owner (reverse (take (before_place places at log) log)) → HasSeen owner log known pods at
  seen_as pods at within is =
      let long = ap length are in
      record {
        within = omega (arith, within, long);
        pods_are = is ∙ ap (λ ps. kept_pods known owner (reverse (take (before_place ps at log) log))) are;
      }

  -- And back.
  seen_by : (pods : List Pod) (at : ℕ) → HasSeen owner log known pods at → pods ≡ kept_pods known owner (reverse (take (before_place places at log) log))
  seen_by pods at seen = seen.pods_are ∙ ap (λ ps. kept_pods known owner (reverse (take (before_place ps at log) log))) (sym are)

  -- The entry at a place is taken in.
  pub seen-next : (at : ℕ) (pods new : List Pod) → at < length places → HasSeen owner log known pods at
      → (pods ≡ kept_pods known owner (reverse (take (get_or places at 0) log)) → new ≡ kept_pods known owner (reverse (take (get_or places at 0 + 1) log)))
      → HasSeen owner log known new (at + 1)
  seen-next at pods new within seen more =
      seen_as new (at + 1) (omega (arith, within))
      (more (seen_by pods at seen ∙ ap (λ n. kept_pods known owner (reverse (take n log))) (get_or_default places at (length log) 0 within))
      ∙ sym (places-next (kept_pods known owner) (touches owner) (untouched-kept_pods known owner) log places are at within))

  -- What a sync saw: those at the places that it saw.
  pub seen-cut : (pods : List Pod) (count end seen : ℕ) → HasSeen owner log known pods count → IsCut end places count → end ≤ length log → take end log ≡ take seen log → pods ≡ kept_pods known owner (reverse (take seen log))
  seen-cut pods count end seen has cut high same =
      seen_by pods count has
      ∙ places-cut (kept_pods known owner) (touches owner) (untouched-kept_pods known owner) log places are end count high cut
      ∙ ap (λ es. kept_pods known owner (reverse es)) same

-- At the first place there are no pods yet.
pub seen-first : (known : List (Uid × Outcome)) (owner : Uid) (log : List Entry) (pods : List Pod) (at : ℕ) → pods ≡ [] → at ≡ 0 → HasSeen owner log known pods at
seen-first known owner log pods at none first =
    subst (HasSeen owner log known pods) (sym first)
    (record {
      within = omega arith;
      pods_are = none ∙ sym (places-first (kept_pods known owner) (touches owner) (untouched-kept_pods known owner) log (touching_places owner log) refl);
    })

-- The pods that were seen stay.
pub seen-stay : (known : List (Uid × Outcome)) (owner : Uid) (log : List Entry) (pods : List Pod) (at : ℕ) → HasSeen owner log known pods at → HasSeen owner log known (filter (stays known) pods) at
seen-stay known owner log pods at seen =
    subst (λ ps. HasSeen owner log known ps at)
    (seen.pods_are
    ∙ sym (filter_within (stays known) (stays known) (λ pod s. s) (pods_of owner (reverse (take (before_place (touching_places owner log) at log) log))))
    ∙ ap (filter (stays known)) (sym seen.pods_are)) seen

-- The pods that were seen rise.
pub seen-rise : (known : List (Uid × Outcome)) (owner : Uid) (log : List Entry) (pods : List Pod) (at : ℕ) → HasSeen owner log known pods at → IsRising pods
seen-rise known owner log pods at seen =
    let older = reverse (take (before_place (touching_places owner log) at log) log) in
    subst IsRising (sym seen.pods_are) (rises_filter 0 (stays known) (pods_of owner older) (rises_filter 0 (λ pod. same_uid pod.owner_uid owner) (pods_in older) (pods_in-rises older)))

module _ (k : Key) (log : List Entry) (places : List ℕ) (are : places ≡ job_places k log) where
  -- Where no place is below the end, there was no Job.
  pub job-none : (end : ℕ) → end ≤ length log → IsCut end places 0 → None ≡ job_in k (reverse (take end log))
  job-none end high cut =
      sym (places-first (job_in k) (λ e older. is_about_job k e) (not_about k) log places are)
      ∙ places-cut (job_in k) (λ e older. is_about_job k e) (not_about k) log places are end 0 high cut

  -- The entry at the last place below the end says what the Job is.
  pub job-last : (end at : ℕ) (entry : Entry) → end ≤ length log → IsCut end places (at + 1) → entry ≡ get_or log (get_or places at 0) entry → job_put entry ≡ job_in k (reverse (take end log))
  job-last end at entry high cut read =
      sym (about k entry (reverse (take (get_or places at 0) log)) (places-pass (job_in k) (λ e older. is_about_job k e) (not_about k) log places are at entry short read))
      ∙ ap (job_in k) (sym (first-more log (get_or places at 0) entry (places-within (job_in k) (λ e older. is_about_job k e) (not_about k) log places are at short) read))
      ∙ sym (places-next (job_in k) (λ e older. is_about_job k e) (not_about k) log places are at short)
      ∙ places-cut (job_in k) (λ e older. is_about_job k e) (not_about k) log places are end (at + 1) high cut
    where
      short : at < length places
      short = let h = cut.within in omega (arith, h)
