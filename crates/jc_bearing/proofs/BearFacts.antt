-- A sync on its way: what it has written so far of pods and Jobs, and what it leaves.
use Rattle.std.proofs.Common.{◌≡◌, ℕ, suc, ◌+◌, Bool, true, false, not, cond, ◌&&◌, List, [], ◌∷◌, ◌++◌, map, length, Option, Some, None, is_some, IfSome, refl, sym, ap, ◌∙◌, subst, arith, true≢false, append_assoc}
use Rattle.std.specs.List.{AllByRecursion as Each}
use Rattle.std.proofs.Math.Bool.{and-false}
use Rattle.std.proofs.lemmas.Bool.{and_from, cond-false, cond-true, false_from_ne_true}
use Rattle.std.proofs.lemmas.List.{length-append, map-append}
use Rattle.std.proofs.lemmas.List.Elements.{filter-append}
use Rattle.std.proofs.lemmas.Option.{same_Some as some_is}
use Rattle.jc_types.proofs.KeyFacts.{same_key-itself, same_uid-eq, same_uid-itself}
use Rattle.jc_types.proofs.ListFacts.{Each-append, Each-weaker, filter_all}
use Rattle.jc_types.specs.declared.objects.KeyNames.{KeyNames as Key}
use Rattle.jc_types.specs.Keys.{same_key, same_uid}
use Rattle.jc_types.specs.declared.numbers.Uid.{Uid}
use Rattle.jc_types.specs.declared.numbers.Version.{Version}
use Rattle.jc_types.specs.declared.objects.Entry.{Entry}
use Rattle.jc_types.specs.declared.objects.Entry.TheVariants.{JobPut, JobGone, PodPut, PodGone}
use Rattle.jc_types.specs.declared.objects.Job.{Job}
use Rattle.jc_types.specs.declared.objects.Pod.{Pod}
use Rattle.jc_types.specs.declared.replies.Answer.{Answer}
use Rattle.jc_types.specs.declared.statuses.JobStatus.{JobStatus}
use Rattle.jc_states.specs.declared.bases.Basis.{Basis}
use Rattle.jc_states.specs.PodLists.{drop_pod}
use Rattle.jc_states.proofs.PodListFacts.{pod_among, rises-found}
use Rattle.jc_log.specs.Log.{Live, Never, is_never, job_in, life, living, made_for, next_uid, pods_in}
use Rattle.jc_log.specs.Requests.{with_status}
use Rattle.jc_log.specs.Writes.{Stored}
use Rattle.jc_log.proofs.BirthFacts.{fresh_never}
use Rattle.jc_log.proofs.JobFacts.{new_pod-last}
use Rattle.jc_log.proofs.PodFacts.{pods_in-among, pods_in-rises}
use Rattle.jc_log.proofs.WriteFacts.{job_in-key}
use Rattle.jc_plan.specs.Plans.{planned}
use Rattle.jc_sync.specs.Ask.{Ask}
use Rattle.jc_sync.specs.Ask.TheVariants.{MakePod, MarkPod, LetPodGo, WriteFirst, ReleasePod, WriteSecond}
use Rattle.jc_sync.specs.Asks.{asks_after, is_gone, left_when, writes_status}
use Rattle.jc_sync.proofs.QuietFacts.{IfSome-at}
use Rattle.jc_granted.specs.Ready.{IsOther, IsReady, IsThere, pod_asked}
use Rattle.jc_making.specs.Grants.{AreNew, IsNew, LooksNew, frees, concerns}
use Rattle.jc_bearing.proofs.TrackFacts.{IsChangeOf, Tracks, Under, map-same, put-replaced, replaced, tracks-dropped, tracks-replaced}
use Rattle.jc_bearing.proofs.WriteKinds.{IsBorn, Makes, Puts, States, Takes, Writes}

-- ---- what is left

-- The indexes of the pods that are still to be made.
abbrev pub creates_in : List Ask → List (Option ℕ)
creates_in [] = []
creates_in (MakePod index ∷ left) = index ∷ creates_in left
creates_in (other ∷ left) = creates_in left

-- The pod is one that the plan concerns, and it is under the key of the sync.
pub record IsMeant (old : List Entry) (basis : Basis) (u : Uid) : Type 0 where
  pub touched : concerns (planned basis) u ≡ true
  pub under : Under (planned basis) basis.key u (pods_in old)

-- So is the pod of each request; and one that is released is freed.
abbrev pub IsPlanned : List Entry → Basis → Ask → Type 0
IsPlanned old basis (MarkPod u) = IsMeant old basis u
IsPlanned old basis (LetPodGo u version) = IsMeant old basis u
IsPlanned old basis (ReleasePod u) = IsMeant old basis u × (frees (planned basis) u ≡ true)
IsPlanned old basis other = Unit {0}

meant : (old : List Entry) (basis : Basis) (ask : Ask) (u : Uid) → pod_asked ask ≡ Some u → IsPlanned old basis ask → IsMeant old basis u
meant old basis (MakePod index) u is h = absurd (true≢false (sym (ap is_some is)))
meant old basis (MarkPod v) u is h = subst (IsMeant old basis) (some_is v u is) h
meant old basis (LetPodGo v version) u is h = subst (IsMeant old basis) (some_is v u is) h
meant old basis WriteFirst u is h = absurd (true≢false (sym (ap is_some is)))
meant old basis (ReleasePod v) u is h = subst (IsMeant old basis) (some_is v u is) h.0
meant old basis WriteSecond u is h = absurd (true≢false (sym (ap is_some is)))

-- ---- what is written so far

-- The Job is there, and all but its version and its status is as it was.
pub record IsStill (k : Key) (log : List Entry) (job : Job) : Type 0 where
  pub current : Job
  pub there : job_in k log ≡ Some current
  pub is : record current { version = job.version; status = job.status } ≡ job

-- Pods were made for the Job, of these indexes.
pub record AreMade (old : List Entry) (k : Key) (job : Job) (done : List (Option ℕ)) (fresh : List Pod) (log : List Entry) : Type 0 where
  pub new : AreNew (made_for job.uid old) done fresh
  pub owned : Each (λ (pod : Pod). same_uid pod.owner_uid job.uid ≡ true) fresh
  pub restarts : Each (λ (pod : Pod). pod.restart ≡ job.spec.template.restart) fresh
  pub looks : Each (LooksNew job.spec.template) fresh
  pub made : made_for job.uid log ≡ made_for job.uid old + length done
  pub still : IsStill k log job

pub record Bears (old : List Entry) (basis : Basis) (left : List Ask) (log : List Entry) : Type 0 where
  pub after : List Pod
  pub fresh : List Pod
  pub parts : pods_in log ≡ after ++ fresh
  pub tracks : Tracks (planned basis) basis.key (pods_in old) after
  pub done : List (Option ℕ)
  pub creates : (planned basis).creates ≡ done ++ creates_in left
  pub count : length fresh ≡ length done
  pub makes : (job : Job) → basis.job ≡ Some job → AreMade old basis.key job done fresh log
  pub under : Each (λ (pod : Pod). same_key pod.owner basis.key ≡ true) fresh
  pub apart : Each (λ (pod : Pod). Each (IsOther pod.uid) left) fresh
  pub asked : Each (IsPlanned old basis) left
  pub jobs : (k : Key) → same_key basis.key k ≡ false → job_in k log ≡ job_in k old
  pub others : (u : Uid) → IfSome basis.job (λ job. same_uid job.uid u ≡ false) → made_for u log ≡ made_for u old
  pub none : basis.job ≡ None → job_in basis.key log ≡ None

-- ---- a request behind it

left-others : (u : Uid) (a : Ask) (b : Bool) (left : List Ask) → Each (IsOther u) (a ∷ left) → Each (IsOther u) (left_when a b left)
left-others u (LetPodGo v version) true left all = (all.0, all.1)
left-others u (LetPodGo v version) false left all = all.1
left-others u (MakePod index) b left all = all.1
left-others u (MarkPod v) b left all = all.1
left-others u WriteFirst b left all = all.1
left-others u (ReleasePod v) b left all = all.1
left-others u WriteSecond b left all = all.1

left-planned : (old : List Entry) (basis : Basis) (a : Ask) (b : Bool) (left : List Ask) → Each (IsPlanned old basis) (a ∷ left) → Each (IsPlanned old basis) (left_when a b left)
left-planned old basis (LetPodGo v version) true left all = (all.0, all.1)
left-planned old basis (LetPodGo v version) false left all = all.1
left-planned old basis (MakePod index) b left all = all.1
left-planned old basis (MarkPod v) b left all = all.1
left-planned old basis WriteFirst b left all = all.1
left-planned old basis (ReleasePod v) b left all = all.1
left-planned old basis WriteSecond b left all = all.1

-- What is not the request for a new pod leaves those that are to be made.
abbrev is_make : Ask → Bool
is_make (MakePod index) = true
is_make other = false

left-creates : (a : Ask) (b : Bool) (left : List Ask) → is_make a ≡ false → creates_in (a ∷ left) ≡ creates_in (left_when a b left)
left-creates (LetPodGo v version) true left n = refl
left-creates (LetPodGo v version) false left n = refl
left-creates (MakePod index) b left n = absurd (true≢false n)
left-creates (MarkPod v) b left n = refl
left-creates WriteFirst b left n = refl
left-creates (ReleasePod v) b left n = refl
left-creates WriteSecond b left n = refl

asked-none : (a : Ask) (u : Uid) → pod_asked a ≡ Some u → is_make a ≡ false
asked-none (MakePod index) u is = absurd (true≢false (sym (ap is_some is)))
asked-none other u is = refl

stated-none : (a : Ask) → writes_status a ≡ true → is_make a ≡ false
stated-none (MakePod index) is = absurd (true≢false (sym is))
stated-none other is = refl

-- ---- a new pod

snoc-new : (made : ℕ) (done : List (Option ℕ)) (fresh : List Pod) (index : Option ℕ) (pod : Pod) → AreNew made done fresh → IsNew (made + length done) index pod → AreNew made (done ++ index ∷ []) (fresh ++ pod ∷ [])
snoc-new made [] [] index pod all new = (subst (λ n. IsNew n index pod) (omega arith) new, tt)
snoc-new made [] (p ∷ fresh) index pod all new = absurd all
snoc-new made (i ∷ done) [] index pod all new = absurd all
snoc-new made (i ∷ done) (p ∷ fresh) index pod all new = (all.0, snoc-new (suc made) done fresh index pod all.1 (subst (λ n. IsNew n index pod) (omega arith) new))

module _ (log : List Entry) (basis : Basis) (sends : Version) (u : Uid) (never : life u log ≡ Never) where
  not-there : (P : Pod → Type 0) (v : Uid) → IsThere P v log → same_uid u v ≡ false
  not-there P v h =
      false_from_ne_true (same_uid u v)
      (λ same. true≢false (sym (ap is_never never) ∙ ap (λ x. is_never (life x log)) (same_uid-eq u v same) ∙ ap is_never h.there))

  none-asked : (ask : Ask) → IsReady log basis sends ask → IsOther u ask
  none-asked (MakePod index) h = tt
  none-asked (MarkPod v) h = not-there _ v h
  none-asked (LetPodGo v version) h = not-there _ v h
  none-asked WriteFirst h = tt
  none-asked (ReleasePod v) h = not-there _ v h
  none-asked WriteSecond h = tt

-- ---- one request more

pub front-each : {X : Type 0} (P : X → Type 0) (xs ys : List X) → Each P (xs ++ ys) → Each P xs
front-each P [] ys h = tt
front-each P (x ∷ xs) ys h = (h.0, front-each P xs ys h.1)

module _ (old log : List Entry) (basis : Basis) (sends : Version) (stored : Stored log) (left : List Ask) where
  -- What a write of a pod that is there leaves of the numbers and of Jobs.
  module _ (e : Entry) (jobs-kept : (k : Key) → job_in k (e ∷ log) ≡ job_in k log) (made-kept : (u : Uid) → made_for u (e ∷ log) ≡ made_for u log) (ask : Ask) (gone : Bool) (no : is_make ask ≡ false)
      (h : Bears old basis (ask ∷ left) log) (news : List Pod) (parts : pods_in (e ∷ log) ≡ news ++ h.fresh) (tracks : Tracks (planned basis) basis.key (pods_in old) news) where
    bears-still : Bears old basis (left_when ask gone left) (e ∷ log)
    bears-still = record {
      after = news;
      fresh = h.fresh;
      parts = parts;
      tracks = tracks;
      done = h.done;
      creates = h.creates ∙ ap (λ l. h.done ++ l) (left-creates ask gone left no);
      count = h.count;
      makes = λ job saw.
          let m = h.makes job saw in
          record {
            new = m.new;
            owned = m.owned;
            restarts = m.restarts;
            looks = m.looks;
            made = made-kept job.uid ∙ m.made;
            still = record { current = m.still.current; there = jobs-kept basis.key ∙ m.still.there; is = m.still.is };
          };
      under = h.under;
      apart =
          Each-weaker (λ (pod : Pod). Each (IsOther pod.uid) (ask ∷ left)) (λ (pod : Pod). Each (IsOther pod.uid) (left_when ask gone left))
          (λ pod. left-others pod.uid ask gone left) h.fresh h.apart;
      asked = left-planned old basis ask gone left h.asked;
      jobs = λ k other. jobs-kept k ∙ h.jobs k other;
      others = λ u other. made-kept u ∙ h.others u other;
      none = λ is. jobs-kept basis.key ∙ h.none is;
    }

  -- A pod that is there is not made.
  made-there : (pod was : Pod) → life pod.uid log ≡ Live was → (u : Uid) → made_for u (PodPut pod ∷ log) ≡ made_for u log
  made-there pod was there u =
      ap (λ l. cond (same_uid pod.owner_uid u && is_never l) (made_for u log + 1) (made_for u log)) there
      ∙ ap (λ b. cond b (made_for u log + 1) (made_for u log)) (and-false (same_uid pod.owner_uid u))

  -- The pod that is asked for is none of the new ones.
  apart-of : (ask : Ask) (u : Uid) → pod_asked ask ≡ Some u → (fresh : List Pod) → Each (λ (pod : Pod). Each (IsOther pod.uid) (ask ∷ left)) fresh → Each (λ (pod : Pod). same_uid pod.uid u ≡ false) fresh
  apart-of ask u is fresh h =
      Each-weaker (λ (pod : Pod). Each (IsOther pod.uid) (ask ∷ left)) (λ (pod : Pod). same_uid pod.uid u ≡ false)
      (λ pod all. subst (λ o. IfSome o (λ v. same_uid pod.uid v ≡ false)) is all.0) fresh h

  module _ (ask : Ask) (gone : Bool) (u : Uid) (was new : Pod) (is : pod_asked ask ≡ Some u) (there : life u log ≡ Live was) (uid : was.uid ≡ u) (change : IsChangeOf was new) (h : Bears old basis (ask ∷ left) log) where
    new-uid : new.uid ≡ u
    new-uid = change.uid ∙ uid

    it : IsMeant old basis new.uid
    it = subst (IsMeant old basis) (sym new-uid) (meant old basis ask u is h.asked.0)

    found : pod_among new.uid (pods_in log) ≡ Some was
    found = ap (λ v. pod_among v (pods_in log)) new-uid ∙ pods_in-among u log ∙ ap living there

    fresh-apart : Each (λ (pod : Pod). same_uid pod.uid new.uid ≡ false) h.fresh
    fresh-apart = subst (λ v. Each (λ (pod : Pod). same_uid pod.uid v ≡ false) h.fresh) (sym new-uid) (apart-of ask u is h.fresh h.apart)

    only : Each (λ (now : Pod). same_uid now.uid new.uid ≡ true → now ≡ was) h.after
    only =
        Each-weaker (λ (now : Pod). pod_among now.uid (pods_in log) ≡ Some now) (λ (now : Pod). same_uid now.uid new.uid ≡ true → now ≡ was)
        (λ now at same. some_is now was (sym at ∙ ap (λ v. pod_among v (pods_in log)) (same_uid-eq now.uid new.uid same) ∙ found)) h.after
        (front-each (λ (now : Pod). pod_among now.uid (pods_in log) ≡ Some now) h.after h.fresh
        (subst (Each (λ (now : Pod). pod_among now.uid (pods_in log) ≡ Some now)) h.parts (rises-found 0 (pods_in log) (pods_in-rises log))))

    put-parts : pods_in (PodPut new ∷ log) ≡ map (replaced new) h.after ++ h.fresh
    put-parts =
        put-replaced 0 new (pods_in log) (pods_in-rises log) (ap is_some found)
        ∙ ap (map (replaced new)) h.parts
        ∙ map-append (replaced new) h.after h.fresh
        ∙ ap (λ l. map (replaced new) h.after ++ l)
        (map-same (replaced new) h.fresh (Each-weaker (λ (pod : Pod). same_uid pod.uid new.uid ≡ false) (λ (pod : Pod). replaced new pod ≡ pod)
        (λ pod other. cond-false (same_uid pod.uid new.uid) new pod other) h.fresh fresh-apart))

    puts : Bears old basis (left_when ask gone left) (PodPut new ∷ log)
    puts =
        bears-still (PodPut new) (λ k. refl) (made-there new was (ap (λ v. life v log) new-uid ∙ there)) ask gone (asked-none ask u is) h
        (map (replaced new) h.after) put-parts
        (tracks-replaced (planned basis) basis.key was new change it.touched (pods_in old) h.after it.under only h.tracks)

    took-parts : pods_in (PodGone new ∷ log) ≡ drop_pod new.uid h.after ++ h.fresh
    took-parts =
        ap (drop_pod new.uid) h.parts
        ∙ filter-append (λ (pod : Pod). not (same_uid pod.uid new.uid)) h.after h.fresh
        ∙ ap (λ l. drop_pod new.uid h.after ++ l)
        (filter_all (λ (pod : Pod). not (same_uid pod.uid new.uid)) h.fresh (Each-weaker (λ (pod : Pod). same_uid pod.uid new.uid ≡ false) (λ (pod : Pod). not (same_uid pod.uid new.uid) ≡ true)
        (λ pod other. ap not other) h.fresh fresh-apart))

    takes : frees (planned basis) new.uid ≡ true → Bears old basis (left_when ask gone left) (PodGone new ∷ log)
    takes freed =
        bears-still (PodGone new) (λ k. refl) (λ v. refl) ask gone (asked-none ask u is) h (drop_pod new.uid h.after) took-parts
        (tracks-dropped (planned basis) basis.key new.uid freed (pods_in old) h.after it.under h.tracks)

  -- A pod is made.
  makes-one : (index : Option ℕ) (gone : Bool) (job : Job) (pod : Pod) → basis.job ≡ Some job → same_key job.key basis.key ≡ true → IsBorn log job index pod → Each (IsReady log basis sends) left
      → Bears old basis (MakePod index ∷ left) log → Bears old basis left (PodPut pod ∷ log)
  makes-one index gone job pod saw key born ready h = record {
    after = h.after;
    fresh = h.fresh ++ pod ∷ [];
    parts =
        new_pod-last log pod stored (ap (λ (u : Uid). u.0) born.uid) ∙ ap (λ l. l ++ pod ∷ []) h.parts ∙ append_assoc h.after h.fresh (pod ∷ []);
    tracks = h.tracks;
    done = h.done ++ index ∷ [];
    creates = h.creates ∙ sym (append_assoc h.done (index ∷ []) (creates_in left));
    count = let same = h.count in let pods = length-append h.fresh (pod ∷ []) in let indexes = length-append h.done (index ∷ []) in omega (arith, same, pods, indexes);
    makes = λ other seen. subst (λ j. AreMade old basis.key j (h.done ++ index ∷ []) (h.fresh ++ pod ∷ []) (PodPut pod ∷ log)) (some_is job other (sym saw ∙ seen)) its;
    under = Each-append (λ (p : Pod). same_key p.owner basis.key ≡ true) h.fresh (pod ∷ []) h.under (ap (λ k. same_key k basis.key) born.owner ∙ key, tt);
    apart =
        Each-append (λ (p : Pod). Each (IsOther p.uid) left) h.fresh (pod ∷ [])
        (Each-weaker (λ (p : Pod). Each (IsOther p.uid) (MakePod index ∷ left)) (λ (p : Pod). Each (IsOther p.uid) left) (λ p all. all.1) h.fresh h.apart)
        (Each-weaker (IsReady log basis sends) (IsOther pod.uid) (none-asked log basis sends pod.uid never) left ready, tt);
    asked = h.asked.1;
    jobs = h.jobs;
    others = λ u other.
        ap (λ b. cond (b && is_never (life pod.uid log)) (made_for u log + 1) (made_for u log))
        (ap (λ v. same_uid v u) born.owner_uid ∙ IfSome-at basis.job (λ j. same_uid j.uid u ≡ false) job saw other)
        ∙ h.others u other;
    none = h.none;
  }
    where
      never : life pod.uid log ≡ Never
      never = ap (λ v. life v log) born.uid ∙ fresh_never (next_uid log) log stored refl

      its : AreMade old basis.key job (h.done ++ index ∷ []) (h.fresh ++ pod ∷ []) (PodPut pod ∷ log)
      its =
          let m = h.makes job saw in
          record {
            new = snoc-new (made_for job.uid old) h.done h.fresh index pod m.new (subst (λ n. IsNew n index pod) m.made born.new);
            owned = Each-append (λ (p : Pod). same_uid p.owner_uid job.uid ≡ true) h.fresh (pod ∷ []) m.owned (ap (λ v. same_uid v job.uid) born.owner_uid ∙ same_uid-itself job.uid, tt);
            restarts = Each-append (λ (p : Pod). p.restart ≡ job.spec.template.restart) h.fresh (pod ∷ []) m.restarts (born.restart, tt);
            looks = Each-append (LooksNew job.spec.template) h.fresh (pod ∷ []) m.looks (born.looks, tt);
            made = one-more ∙ counted m.made;
            still = record { current = m.still.current; there = m.still.there; is = m.still.is };
          }
        where
          one-more : made_for job.uid (PodPut pod ∷ log) ≡ made_for job.uid log + 1
          one-more =
              cond-true (same_uid pod.owner_uid job.uid && is_never (life pod.uid log)) (made_for job.uid log + 1) (made_for job.uid log)
              (and_from (same_uid pod.owner_uid job.uid) (is_never (life pod.uid log)) (ap (λ v. same_uid v job.uid) born.owner_uid ∙ same_uid-itself job.uid) (ap is_never never))

          counted : made_for job.uid log ≡ made_for job.uid old + length h.done → made_for job.uid log + 1 ≡ made_for job.uid old + length (h.done ++ index ∷ [])
          counted m = let l = length-append h.done (index ∷ []) in omega (arith, m, l)

  -- A status is written.
  states-one : (ask : Ask) (gone : Bool) (current : Job) (status : JobStatus) → writes_status ask ≡ true → job_in basis.key log ≡ Some current → Bears old basis (ask ∷ left) log
      → Bears old basis (left_when ask gone left) (JobPut (with_status log current status) ∷ log)
  states-one ask gone current status is there h = record {
    after = h.after;
    fresh = h.fresh;
    parts = h.parts;
    tracks = h.tracks;
    done = h.done;
    creates = h.creates ∙ ap (λ l. h.done ++ l) (left-creates ask gone left (stated-none ask is));
    count = h.count;
    makes = λ job saw. its job (h.makes job saw);
    under = h.under;
    apart =
        Each-weaker (λ (pod : Pod). Each (IsOther pod.uid) (ask ∷ left)) (λ (pod : Pod). Each (IsOther pod.uid) (left_when ask gone left))
        (λ pod. left-others pod.uid ask gone left) h.fresh h.apart;
    asked = left-planned old basis ask gone left h.asked;
    jobs = λ k other. cond-false (same_key current.key k) (Some (with_status log current status)) (job_in k log) (ap (λ q. same_key q k) key ∙ other) ∙ h.jobs k other;
    others = h.others;
    none = λ none. absurd (true≢false (sym (ap is_some there) ∙ ap is_some (h.none none)));
  }
    where
      key : current.key ≡ basis.key
      key = job_in-key basis.key log current there

      its : (job : Job) → AreMade old basis.key job h.done h.fresh log → AreMade old basis.key job h.done h.fresh (JobPut (with_status log current status) ∷ log)
      its job m = record {
        new = m.new;
        owned = m.owned;
        restarts = m.restarts;
        looks = m.looks;
        made = m.made;
        still = record {
          current = with_status log current status;
          there = cond-true (same_key current.key basis.key) (Some (with_status log current status)) (job_in basis.key log) (ap (λ q. same_key q basis.key) key ∙ same_key-itself basis.key);
          is = ap (λ (j : Job). record j { version = job.version; status = job.status }) (some_is current m.still.current (sym there ∙ m.still.there)) ∙ m.still.is;
        };
      }

  pub bears-next : (ask : Ask) (given : Answer) (e : Entry) → ((job : Job) → basis.job ≡ Some job → same_key job.key basis.key ≡ true) → Each (IsReady log basis sends) left → Writes log basis ask e
      → Bears old basis (ask ∷ left) log → Bears old basis (asks_after ask given left) (e ∷ log)
  bears-next (MakePod _) given (PodPut _) keys ready (Makes job index pod saw born) h = makes-one index (is_gone given) job pod saw (keys job saw) born ready h
  bears-next ask given (PodPut _) keys ready (Puts _ u was new is there uid change) h = puts ask (is_gone given) u was new is there uid change h
  bears-next (ReleasePod _) given (PodGone _) keys ready (Takes u was new there uid change) h =
      takes (ReleasePod u) (is_gone given) u was new refl there uid change h (ap (frees (planned basis)) (change.uid ∙ uid) ∙ h.asked.0.1)
  bears-next ask given (JobPut _) keys ready (States _ current status is there) h = states-one ask (is_gone given) current status is there h
  bears-next ask given (JobGone _) keys ready writes h = elim writes [ ]
  bears-next (MakePod _) given (PodGone _) keys ready writes h = elim writes [ ]
  bears-next (MarkPod _) given (PodGone _) keys ready writes h = elim writes [ ]
  bears-next (LetPodGo _ _) given (PodGone _) keys ready writes h = elim writes [ ]
  bears-next WriteFirst given (PodGone _) keys ready writes h = elim writes [ ]
  bears-next WriteSecond given (PodGone _) keys ready writes h = elim writes [ ]
