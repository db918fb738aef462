-- Every legal history of one controller keeps what has ended.
use Rattle.std.proofs.Common.{◌≡◌, ℕ, ◌≤◌, ◌==◌, nat_lt, Bool, true, false, cond, List, [], ◌∷◌, ◌++◌, length, filter, map, Option, Some, None, IfSome, is_some, refl, sym, ap, ◌∙◌, subst, true≢false, arith, ◌⊎◌, inl, inr, eqb-true, eq-eqb}
use Rattle.std.proofs.Common.{ltb-false, ltb-true}
use Rattle.std.specs.List.{AllByRecursion as Each}
use Rattle.std.specs.Option.{option_to_list}
use Rattle.std.proofs.lemmas.Bool.{cond-true}
use Rattle.std.proofs.lemmas.List.{append-nil}
use Rattle.jc_control.specs.declared.ends.SyncEnd.{SyncEnd}
use Rattle.jc_ledger.specs.Flights.{IsBasisOf}
use Rattle.jc_plan.specs.Plans.{changed, planned, planned_for}
use Rattle.jc_plan.specs.Releases.{is_released}
use Rattle.jc_plan.specs.Statuses.{first_value, second_value}
use Rattle.jc_types.specs.declared.numbers.Uid.{Uid}
use Rattle.jc_types.specs.declared.numbers.Version.{Version}
use Rattle.jc_types.specs.declared.objects.Entry.{Entry}
use Rattle.jc_types.specs.declared.objects.Job.{Job}
use Rattle.jc_types.specs.declared.objects.Kind.{Kind}
use Rattle.jc_types.specs.declared.objects.Kind.TheVariants.{Jobs, Pods}
use Rattle.jc_types.specs.declared.objects.Pod.{Pod}
use Rattle.jc_types.specs.declared.replies.Answer.{Answer}
use Rattle.jc_types.specs.declared.replies.Request.{Request}
use Rattle.jc_types.specs.declared.runs.Shape.{Shape}
use Rattle.jc_types.specs.declared.statuses.JobStatus.{JobStatus}
use Rattle.jc_states.specs.declared.bases.Basis.{Basis}
use Rattle.jc_log.specs.Requests.{grown, with_status}
use Rattle.jc_states.specs.Bases.{own_pods}
use Rattle.jc_states.specs.Conditions.{has_end}
use Rattle.jc_log.specs.Deeds.{Deed}
use Rattle.jc_types.specs.declared.objects.KeyNames.{KeyNames as Key}
use Rattle.jc_types.specs.Keys.{same_key, same_uid}
use Rattle.jc_log.specs.Log.{Live, is_born, is_lost, is_never, job_in, life, next_version, pods_in, pods_under, upto}
use Rattle.jc_types.specs.Equality.{same_status}
use Rattle.jc_states.specs.UidLists.{uids_of}
use Rattle.jc_log.specs.Writes.{Stored, Writes}
use Rattle.jc_types.proofs.KeyFacts.{same_key-itself, same_uid-eq}
use Rattle.jc_types.proofs.ListFacts.{Each-filter, Each-weaker}
use Rattle.jc_log.proofs.LogFacts.{upto-all, upto-fixed}
use Rattle.jc_log.proofs.PodFacts.{pods_in-live}
use Rattle.jc_log.proofs.WriteFacts.{is_born-more, job_in-born, job_in-key, lost_entry, persists_on}
use Rattle.jc_asks.specs.declared.asks.Ask.{Ask}
use Rattle.jc_asks.specs.declared.asks.Ask.TheVariants.{WriteFirst, ReleasePod, WriteSecond}
use Rattle.jc_asks.specs.Asks.{as_request}
use Rattle.jc_bounds.specs.RequestKinds.{lets_go_of, next_by_kind, ask_gives}
use Rattle.jc_history.specs.Diaries.{moment, notes}
use Rattle.jc_history.specs.Fresh.{basis, cache_lag}
use Rattle.jc_history.specs.Legal.{IsLegal}
use Rattle.jc_history.specs.Notes.{Note, Asked, Began, Ended}
use Rattle.jc_history.specs.Numbers.{number}
use Rattle.jc_history.specs.Registers.{HaveOwnKeys, made, register}
use Rattle.jc_asks.specs.Steps.{floor_given, as_answer}
use Rattle.jc_history.specs.Replies.{gives, log_given}
use Rattle.jc_history.proofs.LegalFacts.{legal-fit}
use Rattle.jc_history.proofs.RegisterFacts.{fit-apart}
use Rattle.jc_bounds.specs.Bounded.{IsBounded, IsFlight}
use Rattle.jc_bounds.specs.Final.{AlwaysHaveIndexTotals, IsClosed, KnowsEnds, IsFinishedAt, IsOverFor, IsKnownSync}
use Rattle.jc_plan.specs.Finishes.{IsFinalStatus, HasIndexTotals}
use Rattle.jc_bounds.specs.Order.{AreLost, Early, Idle, AsksReleasesOnly, Progress}
use Rattle.jc_bounds.specs.Work.{is_work}
use Rattle.jc_bounds.proofs.Appends.{Appends, First, Idly, IsStatus, Makes, Second, appends, release-is}
use Rattle.jc_bounds.proofs.AskEntries.{ask-own}
use Rattle.jc_bounds.proofs.BoundFacts.{fresh-seen, legal-bounded, legal-within, stored-before}
use Rattle.jc_bounds.proofs.ClosedFacts.{first-closes, second-closes}
use Rattle.jc_bounds.proofs.EntryFacts.{finished-idle, finished-made, finished-written, known-entry, old-job, release-loses, same-own}
use Rattle.jc_bounds.proofs.NoteFacts.{asked-made, began-made, began-register, ended-made, ended-register, news-made, news-register}
use Rattle.jc_bounds.proofs.OrderFacts.{AtFirst, AtRelease, AtSecond, InEarly, Where, is_early, is_quiet, more, progress-more, progress-step, silent-after, silent-quiet, silent-step, where-is}
use Rattle.jc_plan.proofs.PlanBounds.{first-released, first-rests, first-same, first-wound, idle-plan, second-rests, second-wound}
use Rattle.jc_plan.proofs.NextFacts.{changed-none}
use Rattle.jc_bounds.proofs.Turns.{IsIdleEntry, Noted, Restarted, Still, Stepped, Stopped, Turn, Wrote, turn, Began as Begins, Finished}
use Rattle.jc_bounds.proofs.WorkFacts.{status-stands}
use Rattle.jc_plan.proofs.PlanFacts.{plan-releases as planned-releases}
use Rattle.std.proofs.lemmas.Option.{same_Some as some_is}

-- ---- plans

pub plan-first : (b : Basis) (job : Job) → b.job ≡ Some job → (planned b).first ≡ changed job.status (first_value job b)
unfolding planned
plan-first b job there = ap (λ o. (planned_for b o).first) there

pub plan-second : (b : Basis) (job : Job) → b.job ≡ Some job → (planned b).second ≡ changed (first_value job b) (second_value job b)
unfolding planned
plan-second b job there = ap (λ o. (planned_for b o).second) there

pub changed-is : (old new status : JobStatus) → changed old new ≡ Some status → new ≡ status
changed-is old new status e = by (same_status old new) e
  where
    by : (b : Bool) → cond b None (Some new) ≡ Some status → new ≡ status
    by true e = absurd (true≢false (sym (ap is_some e)))
    by false e = some_is new status e

-- ---- a basis

pub born-seen : (log : List Entry) → Stored log → (b : Basis) → IsBasisOf log b → (job : Job) → b.job ≡ Some job → is_born job.uid log ≡ true
born-seen log stored b is job there = persists_on Writes (λ l. is_born job.uid l ≡ true) (λ e older w rest k. is_born-more job.uid e older k) b.jobs_at.0 log stored (job_in-born b.key (upto b.jobs_at.0 log) job (sym is.job ∙ there))

pub seen-key : (log : List Entry) (b : Basis) → IsBasisOf log b → (job : Job) → b.job ≡ Some job → job.key ≡ b.key
seen-key log b is job there = job_in-key b.key (upto b.jobs_at.0 log) job (sym is.job ∙ there)

-- ---- other syncs, and requests that are no work of the key

winding-more : (e : Entry) (log : List Entry) → Writes log e → Stored log → (b : Basis) → IsBasisOf log b
    → is_work b.key e log ≡ false → (before after : List (Request × Answer)) → Progress (e ∷ log) (planned b) after
    → (AsksReleasesOnly (planned b) before → AsksReleasesOnly (planned b) after) → IsKnownSync log before b → IsKnownSync (e ∷ log) after b
winding-more e log w stored b is idle before after progress silent h = record {
  progress = progress;
  known = Each-weaker (λ u. is_never (life u log) ≡ false) (λ u. is_never (life u (e ∷ log)) ≡ false) (λ u. known-entry u e log) (planned b).releases h.known;
  over = λ seen job there now same.
      let born = born-seen log stored b is seen there in
      let old = old-job e log w stored b.key idle job now (inr (ap (λ u. is_born u log) same ∙ born)) in
      let o = h.over seen old.job there old.there (sym old.uid ∙ same) in
      let end = ap (λ s. has_end s.conditions) old.status in
      record { ends = λ x. end ∙ o.ends x; releases_only = λ x. silent (o.releases_only (sym end ∙ x)) };
}

lost-more : (e : Entry) (log : List Entry) → Writes log e → (u : Uid) → is_lost (life u log) ≡ true → is_lost (life u (e ∷ log)) ≡ true
lost-more e log w u = lost_entry u e log w

-- ---- one turn

module _ (log : List Entry) (stored : Stored log) (neat : AlwaysHaveIndexTotals log) (old : List Note) (bounded : IsBounded log old)
    (h : KnowsEnds log old) (apart : HaveOwnKeys old)
    (within : (kind : Kind) (m : Version) → number kind old ≡ Some m → m.0 ≤ length log) where
  same-winding : (new : List (Request × Answer)) (w : ℕ) (b : Basis) → register w old ≡ Some b → new ≡ made w old → IsKnownSync log new b
  same-winding new w b r e = subst (λ m. IsKnownSync log m b) (sym e) (h.flights w b r)

  wrote-final : (e : Entry) → Writes log e → IsIdleEntry log e → KnowsEnds (e ∷ log) old
  wrote-final e w idle = record {
    finished = λ k. finished-idle e log w stored k (idle k) (h.finished k);
    flights = λ v b r.
        let f = h.flights v b r in
        winding-more e log w stored b (bounded.flights v b r).basis (idle b.key) (made v old) (made v old) (progress-more log (e ∷ log) (planned b) (made v old) (lost-more e log w) f.progress) (λ s. s) f;
  }

  module _ (u : ℕ) (k : Key) (j p : Version) (now : ℕ) (jobs : number Jobs old ≡ Some j) (pods : number Pods old ≡ Some p) (fresh : cache_lag old log k j p ≡ None) where
    abbrev seen_now : Basis
    seen_now = basis old log now k j p

    uids-each : (P : Uid → Type 0) (pods : List Pod) → Each (λ pod. P pod.uid) pods → Each P (uids_of pods)
    uids-each P [] h = tt
    uids-each P (pod ∷ pods) h = (h.0, uids-each P pods h.1)

    known-pods : Each (λ pod. is_never (life pod.uid log) ≡ false) (pods_under k (upto p.0 log))
    known-pods =
        Each-filter (λ pod. is_never (life pod.uid log) ≡ false) (λ pod. same_key pod.owner k) (pods_in (upto p.0 log))
        (Each-weaker (λ pod. life pod.uid (upto p.0 log) ≡ Live pod) (λ pod. is_never (life pod.uid log) ≡ false)
        (λ pod live. persists_on Writes (λ l. is_never (life pod.uid l) ≡ false) (λ e older w rest n. known-entry pod.uid e older n) p.0 log stored (ap is_never live)) (pods_in (upto p.0 log)) (pods_in-live (upto p.0 log)))

    begun-winding : IsKnownSync log [] (basis old log now k j p)
    begun-winding = record {
      progress = Early (omega arith);
      known = subst (λ us. Each (λ u. is_never (life u log) ≡ false) us) (sym (planned-releases (basis old log now k j p)))
          (uids-each (λ u. is_never (life u log) ≡ false)
          (filter (is_released (basis old log now k j p)) (pods_under k (upto p.0 log)))
          (Each-filter (λ pod. is_never (life pod.uid log) ≡ false) (is_released (basis old log now k j p))
          (pods_under k (upto p.0 log)) known-pods));
      over = λ seen job there is same.
          let s = fresh-seen log old bounded k j p jobs pods fresh in
          let status = status-stands k j.0 log stored (within Jobs j jobs) s.0 seen job there is same in
          let end = ap (λ s. has_end s.conditions) status in
          record {
            ends = λ x. end ∙ x;
            releases_only = λ x.
                let f = h.finished k job is x in
                let closed = same-own seen job (sym same) (pods_under k (upto p.0 log)) (f.closed p.0 (within Pods p pods) s.1) in
                let i = idle-plan seen (basis old log now k j p) there (record { ended = sym end ∙ x; final = subst IsFinalStatus status f.final; totals = neat j.0 k seen there; closed = closed.opens; untracked = closed.tracks }) in
                Idle i.creates i.first i.second;
          };
    }

    begun-final : KnowsEnds log (Began u (basis old log now k j p) ∷ old)
    begun-final = record { finished = h.finished; flights = λ w b r. by w b (began-register u (basis old log now k j p) old w b r) }
      where
        by : (w : ℕ) (b : Basis) → (((u == w) ≡ true) × (basis old log now k j p ≡ b)) ⊎ (((u == w) ≡ false) × (register w old ≡ Some b)) → IsKnownSync log (made w (Began u (basis old log now k j p) ∷ old)) b
        by w b (inl e) = subst (λ m. IsKnownSync log m b) (sym (began-made u (basis old log now k j p) old w true e.0)) (subst (IsKnownSync log []) e.1 begun-winding)
        by w b (inr e) = same-winding _ w b e.1 (began-made u (basis old log now k j p) old w false e.0)

  module _ (u : ℕ) (b : Basis) (ask : Ask) (given : Answer) (now : ℕ) (r : register u old ≡ Some b) (next : next_by_kind (planned b) (made u old) ≡ Some ask) where
    abbrev asked : List Note
    asked = Asked u b (as_request ask) given ∷ old

    flight : IsFlight log old u b
    flight = bounded.flights u b r

    winding : IsKnownSync log (made u old) b
    winding = h.flights u b r

    place : Where log (planned b) (made u old) ask
    place = where-is log (planned b) (made u old) ask next winding.progress

    -- Where the sync asks for more than releases, its Job has no end.
    pub unended : (seen job : Job) → b.job ≡ Some seen → job_in b.key log ≡ Some job → job.uid ≡ seen.uid → is_quiet ask ≡ false → (has_end job.status.conditions ≡ false) × (has_end seen.status.conditions ≡ false)
    unended seen job there is same loud = (at (has_end job.status.conditions) refl, before (has_end seen.status.conditions) refl)
      where
        o : IsOverFor log (made u old) b seen job
        o = winding.over seen job there is same

        at : (t : Bool) → has_end job.status.conditions ≡ t → t ≡ false
        at true t = absurd (true≢false (sym (silent-quiet (planned b) (made u old) ask next (o.releases_only t)) ∙ loud))
        at false t = refl

        before : (t : Bool) → has_end seen.status.conditions ≡ t → t ≡ false
        before true t = absurd (true≢false (sym (silent-quiet (planned b) (made u old) ask next (o.releases_only (o.ends t))) ∙ loud))
        before false t = refl

    -- What a write of an end leaves.
    sets-first : (seen : Job) (status : JobStatus) → b.job ≡ Some seen → (planned b).first ≡ Some status → has_end seen.status.conditions ≡ false → has_end status.conditions ≡ true →
        IsFinalStatus status × IsClosed (own_pods seen (pods_under b.key log))
    sets-first seen status there first none end =
        let is = changed-is seen.status (first_value seen b) status (sym (plan-first b seen there) ∙ first) in
        let new = ap (λ (s : JobStatus). has_end s.conditions) is ∙ end in
        (subst IsFinalStatus is (first-rests seen b none new), first-closes log stored old u b flight seen there (first-wound seen b none new) (first-released seen b none new))

    sets-second : (seen : Job) (status : JobStatus) → b.job ≡ Some seen → (planned b).second ≡ Some status → ask
        ≡ WriteSecond → has_end seen.status.conditions ≡ false → has_end status.conditions ≡ true → IsFinalStatus status
        × IsClosed (own_pods seen (pods_under b.key log))
    sets-second seen status there second a none end =
        let is = changed-is (first_value seen b) (second_value seen b) status (sym (plan-second b seen there) ∙ second) in
        let new = ap (λ (s : JobStatus). has_end s.conditions) is ∙ end in
        (subst IsFinalStatus is (second-rests seen b none new), second-closes log stored old u b flight seen there (second-wound seen b none new) (lost place))
      where
        lost : Where log (planned b) (made u old) ask → AreLost log (planned b).releases
        lost (InEarly lt e) = absurd (true≢false (sym e ∙ ap is_early a))
        lost (AtFirst f status i tail) = absurd (true≢false (sym (ap is_first (sym f ∙ a))))
          where
            is_first : Ask → Bool
            is_first WriteFirst = false
            is_first other = true
        lost (AtRelease done v rest f split tail l) = absurd (true≢false (ap is_quiet (sym f ∙ a)))
        lost (AtSecond f status s tail l) = l

    -- What the request appends, where it appends.
    pub entry-own : (e : Entry) → (ask_gives log now b (made u old) ask).entry ≡ Some e → (k : Key) → is_work k e log ≡ true → b.key ≡ k
    entry-own e is k work =
        (subst (λ x. IfSome x (λ e. (k : Key) → is_work k e log ≡ true → (b.key ≡ k)
        × (floor_given (as_answer (ask_gives log now b (made u old) ask).reply) ≡ Some (next_version log)))) is
        (ask-own log now b (made u old) ask (seen-key log b flight.basis)) k work).0

    pub entry-is : (e : Entry) → (ask_gives log now b (made u old) ask).entry ≡ Some e → Appends log (planned b) b.job ask e
    entry-is e is = subst (λ x. IfSome x (Appends log (planned b) b.job ask)) is (appends log now b (made u old) (seen-key log b flight.basis) ask)

    pub current-there : (seen : Job) → b.job ≡ Some seen → (current : Job) → job_in seen.key log ≡ Some current → job_in b.key log ≡ Some current
    current-there seen there current is = ap (λ k. job_in k log) (sym (seen-key log b flight.basis seen there)) ∙ is

    -- Jobs that have ended.
    finished-asked : (e : Entry) → Writes log e → (ask_gives log now b (made u old) ask).entry ≡ Some e → (k : Key) → IsFinishedAt (e ∷ log) k
    finished-asked e w is k = at (is_work k e log) refl
      where
        written : (seen : Job) (status : JobStatus) → b.job ≡ Some seen → is_quiet ask ≡ false → IsStatus log seen status e
            → (has_end seen.status.conditions ≡ false → has_end status.conditions ≡ true → IsFinalStatus status × IsClosed (own_pods seen (pods_under b.key log))) → is_work k e log ≡ true → IsFinishedAt (e ∷ log) k
        written seen status there loud s sets work =
            let put = with_status log s.current status in
            let bk = entry-own e is k work in
            let cur = current-there seen there s.current s.there in
            let none = unended seen s.current there cur s.uid loud in
            subst (λ x. IsFinishedAt (x ∷ log) k) (sym s.is)
            (finished-written put log k (ap (λ q. same_key q k) (job_in-key seen.key log s.current s.there ∙ seen-key log b flight.basis seen there ∙ bk) ∙ same_key-itself k) (ap (λ x. is_work k x log) (sym s.is) ∙ work)
            (λ end. let got = sets none.1 end in (got.0, same-own put seen s.uid (pods_under k log) (subst (λ q. IsClosed (own_pods seen (pods_under q log))) bk got.1))))

        by : Appends log (planned b) b.job ask e → is_work k e log ≡ true → IsFinishedAt (e ∷ log) k
        by (Idly q idle) work = absurd (true≢false (sym work ∙ idle k))
        by (Makes seen pod index a there s owner uid) work =
            let bk = entry-own e is k work in
            subst (λ x. IsFinishedAt (x ∷ log) k) (sym s)
            (finished-made pod log k (h.finished k) (ap (λ x. is_work k x log) (sym s) ∙ work)
            (λ job there_now end. other job there_now end bk (same_uid pod.owner_uid job.uid) refl))
          where
            other : (job : Job) → job_in k log ≡ Some job → has_end job.status.conditions ≡ true → b.key ≡ k → (t : Bool) → same_uid pod.owner_uid job.uid ≡ t → t ≡ false
            other job now_there end bk true t = absurd (true≢false (sym end ∙ (unended seen job there (ap (λ q. job_in q log) bk ∙ now_there) (sym (same_uid-eq pod.owner_uid job.uid t) ∙ uid) (ap is_quiet a)).0))
            other job now_there end bk false t = refl
        by (First seen status a there first s) work = written seen status there (ap is_quiet a) s (sets-first seen status there first) work
        by (Second seen status a there second s) work = written seen status there (ap is_quiet a) s (sets-second seen status there second a) work

        at : (t : Bool) → is_work k e log ≡ t → IsFinishedAt (e ∷ log) k
        at false t = finished-idle e log w stored k t (h.finished k)
        at true t = by (entry-is e is) t

    -- The other syncs.
    other-winding : (e : Entry) → Writes log e → (ask_gives log now b (made u old) ask).entry ≡ Some e → (v : ℕ) (c : Basis) → (u == v) ≡ false → register v old ≡ Some c → IsKnownSync (e ∷ log) (made v old) c
    other-winding e w is v c ne rc =
        let f = h.flights v c rc in
        winding-more e log w stored c (bounded.flights v c rc).basis (none (is_work c.key e log) refl) (made v old) (made v old) (progress-more log (e ∷ log) (planned c) (made v old) (lost-more e log w) f.progress) (λ s. s) f
      where
        none : (t : Bool) → is_work c.key e log ≡ t → is_work c.key e log ≡ false
        none false t = t
        none true t = absurd (true≢false (sym (eq-eqb u v (apart.apart u v b c r rc (ap (same_key b.key) (sym (entry-own e is c.key t)) ∙ same_key-itself b.key))) ∙ ne))

    -- The sync itself.
    known-next : Where log (planned b) (made u old) ask → (v : Uid) → ask ≡ ReleasePod v → is_never (life v log) ≡ false
    known-next (InEarly lt e) v a = absurd (true≢false (sym e ∙ ap is_early a))
    known-next (AtFirst f status i tail) v a = absurd (true≢false (ap is_quiet (sym a ∙ f)))
    known-next (AtRelease done x rest f split tail l) v a = subst (λ q. is_never (life q log) ≡ false) (release-of x v (sym f ∙ a)) (split-of done rest x (subst (λ us. Each (λ q. is_never (life q log) ≡ false) us) split winding.known))
      where
        release-of : (x y : Uid) → ReleasePod x ≡ ReleasePod y → x ≡ y
        release-of x y e = ap (uid-in x) e
          where
            uid-in : Uid → Ask → Uid
            uid-in d (ReleasePod q) = q
            uid-in d other = d

        split-of : (done rest : List Uid) (x : Uid) → Each (λ q. is_never (life q log) ≡ false) (done ++ x ∷ rest) → is_never (life x log) ≡ false
        split-of [] rest x e = e.0
        split-of (y ∷ done) rest x e = split-of done rest x e.1
    known-next (AtSecond f status s tail l) v a = absurd (true≢false (ap is_quiet (sym a ∙ f)))

    self-progress : (o : Option Entry) → o ≡ (ask_gives log now b (made u old) ask).entry
        → ((v : Uid) → is_lost (life v log) ≡ true → is_lost (life v (grown log o)) ≡ true)
        → Progress (grown log o) (planned b) (more (made u old) (as_request ask) given)
    self-progress o from keep = progress-step log (planned b) (made u old) ask next (grown log o) keep given place loses
      where
        loses : (v : Uid) → ask ≡ ReleasePod v → is_lost (life v (grown log o)) ≡ true
        loses v a = subst (λ x. is_lost (life v (grown log x)) ≡ true) (sym (from ∙ ap (λ x. (ask_gives log now b (made u old) x).entry) a ∙ ap (λ y. y.entry) (release-is log now b (made u old) v))) (release-loses v log (known-next place v a))

    quiet-silent : AsksReleasesOnly (planned b) (made u old) → AsksReleasesOnly (planned b) (more (made u old) (as_request ask) given)
    quiet-silent = silent-step (planned b) (made u old) ask next given

    self-none : None ≡ (ask_gives log now b (made u old) ask).entry → IsKnownSync log (more (made u old) (as_request ask) given) b
    self-none from = record {
      progress = self-progress None from (λ v l. l);
      known = winding.known;
      over = λ seen job there is same. let o = winding.over seen job there is same in record { ends = o.ends; releases_only = λ e. quiet-silent (o.releases_only e) };
    }

    self-entry : (e : Entry) → Writes log e → Some e ≡ (ask_gives log now b (made u old) ask).entry → IsKnownSync (e ∷ log) (more (made u old) (as_request ask) given) b
    self-entry e w from = at (is_work b.key e log) refl
      where
        progress : Progress (e ∷ log) (planned b) (more (made u old) (as_request ask) given)
        progress = self-progress (Some e) from (lost-more e log w)

        known : Each (λ v. is_never (life v (e ∷ log)) ≡ false) (planned b).releases
        known = Each-weaker (λ v. is_never (life v log) ≡ false) (λ v. is_never (life v (e ∷ log)) ≡ false) (λ v. known-entry v e log) (planned b).releases winding.known

        written : (mine : Job) (status : JobStatus) → b.job ≡ Some mine → is_quiet ask ≡ false
            → IsStatus log mine status e → (has_end mine.status.conditions ≡ false → has_end status.conditions ≡ true
            → AsksReleasesOnly (planned b) (more (made u old) (as_request ask) given))
            → IsKnownSync (e ∷ log) (more (made u old) (as_request ask) given) b
        written mine status there loud s silent = record {
          progress = progress;
          known = known;
          over = λ seen job seen_there is same.
              let put = with_status log s.current status in
              let one = some_is mine seen (sym there ∙ seen_there) in
              let cur = current-there mine there s.current s.there in
              let none = unended mine s.current there cur s.uid loud in
              let key : same_key put.key b.key ≡ true = ap (λ q. same_key q b.key) (job_in-key b.key log s.current cur) ∙ same_key-itself b.key in
              let job_is : put ≡ job = some_is put job (sym (cond-true (same_key put.key b.key) (Some put) (job_in b.key log) key) ∙ ap (λ x. job_in b.key (x ∷ log)) (sym s.is) ∙ is) in
              record {
                ends = λ x. absurd (true≢false (sym x ∙ ap (λ (j : Job). has_end j.status.conditions) (sym one) ∙ none.1));
                releases_only = λ x. silent none.1 (ap (λ (j : Job). has_end j.status.conditions) job_is ∙ x);
              };
        }

        silent-first : (mine : Job) (status : JobStatus) → b.job ≡ Some mine → (planned b).first ≡ Some status → ask
            ≡ WriteFirst → has_end mine.status.conditions ≡ false → has_end status.conditions ≡ true
            → AsksReleasesOnly (planned b) (more (made u old) (as_request ask) given)
        silent-first mine status there first a none end = by place
          where
            new : has_end (first_value mine b).conditions ≡ true
            new = ap (λ (s : JobStatus). has_end s.conditions) (changed-is mine.status (first_value mine b) status (sym (plan-first b mine there) ∙ first)) ∙ end

            no-second : (planned b).second ≡ None
            no-second = plan-second b mine there ∙ changed-none (first_value mine b) (second_value mine b) (sym (first-same mine b none new))

            by : Where log (planned b) (made u old) ask → AsksReleasesOnly (planned b) (more (made u old) (as_request ask) given)
            by (InEarly lt e) = absurd (true≢false (sym e ∙ ap is_early a))
            by (AtFirst f st i tail) =
                silent-after (planned b) (made u old) ask next given (λ v. ap (λ x. lets_go_of v (as_request x)) a) (planned b).releases
                (tail ∙ ap (λ (o : Option JobStatus). map ReleasePod (planned b).releases ++ map (λ status. WriteSecond) (option_to_list o)) no-second ∙ append-nil (map ReleasePod (planned b).releases))
            by (AtRelease done x rest f split tail l) = absurd (true≢false (ap is_quiet (sym f ∙ a)))
            by (AtSecond f st s tail l) = absurd (true≢false (ap is_first (sym f ∙ a)))
              where
                is_first : Ask → Bool
                is_first WriteFirst = false
                is_first other = true

        silent-second : ask ≡ WriteSecond → AsksReleasesOnly (planned b) (more (made u old) (as_request ask) given)
        silent-second a = by place
          where
            by : Where log (planned b) (made u old) ask → AsksReleasesOnly (planned b) (more (made u old) (as_request ask) given)
            by (InEarly lt e) = absurd (true≢false (sym e ∙ ap is_early a))
            by (AtFirst f st i tail) = absurd (true≢false (ap is_first (sym a ∙ f)))
              where
                is_first : Ask → Bool
                is_first WriteFirst = false
                is_first other = true
            by (AtRelease done x rest f split tail l) = absurd (true≢false (ap is_quiet (sym f ∙ a)))
            by (AtSecond f st s tail l) = silent-after (planned b) (made u old) ask next given (λ v. ap (λ x. lets_go_of v (as_request x)) a) [] tail

        by : Appends log (planned b) b.job ask e → is_work b.key e log ≡ true → IsKnownSync (e ∷ log) (more (made u old) (as_request ask) given) b
        by (Idly q idle) work = absurd (true≢false (sym work ∙ idle b.key))
        by (Makes mine pod index a there s owner uid) work = record {
          progress = progress;
          known = known;
          over = λ seen job seen_there is same.
              let before = ap (λ x. job_in b.key (x ∷ log)) (sym s) ∙ is in
              let o = winding.over seen job seen_there before same in
              record { ends = o.ends; releases_only = λ x. absurd (true≢false (sym x ∙ (unended seen job seen_there before same (ap is_quiet a)).0)) };
        }
        by (First mine status a there first s) work = written mine status there (ap is_quiet a) s (silent-first mine status there first a)
        by (Second mine status a there second s) work = written mine status there (ap is_quiet a) s (λ none end. silent-second a)

        at : (t : Bool) → is_work b.key e log ≡ t → IsKnownSync (e ∷ log) (more (made u old) (as_request ask) given) b
        at false t = winding-more e log w stored b flight.basis t (made u old) (more (made u old) (as_request ask) given) progress quiet-silent winding
        at true t = by (entry-is e (sym from)) t

    self-winding : (o : Option Entry) → Stored (grown log o) → o ≡ (ask_gives log now b (made u old) ask).entry → IsKnownSync (grown log o) (more (made u old) (as_request ask) given) b
    self-winding None s from = self-none from
    self-winding (Some e) s from = self-entry e s.0 from

    others : (o : Option Entry) → Stored (grown log o) → (o ≡ None) ⊎ (o ≡ (ask_gives log now b (made u old) ask).entry) → (v : ℕ) (c : Basis) → (u == v) ≡ false → register v old ≡ Some c → IsKnownSync (grown log o) (made v old) c
    others None s from v c ne rc = h.flights v c rc
    others (Some e) s (inl n) v c ne rc = absurd (true≢false (ap is_some n))
    others (Some e) s (inr n) v c ne rc = other-winding e s.0 (sym n) v c ne rc

    finished-all : (o : Option Entry) → Stored (grown log o) → (o ≡ None) ⊎ (o ≡ (ask_gives log now b (made u old) ask).entry) → (k : Key) → IsFinishedAt (grown log o) k
    finished-all None s from k = h.finished k
    finished-all (Some e) s (inl n) k = absurd (true≢false (ap is_some n))
    finished-all (Some e) s (inr n) k = finished-asked e s.0 (sym n) k

    stepped-final : (o : Option Entry) → Stored (grown log o) → o ≡ (ask_gives log now b (made u old) ask).entry → KnowsEnds (grown log o) asked
    stepped-final o s from = record { finished = finished-all o s (inr from); flights = λ v c rc. by v c rc (asked-made u b (as_request ask) given old v) }
      where
        by : (v : ℕ) (c : Basis) → register v old ≡ Some c → (((u == v) ≡ false) × (made v asked ≡ made v old)) ⊎ (((u == v) ≡ true) × (made v asked ≡ more (made v old) (as_request ask) given)) → IsKnownSync (grown log o) (made v asked) c
        by v c rc (inl e) = subst (λ m. IsKnownSync (grown log o) m c) (sym e.1) (others o s (inr from) v c e.0 rc)
        by v c rc (inr e) =
            let uv = eqb-true u v e.0 in
            let same = some_is b c (sym r ∙ ap (λ x. register x old) uv ∙ rc) in
            subst (λ m. IsKnownSync (grown log o) m c) (sym e.1)
            (subst (λ x. IsKnownSync (grown log o) (more (made x old) (as_request ask) given) c) uv
            (subst (IsKnownSync (grown log o) (more (made u old) (as_request ask) given)) same (self-winding o s from)))

    stopped-final : (o : Option Entry) (end : SyncEnd) → Stored (grown log o) → (o ≡ None) ⊎ (o ≡ (ask_gives log now b (made u old) ask).entry) → KnowsEnds (grown log o) (Ended u b end now ∷ asked)
    stopped-final o end s from = record {
      finished = finished-all o s from;
      flights = λ v c rc.
          let n = ended-register u b end now asked v c rc in
          subst (λ m. IsKnownSync (grown log o) m c) (sym (ended-made u b end now asked v)) (by v c n.0 n.1 (asked-made u b (as_request ask) given old v));
    }
      where
        by : (v : ℕ) (c : Basis) → (u == v) ≡ false → register v old ≡ Some c
            → (((u == v) ≡ false) × (made v asked ≡ made v old))
            ⊎ (((u == v) ≡ true) × (made v asked ≡ more (made v old) (as_request ask) given))
            → IsKnownSync (grown log o) (made v asked) c
        by v c ne rc (inl e) = subst (λ m. IsKnownSync (grown log o) m c) (sym e.1) (others o s from v c ne rc)
        by v c ne rc (inr e) = absurd (true≢false (sym e.0 ∙ ne))

  finished-final : (u : ℕ) (b : Basis) (end : SyncEnd) (now : ℕ) → KnowsEnds log (Ended u b end now ∷ old)
  finished-final u b end now = record { finished = h.finished; flights = λ v c rc. let n = ended-register u b end now old v c rc in same-winding _ v c n.1 (ended-made u b end now old v) }

  pub turn-final : (now : ℕ) (log' : List Entry) (new : List Note) → Stored log' → Turn now log old log' new → KnowsEnds log' new
  turn-final now log' new s (Still l n) = subst (λ x. KnowsEnds x new) (sym l) (subst (KnowsEnds log) (sym n) h)
  turn-final now log' new s (Restarted l n) = subst (λ x. KnowsEnds x new) (sym l) (subst (KnowsEnds log) (sym n) (record { finished = h.finished; flights = λ w b e. absurd (true≢false (sym (ap is_some e))) }))
  turn-final now log' new s (Noted note l n news) =
      subst (λ x. KnowsEnds x new) (sym l) (subst (KnowsEnds log) (sym n)
      (record { finished = h.finished; flights = λ w b e. same-winding (made w (note ∷ old)) w b (sym (news-register (length log) old note news w) ∙ e) (news-made (length log) old note news w) }))
  turn-final now log' new s (Wrote e l n idle) = subst (λ x. KnowsEnds x new) (sym l) (subst (KnowsEnds (e ∷ log)) (sym n) (wrote-final e (subst Stored l s).0 idle))
  turn-final now log' new s (Begins w k j p jobs pods fresh free l n) = subst (λ x. KnowsEnds x new) (sym l) (subst (KnowsEnds log) (sym n) (begun-final w k j p now jobs pods fresh))
  turn-final now log' new s (Stepped w b ask given o r next answer from l n) = subst (λ x. KnowsEnds x new) (sym l) (subst (KnowsEnds (grown log o)) (sym n) (stepped-final w b ask given now r next o (subst Stored l s) from))
  turn-final now log' new s (Stopped w b ask given o end r next from lost l n) = subst (λ x. KnowsEnds x new) (sym l) (subst (KnowsEnds (grown log o)) (sym n) (stopped-final w b ask given now r next o end (subst Stored l s) from))
  turn-final now log' new s (Finished w b r l n) = subst (λ x. KnowsEnds x new) (sym l) (subst (KnowsEnds log) (sym n) (finished-final w b _ now))

-- ---- every legal history

neat-before : (log : List Entry) (o : Option Entry) → AlwaysHaveIndexTotals (grown log o) → AlwaysHaveIndexTotals log
neat-before log None h = h
neat-before log (Some e) h = λ n k job is. by n k job is (nat_lt (length log) n) refl
  where
    by : (n : ℕ) (k : Key) (job : Job) → job_in k (upto n log) ≡ Some job → (t : Bool) → nat_lt (length log) n ≡ t → HasIndexTotals job
    by n k job is true t = h (length log) k job (ap (job_in k) (upto-fixed (length log) e log (omega arith) ∙ upto-all (length log) log (omega arith) ∙ sym (upto-all n log (let lt = ltb-true (length log) n t in omega (arith, lt)))) ∙ is)
    by n k job is false t = h n k job (ap (job_in k) (upto-fixed n e log (ltb-false (length log) n t)) ∙ is)

pub neat-past : (shape : Shape) (past : List Deed) (d : Deed) → AlwaysHaveIndexTotals (log_given shape (d ∷ past)) → AlwaysHaveIndexTotals (log_given shape past)
unfolding log_given
neat-past shape past d = neat-before (log_given shape past) (gives shape past (log_given shape past) d.act).entry

pub legal-final : (shape : Shape) (deeds : List Deed) → shape.controllers ≡ 1 → IsLegal shape deeds → Stored (log_given shape deeds) → AlwaysHaveIndexTotals (log_given shape deeds) → KnowsEnds
    (log_given shape deeds) (notes shape 0 deeds (log_given shape deeds))
unfolding log_given
legal-final shape [] one h s neat = record { finished = λ k job e. absurd (true≢false (sym (ap is_some e))); flights = λ w b e. absurd (true≢false (sym (ap is_some e))) }
legal-final shape (d ∷ past) one h s neat =
    let before = stored-before shape past d s in
    turn-final (log_given shape past) before (neat-past shape past d neat) (notes shape 0 past (log_given shape past))
    (legal-bounded shape past one h.1 before) (legal-final shape past one h.1 before (neat-past shape past d neat))
    (fit-apart (notes shape 0 past (log_given shape past)) (legal-fit shape 0 past h.1)) (legal-within shape 0 past h.1)
    (moment shape past) (log_given shape (d ∷ past)) (notes shape 0 (d ∷ past) (log_given shape (d ∷ past))) s (turn shape past d one h)
