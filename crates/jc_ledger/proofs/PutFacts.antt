-- One more entry that puts the Job: an update, or a status that a sync writes and that judges the pods.
use Rattle.std.proofs.Common.{◌≡◌, ℕ, suc, ◌+◌, ◌≤◌, ◌==◌, Bool, true, false, cond, List, [], ◌∷◌, ◌++◌, length, map, filter, Option, Some, None, is_some, refl, sym, ap, ◌∙◌, subst, arith, eqb-true, eq-eqb, true≢false}
use Rattle.std.specs.Prelude.{IfSome}
use Rattle.std.specs.List.{AllByRecursion as Each, list_any}
use Rattle.std.specs.Option.{option_map_or}
use Rattle.std.proofs.lemmas.Bool.{cond-true, or_left, or_right}
use Rattle.std.proofs.lemmas.Option.{IfSome_then, same_Some}
use Rattle.jc_ranges.specs.Sets.{has}
use Rattle.jc_types.specs.declared.numbers.Uid.{Uid}
use Rattle.jc_types.specs.declared.objects.Entry.{Entry}
use Rattle.jc_types.specs.declared.objects.Entry.TheVariants.{JobPut}
use Rattle.jc_types.specs.declared.objects.Job.{Job}
use Rattle.jc_types.specs.declared.objects.Pod.{Pod}
use Rattle.jc_types.specs.declared.specifications.Mode.TheVariants.{NonIndexed, Indexed}
use Rattle.jc_log.specs.Deeds.{Deed}
use Rattle.jc_types.specs.declared.objects.KeyNames.{KeyNames as Key}
use Rattle.jc_types.specs.Keys.{same_key}
use Rattle.jc_log.specs.Log.{upto, entry_at, job_in, life, Live, is_lost}
use Rattle.jc_states.specs.ObjectChanges.{JobStep}
use Rattle.jc_log.specs.Writes.{Legal}
use Rattle.jc_types.proofs.KeyFacts.{same_key-itself}
use Rattle.jc_types.proofs.ListFacts.{Each-weaker}
use Rattle.jc_log.proofs.LogFacts.{upto-fixed, upto-all}
use Rattle.jc_failpol.specs.declared.outcomes.Outcome.TheVariants.{Succeeded, Failed}
use Rattle.jc_failpol.specs.declared.outcomes.Outcome.{Outcome}
use Rattle.jc_failpol.specs.Outcomes.{is_verdict, outcome_of}
use Rattle.jc_states.specs.Listed.{is_listed}
use Rattle.jc_states.specs.Indexes.{has_index}
use Rattle.jc_account.specs.Modes.{indexes_of}
use Rattle.jc_account.proofs.ListedFacts.{has-indexes}
use Rattle.jc_ledger.specs.declared.flights.Flight.{Flight}
use Rattle.jc_ledger.specs.Ledger.{Record, record_of, recorded, chosen, judged_as, Ledger, ledger_of}
use Rattle.jc_account.specs.Rooms.{joins_list}
use Rattle.jc_ledger.specs.Once.{IsJudged, SaysFails}
use Rattle.jc_ledger.specs.Tied.{made_as, HasOrderedLists, IsTrueRecord, IsListing, IsCurrent, TiesJob, Ties, Tied}
use Rattle.jc_ledger.proofs.FrameFacts.{IsTrueRecord-more}
use Rattle.jc_ledger.proofs.MadeFacts.{outcome-step}
use Rattle.jc_ledger.proofs.RecordFacts.{Found, Old, New, record_of-found, IsJudged-more}

-- A pod that the write judges, as it stood among the first `seen` entries.
pub record IsChosen (made : Job) (log : List Entry) (records : List Record) (seen : ℕ) (pod : Pod) : Type 0 where
  pub stood : life pod.uid (upto seen log) ≡ Live pod
  pub tracked : pod.tracked ≡ true
  pub owner : pod.owner_uid ≡ made.uid
  pub verdict : is_verdict (outcome_of made.spec pod) ≡ true
  pub fresh : is_some (record_of pod.uid records) ≡ false

-- The entry puts `new` over `current`, judges pods, and leaves the ledger as `after`. Its sync saw `job` and these
-- pods of it.
pub record Puts (made : Job) (log : List Entry) (ledger after : Ledger) (job : Job) (pods : List Pod) (seen_at : ℕ) (current new : Job) : Type 0 where
  pub legal : Legal (JobPut new ∷ log)
  pub is_made : made_as made.uid log ≡ Some made
  pub ties : TiesJob made log ledger
  pub there : job_in made.key log ≡ Some current
  pub uid : current.uid ≡ made.uid
  pub key : new.key ≡ made.key
  pub seen : seen_at ≤ length log
  pub step : JobStep made job
  pub records : after.records ≡ ledger.records ++ map (recorded job seen_at (suc (length log))) (chosen job ledger.records pods)
  pub each : Each (IsChosen made log ledger.records seen_at) (chosen job ledger.records pods)
  pub tidy : HasOrderedLists new
  pub listed : IsListing after.records (suc (length log)) new.status
  pub lost : (u : Uid) (r : Record) → record_of u after.records ≡ Some r → joins_list new.spec.mode r.outcome ≡ true
      → is_listed new.status u ≡ false → is_lost (life u log) ≡ true
  pub failed : new.status.failed + length new.status.uncounted_failed ≡ length (judged_as Failed after.records)
  pub succeeded : new.spec.mode ≡ NonIndexed → new.status.succeeded + length new.status.uncounted_succeeded ≡ length (judged_as Succeeded after.records)
  pub completed : new.spec.mode ≡ Indexed → new.status.completed ≡ after.done
  pub by_index : SaysFails new.spec.per_index new after

-- ---- places

-- The Job that an entry puts, once one more entry puts `new`: it is this one, or was put before.
pub data Placed (v : ℕ) (log : List Entry) (new job : Job) : Type 0 where
  Here : v ≡ suc (length log) → new ≡ job → Placed v log new job
  Below : entry_at v log ≡ Some (JobPut job) → Placed v log new job

-- It is one of the two.
pub placed : (v : ℕ) (log : List Entry) (new job : Job) → entry_at v (JobPut new ∷ log) ≡ Some (JobPut job) → Placed v log new job
placed v log new job h = by (length (JobPut new ∷ log) == v) refl h
  where
    job_of : Option Entry → Job
    job_of None = new
    job_of (Some (JobPut j)) = j
    job_of (Some other) = new

    by : (b : Bool) → (length (JobPut new ∷ log) == v) ≡ b → cond b (Some (JobPut new)) (entry_at v log) ≡ Some (JobPut job) → Placed v log new job
    by true t g = Here (sym (eqb-true (length (JobPut new ∷ log)) v t)) (ap job_of g)
    by false t g = Below g

-- The Job of a key after an entry that puts it.
pub job_in-newest : (k : Key) (log : List Entry) (job : Job) → job.key ≡ k → job_in k (JobPut job ∷ log) ≡ Some job
job_in-newest k log job key =
    cond-true (same_key job.key k) (Some job) (job_in k log) (ap (λ own. same_key own k) key ∙ same_key-itself k)

-- ---- indexes

-- An element that passes is among those that pass: what it has, one of them has.
any_passing : {X : Type 0} (test : X → Bool) (xs : List X) → Each (λ x. test x ≡ true → (q : X → Bool) → q x ≡ true → list_any q (filter test xs) ≡ true) xs
any_passing {X} test [] = tt
any_passing {X} test (x ∷ xs) = (
  here (test x) refl,
  Each-weaker (λ y. test y ≡ true → (q : X → Bool) → q y ≡ true → list_any q (filter test xs)
      ≡ true) (λ y. test y ≡ true → (q : X → Bool) → q y ≡ true → list_any q (filter test (x ∷ xs)) ≡ true)
      (λ y h t q k. more q (test x) (h t q k)) xs (any_passing test xs),
)
  where
    here : (b : Bool) → test x ≡ b → b ≡ true → (q : X → Bool) → q x ≡ true → list_any q (cond b (x ∷ filter test xs) (filter test xs)) ≡ true
    here true e t q h = or_left (q x) (list_any q (filter test xs)) h
    here false e t q h = absurd (true≢false (sym t))

    more : (q : X → Bool) (b : Bool) → list_any q (filter test xs) ≡ true → list_any q (cond b (x ∷ filter test xs) (filter test xs)) ≡ true
    more q true h = or_right (q x) (list_any q (filter test xs)) h
    more q false h = h

-- An index that a pod has is its index.
has_own_index : (index : Option ℕ) → IfSome index (λ n. option_map_or (λ i. i == n) index false ≡ true)
has_own_index None = tt
has_own_index (Some n) = eq-eqb n n refl

-- The index of a pod that passes is among those of the pods that pass.
pub index_in : (test : Pod → Bool) (pods : List Pod) → Each (λ pod. test pod ≡ true → IfSome pod.index (λ n. has n (indexes_of (filter test pods)) ≡ true)) pods
index_in test pods =
    Each-weaker (λ pod. test pod ≡ true → (q : Pod → Bool) → q pod ≡ true → list_any q (filter test pods) ≡ true) (λ pod. test pod ≡ true → IfSome pod.index (λ n. has n (indexes_of (filter test pods)) ≡ true))
    (λ pod h t. IfSome_then pod.index (has_own_index pod.index) (λ n is. has-indexes n (filter test pods) ∙ h t (has_index n) is)) pods (any_passing test pods)

-- ---- the entry

module _ (made : Job) (log : List Entry) (ledger after : Ledger) (job : Job) (pods : List Pod) (seen : ℕ) (current new : Job) (p : Puts made log ledger after job pods seen current new) where
  -- The pods that the write judges.
  abbrev judges : List Pod
  judges = chosen job ledger.records pods

  -- A record is an old one, or that of a pod that the write judges.
  found : (u : Uid) (r : Record) → record_of u after.records ≡ Some r → Found (IsChosen made log ledger.records seen) u ledger.records job seen (suc (length log)) r
  found u r h =
      record_of-found (IsChosen made log ledger.records seen) u ledger.records job seen (suc (length log)) judges r p.each
      (ap (record_of u) (sym p.records) ∙ h)

  -- What was judged stays so.
  pub kept_judged : (u : Uid) (outcome : Outcome) (v : ℕ) → IsJudged ledger.records u outcome v → IsJudged after.records u outcome v
  kept_judged u outcome v j =
      subst (λ (rs : List Record). IsJudged rs u outcome v) (sym p.records)
      (IsJudged-more u ledger.records (map (recorded job seen (suc (length log))) judges) outcome v v (omega arith) j)

  -- The record of a pod that the write judges is true.
  sound_new : (pod : Pod) → IsChosen made log ledger.records seen pod → IsTrueRecord made (JobPut new ∷ log) (recorded job seen (suc (length log)) pod)
  sound_new pod c =
      let within = p.seen in
      let same = outcome-step made job pod p.step in
      record {
        before = omega (arith, within);
        within = omega arith;
        stood = ap (life pod.uid) (upto-fixed seen (JobPut new) log p.seen) ∙ c.stood;
        tracked = c.tracked;
        owner = c.owner;
        judged = sym same;
        verdict = ap is_verdict same ∙ c.verdict;
      }

  -- Each record is true.
  sound_found : (u : Uid) (r : Record) → Found (IsChosen made log ledger.records seen) u ledger.records job seen (suc (length log)) r → IsTrueRecord made (JobPut new ∷ log) r
  sound_found u r (Old e) = IsTrueRecord-more made (JobPut new) log r (p.ties.sound u r e)
  sound_found u r (New none pod uid has is) = subst (IsTrueRecord made (JobPut new ∷ log)) (sym is) (sound_new pod has)

  -- Of the Job as it is put all is known.
  current_new : IsCurrent (JobPut new ∷ log) after new
  current_new =
      let version : new.version.0 ≡ suc (length log) = p.legal.0.writes.version in
      record {
        lost = λ u r h listable unlisted.
            ap (λ (l : List Entry). is_lost (life u l)) (upto-all new.version.0 (JobPut new ∷ log) (omega (arith, version))) ∙ p.lost u r h listable unlisted;
        failed = p.failed;
        succeeded = p.succeeded;
        completed = p.completed;
        by_index = p.by_index;
        seen = λ u r h. (let within = (sound_found u r (found u r h)).within in omega (arith, version, within));
      }

  -- The Job of the key is the one that is put.
  now_new : (other : Job) → job_in made.key (JobPut new ∷ log) ≡ Some other → IsCurrent (JobPut new ∷ log) after other
  now_new other h =
      subst (IsCurrent (JobPut new ∷ log) after) (same_Some new other (sym (job_in-newest made.key log new p.key) ∙ h)) current_new

  -- The Jobs that were put have ordered lists.
  tidy_placed : (v : ℕ) (other : Job) → other.uid ≡ made.uid → Placed v log new other → HasOrderedLists other
  tidy_placed v other uid (Here at is) = subst HasOrderedLists is p.tidy
  tidy_placed v other uid (Below e) = p.ties.tidy v other e uid

  -- What they list was judged by then.
  listed_placed : (v : ℕ) (other : Job) → other.uid ≡ made.uid → Placed v log new other → IsListing after.records v other.status
  listed_placed v other uid (Here at is) =
      subst (λ (x : Job). IsListing after.records v x.status) is (subst (λ w. IsListing after.records w new.status) (sym at) p.listed)
  listed_placed v other uid (Below e) =
      let old = p.ties.listed v other e uid in
      record {
        failed = λ u h. kept_judged u Failed v (old.failed u h);
        succeeded = λ u h. kept_judged u Succeeded v (old.succeeded u h);
      }

-- What ties the ledger goes over.
pub ties_put : (made : Job) (log : List Entry) (ledger after : Ledger) (job : Job) (pods : List Pod) (seen : ℕ) (current new : Job)
    → Puts made log ledger after job pods seen current new → TiesJob made (JobPut new ∷ log) after
ties_put made log ledger after job pods seen current new p = record {
  waits = p.ties.waits;
  limited = p.ties.limited;
  sound = λ u r h. sound_found made log ledger after job pods seen current new p u r (found made log ledger after job pods seen current new p u r h);
  tidy = λ v other e uid. tidy_placed made log ledger after job pods seen current new p v other uid (placed v log new other e);
  listed = λ v other e uid. listed_placed made log ledger after job pods seen current new p v other uid (placed v log new other e);
  now = λ other h uid. now_new made log ledger after job pods seen current new p other h;
}

-- The ledger of a Job that was made is tied.
pub ties_of : (deeds : List Deed) (log : List Entry) (flights : List Flight) (made : Job) → Tied deeds log flights → made_as made.uid log ≡ Some made
    → TiesJob made log (ledger_of made.uid deeds log)
ties_of deeds log flights made t is = subst (λ (o : Option Job). Ties o log (ledger_of made.uid deeds log)) is (t.jobs made.uid)

-- And conversely.
pub ties_from : (log : List Entry) (ledger : Ledger) (made : Job) → made_as made.uid log ≡ Some made → TiesJob made log ledger → Ties (made_as made.uid log) log ledger
ties_from log ledger made is ties = subst (λ (o : Option Job). Ties o log ledger) (sym is) ties
