-- What a request of a sync appends.
use Rattle.std.proofs.Common.{◌≡◌, ℕ, zero, suc, ◌<◌, ◌==◌, Bool, true, false, cond, not, List, [], ◌∷◌, ◌++◌, length, map, slice_get, Option, Some, None, IfSome, is_some, refl, sym, ap, ◌∙◌, true≢false, arith}
use Rattle.std.specs.List.{AllByRecursion as Each, flat_map}
use Rattle.std.specs.Option.{option_to_list}
use Rattle.jc_plan.specs.declared.plans.Planned.{Planned}
use Rattle.jc_types.specs.declared.numbers.Uid.{Uid}
use Rattle.jc_types.specs.declared.numbers.Version.{Version}
use Rattle.jc_types.specs.declared.objects.Entry.{Entry}
use Rattle.jc_types.specs.declared.objects.Entry.TheVariants.{JobPut}
use Rattle.jc_types.specs.declared.objects.Job.{Job}
use Rattle.jc_types.specs.declared.replies.Answer.{Answer}
use Rattle.jc_types.specs.declared.replies.Reply.TheVariants as reply
use Rattle.jc_types.specs.declared.replies.Request.{Request}
use Rattle.jc_types.specs.declared.statuses.JobStatus.{JobStatus}
use Rattle.jc_log.specs.Requests.{Answered, accepted, let_go_gives, mark_pod_gives, refused, release_gives, with_status, write_status_at, write_status_gives}
use Rattle.jc_types.specs.declared.objects.KeyNames.{KeyNames as Key}
use Rattle.jc_types.specs.Keys.{same_key, same_uid}
use Rattle.jc_log.specs.Log.{job_in, next_version}
use Rattle.jc_types.specs.Equality.{same_status}
use Rattle.jc_types.proofs.KeyFacts.{same_key-eq}
use Rattle.jc_types.proofs.ListFacts.{Each-append}
use Rattle.jc_log.proofs.WriteFacts.{job_in-key}
use Rattle.jc_asks.specs.declared.asks.Ask.{Ask}
use Rattle.jc_asks.specs.declared.asks.Ask.TheVariants.{MakePod, MarkPod, LetPodGo, WriteFirst, ReleasePod, WriteSecond}
use Rattle.jc_plan.specs.Plans.{planned}
use Rattle.jc_states.specs.declared.bases.Basis.{Basis}
use Rattle.jc_asks.specs.Steps.{make_gives, status_gives, written_gives, as_answer, floor_given}
use Rattle.jc_history.specs.SoFar.{so_far}
use Rattle.jc_bounds.specs.RequestKinds.{was_let_go, let_go_asks, asks, ask_gives}
use Rattle.jc_bounds.specs.Work.{is_birth, is_work}
use Rattle.std.proofs.lemmas.Bool.{and_parts}
use Rattle.jc_bounds.proofs.Turns.{IsIdleEntry, Quiet, let_go-quiet, mark-quiet, release-quiet}
use Rattle.jc_bounds.proofs.WorkFacts.{birth-works}

-- ---- creations come first

abbrev pub is_make : Ask → Bool
is_make (MakePod index) = true
is_make other = false

abbrev pub NoMakes : List Ask → Type 0
NoMakes some = Each (λ ask. is_make ask ≡ false) some

marks-make : (uids : List Uid) → NoMakes (map MarkPod uids)
marks-make [] = tt
marks-make (u ∷ uids) = (refl, marks-make uids)

releases-make : (uids : List Uid) → NoMakes (map ReleasePod uids)
releases-make [] = tt
releases-make (u ∷ uids) = (refl, releases-make uids)

lets-make : (made : List (Request × Answer)) (rows : List (Uid × Version)) → NoMakes (flat_map (let_go_asks made) rows)
lets-make made [] = tt
lets-make made (row ∷ rows) = Each-append (λ ask. is_make ask ≡ false) (let_go_asks made row) (flat_map (let_go_asks made) rows) (refl, by (was_let_go row.0 made)) (lets-make made rows)
  where
    by : (b : Bool) → NoMakes (cond b (MarkPod row.0 ∷ []) [])
    by true = (refl, tt)
    by false = tt

first-make : (o : Option JobStatus) → NoMakes (map (λ status. WriteFirst) (option_to_list o))
first-make None = tt
first-make (Some status) = (refl, tt)

second-make : (o : Option JobStatus) → NoMakes (map (λ status. WriteSecond) (option_to_list o))
second-make None = tt
second-make (Some status) = (refl, tt)

none-made : (some : List Ask) (n : ℕ) (index : Option ℕ) → NoMakes some → slice_get some n ≡ Some (MakePod index) → ⊥
none-made [] n index h e = true≢false (sym (ap is_some e))
none-made (ask ∷ some) zero index h e = true≢false (sym (sym h.0 ∙ ap (λ (o : Option Ask). elim o [ None ↦ true | Some a ↦ is_make a ]) e))
none-made (ask ∷ some) (suc n) index h e = none-made some n index h.1 e

among-makes : (xs : List (Option ℕ)) (rest : List Ask) (n : ℕ) (index : Option ℕ) → NoMakes rest → slice_get (map MakePod xs ++ rest) n ≡ Some (MakePod index) → n < length xs
among-makes [] rest n index h e = absurd (none-made rest n index h e)
among-makes (x ∷ xs) rest zero index h e = omega arith
among-makes (x ∷ xs) rest (suc n) index h e = let lt = among-makes xs rest n index h e in omega (arith, lt)

-- Where the next request makes a pod, fewer were made than the plan makes.
pub makes-first : (plan : Planned) (made : List (Request × Answer)) (index : Option ℕ) → slice_get (asks plan made) (length made) ≡ Some (MakePod index) → length made < length plan.creates
makes-first plan made index e = among-makes plan.creates rest (length made) index none e
  where
    rest : List Ask
    rest = map MarkPod plan.marks ++ (flat_map (let_go_asks made) plan.let_goes ++ (map (λ status. WriteFirst) (option_to_list plan.first) ++ (map ReleasePod plan.releases ++ map (λ status. WriteSecond) (option_to_list plan.second))))

    P : Ask → Type 0
    P ask = is_make ask ≡ false

    none : NoMakes (map MarkPod plan.marks ++ (flat_map (let_go_asks made) plan.let_goes ++ (map (λ status. WriteFirst) (option_to_list plan.first) ++ (map ReleasePod plan.releases ++ map (λ status. WriteSecond) (option_to_list plan.second)))))
    none = Each-append P _ _ (marks-make plan.marks) (Each-append P _ _ (lets-make made plan.let_goes) (Each-append P _ _ (first-make plan.first) (Each-append P _ _ (releases-make plan.releases) (second-make plan.second))))

-- ---- what is appended

-- Work is for the sync's key, and the answer tells its version.
abbrev pub IsOwn : Key → List Entry → Answered → Type 0
IsOwn key log a = IfSome a.entry (λ e. (k : Key) → is_work k e log ≡ true → (key ≡ k) × (floor_given (as_answer a.reply) ≡ Some (next_version log)))

quiet-own : (key : Key) (log : List Entry) (a : Answered) → Quiet log a → IsOwn key log a
quiet-own key log a q = by a.entry q
  where
    by : (o : Option Entry) → IfSome o (IsIdleEntry log) → IfSome o (λ e. (k : Key) → is_work k e log ≡ true → (key ≡ k) × (floor_given (as_answer a.reply) ≡ Some (next_version log)))
    by None q = tt
    by (Some e) q = λ k w. absurd (true≢false (sym w ∙ q k))

status-own : (log : List Entry) (key : Key) (uid : Uid) (sends : Version) (status : JobStatus) → IsOwn key log (write_status_gives log key uid sends status)
status-own log key uid sends status = by (job_in key log) refl
  where
    at : (job : Job) → job_in key log ≡ Some job → (a b c : Bool)
        → IsOwn key log (cond a (refused reply.NotFound)
        (cond b (refused (reply.Conflict job.version))
        (cond c (refused (reply.Unchanged job.version))
        (accepted (reply.Written (next_version log)) (JobPut (with_status log job status))))))
    at job is true b c = tt
    at job is false true c = tt
    at job is false false true = tt
    at job is false false false = λ k w. (sym (job_in-key key log job is) ∙ same_key-eq job.key k ((and_parts (same_key job.key k) _ w).0), refl)

    by : (o : Option Job) → job_in key log ≡ o → IsOwn key log (write_status_at log uid sends status o)
    by None is = tt
    by (Some job) is = at job is (not (same_uid job.uid uid)) (not (job.version.0 == sends.0)) (same_status job.status status)

module _ (log : List Entry) (now : ℕ) (b : Basis) (made : List (Request × Answer)) where
  own-written : (o : Option JobStatus) → IsOwn b.key log (written_gives log (so_far b made).flight o)
  own-written None = tt
  own-written (Some status) = by b.job
    where
      by : (o : Option Job) → IsOwn b.key log (status_gives log (so_far b made).flight status o)
      by None = tt
      by (Some job) = status-own log b.key job.uid (so_far b made).flight.sends status

  pub ask-own : (ask : Ask) → ((job : Job) → b.job ≡ Some job → job.key ≡ b.key) → IsOwn b.key log (ask_gives log now b made ask)
  ask-own (ReleasePod pod) is = quiet-own b.key log (release_gives log pod) (release-quiet log pod)
  ask-own (MakePod index) is = by b.job refl
    where
      by : (o : Option Job) → b.job ≡ o → IsOwn b.key log (make_gives log index now o)
      by None e = tt
      by (Some job) e = λ k w. (sym (is job e) ∙ same_key-eq job.key k ((and_parts (same_key job.key k) _ w).0), refl)
  ask-own (MarkPod pod) is = quiet-own b.key log (mark_pod_gives log pod now) (mark-quiet log pod now)
  ask-own (LetPodGo pod version) is = quiet-own b.key log (let_go_gives log pod version) (let_go-quiet log pod version)
  ask-own WriteFirst is = own-written (planned b).first
  ask-own WriteSecond is = own-written (planned b).second

  -- No other request than a creation makes a pod.
  abbrev pub MakesNone : Answered → Type 0
  MakesNone a = IfSome a.entry (λ e. (k : Key) → is_birth k e log ≡ false)

  quiet-none : (a : Answered) → Quiet log a → MakesNone a
  quiet-none a q = by a.entry q
    where
      by : (o : Option Entry) → IfSome o (IsIdleEntry log) → IfSome o (λ e. (k : Key) → is_birth k e log ≡ false)
      by None q = tt
      by (Some e) q = λ k. birth-works k e log (q k)

  status-none : (o : Option JobStatus) → MakesNone (written_gives log (so_far b made).flight o)
  status-none None = tt
  status-none (Some status) = of b.job
    where
      at : (old : Job) (a b c : Bool) → MakesNone
          (cond a (refused reply.NotFound) (cond b (refused (reply.Conflict old.version))
          (cond c (refused (reply.Unchanged old.version))
          (accepted (reply.Written (next_version log)) (JobPut (with_status log old status))))))
      at old true b c = tt
      at old false true c = tt
      at old false false true = tt
      at old false false false = λ k. refl

      by : (uid : Uid) (sends : Version) (o : Option Job) → MakesNone (write_status_at log uid sends status o)
      by uid sends None = tt
      by uid sends (Some old) = at old (not (same_uid old.uid uid)) (not (old.version.0 == sends.0)) (same_status old.status status)

      of : (o : Option Job) → MakesNone (status_gives log (so_far b made).flight status o)
      of None = tt
      of (Some job) = by job.uid (so_far b made).flight.sends (job_in b.key log)

  pub ask-makes : (ask : Ask) → is_make ask ≡ false → MakesNone (ask_gives log now b made ask)
  ask-makes (MakePod index) h = absurd (true≢false h)
  ask-makes (MarkPod pod) h = quiet-none (mark_pod_gives log pod now) (mark-quiet log pod now)
  ask-makes (LetPodGo pod version) h = quiet-none (let_go_gives log pod version) (let_go-quiet log pod version)
  ask-makes (ReleasePod pod) h = quiet-none (release_gives log pod) (release-quiet log pod)
  ask-makes WriteFirst h = status-none (planned b).first
  ask-makes WriteSecond h = status-none (planned b).second
