-- What the commands of a reaper find: each goes on from the history that the reaper saw, and nothing but they comes between.
use Rattle.std.proofs.Common.{◌≡◌, ℕ, ◌+◌, ◌-◌, ◌<◌, ◌≤◌, Bool, true, false, cond, not, ◌||◌, nat_lt, List, [], ◌∷◌, ◌++◌, map, reverse, Option, Some, None, is_some, refl, sym, ap, ◌∙◌, subst, arith, append_assoc, true≢false, ltb-true}
use Rattle.std.proofs.Common.{ltb-false, lt-ltb, ne_eqb}
use Rattle.std.specs.Prelude.{if◌then◌else◌}
use Rattle.std.specs.List.{AllByRecursion as Each}
use Rattle.std.specs.Map.{lookup}
use Rattle.std.proofs.lemmas.List.{map-append, reverse-append}
use Rattle.jc_log.specs.Range.{end_of_moments}
use Rattle.jc_types.specs.declared.actions.Action1.TheVariants as act
use Rattle.jc_types.specs.declared.actions.Command.{Command}
use Rattle.jc_types.specs.declared.numbers.Uid.{Uid}
use Rattle.jc_types.specs.declared.objects.Entry.{Entry}
use Rattle.jc_types.specs.declared.objects.Entry.TheVariants.{JobGone, PodGone, PodPut}
use Rattle.jc_types.specs.declared.objects.Job.{Job}
use Rattle.jc_types.specs.declared.objects.Pod.{Pod}
use Rattle.jc_types.specs.declared.replies.Reply.TheVariants as reply
use Rattle.jc_types.specs.declared.runs.Shape.{Shape}
use Rattle.jc_types.specs.declared.objects.KeyNames.{KeyNames as Key}
use Rattle.jc_types.specs.Keys.{same_key, same_uid}
use Rattle.jc_types.proofs.KeyFacts.{same_uid-eq, same_uid-itself}
use Rattle.jc_types.proofs.ListFacts.{Each-append, Each-both, Each-filter, Each-passes, Each-weaker}
use Rattle.jc_runs.specs.PodLists.{RisesFrom}
use Rattle.jc_runs.specs.Pods.{goes, is_marked}
use Rattle.jc_runs.proofs.PodListFacts.{rises_filter}
use Rattle.jc_log.specs.Acts.{Act}
use Rattle.jc_log.specs.Acts as does
use Rattle.jc_log.specs.Deeds.{Deed, act_of_action}
use Rattle.jc_log.specs.Log.{Gone, Live, RowsRise, job_in, jobs_in, life, living, next_version, pod_in, pods_in, pods_of}
use Rattle.jc_log.specs.Requests.{Answered, accepted, delete_job_at, delete_job_gives, gone_job, grown, mark_pod_at, mark_pod_gives, pod_entry, refused, with_mark}
use Rattle.jc_log.specs.Tables.{at, takes}
use Rattle.jc_log.specs.Writes.{Stored}
use Rattle.jc_log.proofs.JobFacts.{jobs_in-rise, rows_takes}
use Rattle.jc_log.proofs.ObjectFacts.{jobs_in-at}
use Rattle.jc_log.proofs.PodFacts.{pods_in-live, pods_in-rises, pods_of-owned}
use Rattle.jc_log.proofs.WriteFacts.{job_in-key}
use Rattle.jc_runs.specs.Diaries.{all_jobs, is_now, moment, ticks}
use Rattle.jc_runs.specs.Legal.{IsLegal, IsLegalNext}
use Rattle.jc_runs.specs.Replies.{clock_gives, gives, log_given}
use Rattle.jc_reap.specs.declared.expiries.Expiry.{Expiry}
use Rattle.jc_reap.specs.Expiries.{MayGo, expired}
use Rattle.jc_reap.specs.Finds.{AreDue, FindsDue}
use Rattle.jc_reap.specs.Reaping.{command, is_ownerless, is_present, mark_commands, ownerless, removal, removals, then_settle}
use Rattle.jc_reap.proofs.ExpiredFacts.{ApartBy, each-may_go, rows-apart, uids-apart}
use Rattle.jc_runs.proofs.ClockFacts.{gives_clock as clock-is}

-- ---- one more deed

-- What it is answered, and what the log is then.
pub record Gave (shape : Shape) (past : List Deed) (d : Deed) (a : Answered) : Type 0 where
  pub told : d.reply ≡ a.reply
  pub grew : log_given shape (d ∷ past) ≡ grown (log_given shape past) a.entry

gave : (shape : Shape) (past : List Deed) (d : Deed) (act : Act) (a : Answered) → d.act ≡ act → IsLegalNext shape past d
    → gives shape past (log_given shape past) act ≡ a → Gave shape past d a
unfolding log_given
gave shape past d act a e legal is =
    let all = ap (gives shape past (log_given shape past)) e ∙ is in
    record {
      told = legal.reply ∙ ap (λ (b : Answered). b.reply) all;
      grew = ap (λ (b : Answered). grown (log_given shape past) b.entry) all;
    }

mark-is : (shape : Shape) (past : List Deed) (log : List Entry) (u : Uid) → gives shape past log (does.Mark u) ≡ mark_pod_gives log u (moment shape past)
unfolding gives
mark-is shape past log u = refl

delete-is : (shape : Shape) (past : List Deed) (log : List Entry) (k : Key) → gives shape past log (does.Delete k) ≡ delete_job_gives log k
unfolding gives
delete-is shape past log k = refl

-- The moment stays where the reply tells none.
still : (shape : Shape) (past : List Deed) (d : Deed) (b : Bool) → is_now d.reply ≡ b → b ≡ false → moment shape (d ∷ past) ≡ moment shape past
still shape past d b is untold =
    let none : cond (is_now d.reply) (ticks d.act) 0 ≡ 0 = ap (λ (b : Bool). cond b (ticks d.act) 0) (is ∙ untold) in
    omega (arith, none)

-- ---- a mark

-- The log after a mark of the pod: its Jobs and the other pods are as before.
pub record IsMarked (log new : List Entry) (pod : Pod) : Type 0 where
  pub jobs : jobs_in new ≡ jobs_in log
  pub pods : (q : Uid) → same_uid pod.uid q ≡ false → pod_in q new ≡ pod_in q log

marked : (log : List Entry) (pod : Pod) (now : ℕ) → IsMarked log (grown log (mark_pod_at log now (Some pod)).entry) pod
marked log pod now = by (is_marked pod)
  where
    put : (g : Bool) → IsMarked log (cond g (PodGone (with_mark log pod now)) (PodPut (with_mark log pod now)) ∷ log) pod
    put true = record { jobs = refl; pods = λ q other. ap (λ (b : Bool). living (cond b Gone (life q log))) other }
    put false = record { jobs = refl; pods = λ q other. ap (λ (b : Bool). living (cond b (Live (with_mark log pod now)) (life q log))) other }

    by : (b : Bool) → IsMarked log (grown log (cond b (refused (reply.Unchanged pod.version)) (accepted (reply.Written (next_version log)) (pod_entry (with_mark log pod now)))).entry) pod
    by true = record { jobs = refl; pods = λ q other. refl }
    by false = put (goes (with_mark log pod now))

mark-untimed : (log : List Entry) (pod : Pod) (now : ℕ) → is_now (mark_pod_at log now (Some pod)).reply ≡ false
mark-untimed log pod now = by (is_marked pod)
  where
    by : (b : Bool) → is_now (cond b (refused (reply.Unchanged pod.version)) (accepted (reply.Written (next_version log)) (pod_entry (with_mark log pod now)))).reply ≡ false
    by true = refl
    by false = refl

-- It is written, but where the pod is marked.
mark-told : (log : List Entry) (pod : Pod) (now : ℕ)
    → (mark_pod_at log now (Some pod)).reply ≡ (if is_marked pod then reply.Unchanged pod.version else reply.Written (next_version log))
mark-told log pod now = by (is_marked pod)
  where
    by : (b : Bool)
        → (cond b (refused (reply.Unchanged pod.version)) (accepted (reply.Written (next_version log)) (pod_entry (with_mark log pod now)))).reply
        ≡ cond b (reply.Unchanged pod.version) (reply.Written (next_version log))
    by true = refl
    by false = refl

-- ---- what stands before each command

abbrev pub same_pod : Pod → Pod → Bool
same_pod a b = same_uid a.uid b.uid

abbrev pub Row : Type 0
Row = Expiry × Uid

-- The Jobs are in ascending UID, those of the rows may go, and the pods are there as they were.
pub record Holds (ttl : Uid → Option ℕ) (log : List Entry) (rows : List Row) (pods : List Pod) : Type 0 where
  pub rise : RowsRise 0 (jobs_in log)
  pub rows_are : Each (MayGo ttl log) rows
  pub pods_are : Each (λ (pod : Pod). pod_in pod.uid log ≡ Some pod) pods

may_still : (ttl : Uid → Option ℕ) (log new : List Entry) (row : Row) (m : MayGo ttl log row) → job_in row.0.key new ≡ job_in row.0.key log → MayGo ttl new row
may_still ttl log new row m same = record {
  job = m.job;
  there = same ∙ m.there;
  uid = m.uid;
  end = m.end;
  ended = m.ended;
  seconds = m.seconds;
  given = m.given;
  due = m.due;
  within = m.within;
}

same-job : (log new : List Entry) → jobs_in new ≡ jobs_in log → (k : Key) → job_in k new ≡ job_in k log
same-job log new same k = sym (jobs_in-at k new) ∙ ap (λ (t : List (Key × Job)). at same_key t k) same ∙ jobs_in-at k log

holds-marked : (ttl : Uid → Option ℕ) (log new : List Entry) (rows : List Row) (pod : Pod) (pods : List Pod) → IsMarked log new pod
    → Each (λ (q : Pod). same_uid pod.uid q.uid ≡ false) pods → Holds ttl log rows (pod ∷ pods) → Holds ttl new rows pods
holds-marked ttl log new rows pod pods m apart h = record {
  rise = subst (RowsRise 0) (sym m.jobs) h.rise;
  rows_are = Each-weaker (MayGo ttl log) (MayGo ttl new) (λ row may. may_still ttl log new row may (same-job log new m.jobs row.0.key)) rows h.rows_are;
  pods_are =
      Each-weaker (λ (q : Pod). (same_uid pod.uid q.uid ≡ false) × (pod_in q.uid log ≡ Some q)) (λ (q : Pod). pod_in q.uid new ≡ Some q)
      (λ q both. m.pods q.uid both.0 ∙ both.1) pods
      (Each-both (λ (q : Pod). same_uid pod.uid q.uid ≡ false) (λ (q : Pod). pod_in q.uid log ≡ Some q) pods apart h.pods_are.1);
}

-- ---- a delete

-- A Job that is taken away is gone.
gone-from : (low : ℕ) (k : Key) (job : Job) (rows : List (Key × Job)) → RowsRise low rows → at same_key rows k ≡ Some job
    → is_present job.uid (map (λ (row : Key × Job). row.1) (takes same_key rows k)) ≡ false
gone-from low k job [] rise there = refl
gone-from low k job (row ∷ rows) rise there = by (same_key k row.0) there (λ (t : at same_key rows k ≡ Some job). gone-from (row.1.uid.0 + 1) k job rows rise.1 t)
  where
    above : (low : ℕ) (u : Uid) (rows : List (Key × Job)) → u.0 < low → RowsRise low rows → is_present u (map (λ (row : Key × Job). row.1) rows) ≡ false
    above low u [] less rise = refl
    above low u (r ∷ rows) less rise =
        let first = rise.0 in
        ap (λ (b : Bool). b || is_present u (map (λ (row : Key × Job). row.1) rows)) (ne_eqb r.1.uid.0 u.0 (λ e. omega (arith, e, less, first)))
        ∙ above (r.1.uid.0 + 1) u rows (omega (arith, less, first)) rise.1

    within : (low : ℕ) (rows : List (Key × Job)) → RowsRise low rows → at same_key rows k ≡ Some job → low ≤ job.uid.0
    within low [] rise there = absurd (true≢false (sym (ap is_some there)))
    within low (r ∷ rows) rise there = at_row (same_key k r.0) there (λ (t : at same_key rows k ≡ Some job). within (r.1.uid.0 + 1) rows rise.1 t)
      where
        at_row : (b : Bool) → cond b (Some r.1) (lookup (same_key k) rows) ≡ Some job → (lookup (same_key k) rows ≡ Some job → r.1.uid.0 + 1 ≤ job.uid.0) → low ≤ job.uid.0
        at_row true there rest =
            let is : r.1.uid.0 ≡ job.uid.0 = ap (λ (o : Option Job). elim o [ None ↦ r.1.uid.0 | Some j ↦ j.uid.0 ]) there in
            let first = rise.0 in
            omega (arith, is, first)
        at_row false there rest = let more = rest there in let first = rise.0 in omega (arith, more, first)

    by : (b : Bool) → cond b (Some row.1) (lookup (same_key k) rows) ≡ Some job
        → (lookup (same_key k) rows ≡ Some job → is_present job.uid (map (λ (r : Key × Job). r.1) (takes same_key rows k)) ≡ false)
        → is_present job.uid (map (λ (r : Key × Job). r.1) (cond b rows (row ∷ takes same_key rows k))) ≡ false
    by true there rest =
        let is : row.1.uid.0 ≡ job.uid.0 = ap (λ (o : Option Job). elim o [ None ↦ row.1.uid.0 | Some j ↦ j.uid.0 ]) there in
        above (row.1.uid.0 + 1) job.uid rows (omega (arith, is)) rise.1
    by false there rest =
        let more = within (row.1.uid.0 + 1) rows rise.1 there in
        ap (λ (b : Bool). b || is_present job.uid (map (λ (r : Key × Job). r.1) (takes same_key rows k))) (ne_eqb row.1.uid.0 job.uid.0 (λ e. omega (arith, e, more)))
        ∙ rest there

-- ---- commands in their order

abbrev pub acts_of : List Command → List Act
acts_of commands = map (λ (c : Command). act_of_action c.action) commands

-- The pods of all rows.
abbrev pub pods_of_all : List Entry → List Row → List Pod
pods_of_all log [] = []
pods_of_all log (row ∷ rows) = pods_of row.1 log ++ pods_of_all log rows

acts-append : (xs ys : List Command) (tail : List Act) → acts_of (xs ++ ys) ++ tail ≡ acts_of xs ++ (acts_of ys ++ tail)
acts-append xs ys tail =
    ap (λ (done : List Act). done ++ tail) (map-append (λ (c : Command). act_of_action c.action) xs ys) ∙ append_assoc (acts_of xs) (acts_of ys) tail

module _ (ttl : Uid → Option ℕ) (shape : Shape) where
  -- Each of the acts finds what it is to find, where they come one after the other behind the past.
  abbrev pub Good : List Deed → List Act → Type 0
  Good past [] = Unit {0}
  Good past (act ∷ acts) =
      (d : Deed) → d.act ≡ act → IsLegalNext shape past d → FindsDue ttl shape past act d.reply × Good (d ∷ past) acts

  -- Marks of pods that no Job has.
  marks-good : (mine left : List Pod) (rows : List Row) (now : ℕ) (past : List Deed) (acts : List Act)
      → ((p : List Deed) → moment shape p ≡ now → Holds ttl (log_given shape p) rows left → Good p acts)
      → Each (λ (pod : Pod). is_ownerless (all_jobs (log_given shape past)) pod ≡ true) mine
      → ApartBy same_pod (mine ++ left) → moment shape past ≡ now → Holds ttl (log_given shape past) rows (mine ++ left)
      → Good past (acts_of (mark_commands mine) ++ acts)
  marks-good [] left rows now past acts next gone apart at_now h = next past at_now h
  marks-good (pod ∷ mine) left rows now past acts next gone apart at_now h = λ d is legal.
      let log = log_given shape past in
      let g = gave shape past d (does.Mark pod.uid) (mark_pod_at log (moment shape past) (Some pod)) is legal
      (mark-is shape past log pod.uid ∙ ap (mark_pod_at log (moment shape past)) h.pods_are.0) in
      let m = marked log pod (moment shape past) in
      let new : IsMarked log (log_given shape (d ∷ past)) pod = subst (λ (l : List Entry). IsMarked log l pod) (sym g.grew) m in
      let calm = still shape past d (is_now d.reply) refl (ap is_now g.told ∙ mark-untimed log pod (moment shape past)) in (
        record {
          pod = pod;
          there = h.pods_are.0;
          gone = gone.0;
          marks = g.told ∙ mark-told log pod (moment shape past);
        },
        marks-good mine left rows now (d ∷ past) acts next
            (Each-weaker (λ (q : Pod). is_ownerless (all_jobs log) q ≡ true) (λ (q : Pod). is_ownerless (all_jobs (log_given shape (d ∷ past))) q ≡ true)
            (λ q lone. ap (λ (t : List (Key × Job)). is_ownerless (map (λ (row : Key × Job). row.1) t) q) new.jobs ∙ lone) mine gone.1)
            apart.1 (calm ∙ at_now) (holds-marked ttl log (log_given shape (d ∷ past)) rows pod (mine ++ left) new apart.0 h),
      )

  -- What a delete of the row's key leaves.
  module _ (log0 : List Entry) (row : Row) (rows : List Row) (others : Each (λ (other : Row). same_key row.0.key other.0.key ≡ false) rows) where
    abbrev pub all : List Pod
    all = pods_of row.1 log0 ++ pods_of_all log0 rows

    -- The log without the Job of the row.
    pub record IsWithout (log new : List Entry) : Type 0 where
      pub holds : Holds ttl new rows all
      pub gone : is_present row.1 (all_jobs new) ≡ false

    without : (log : List Entry) → Holds ttl log (row ∷ rows) all → (m : MayGo ttl log row) → IsWithout log (JobGone (gone_job log m.job) ∷ log)
    without log h m =
        let key : m.job.key ≡ row.0.key = job_in-key row.0.key log m.job m.there in
        let table : at same_key (jobs_in log) m.job.key ≡ Some m.job = jobs_in-at m.job.key log ∙ ap (λ (k : Key). job_in k log) key ∙ m.there in
        record {
          holds = record {
            rise = rows_takes 0 m.job.key (jobs_in log) h.rise;
            rows_are =
                Each-weaker (λ (other : Row). (same_key row.0.key other.0.key ≡ false) × MayGo ttl log other)
                (λ (other : Row). MayGo ttl (JobGone (gone_job log m.job) ∷ log) other)
                (λ other both. may_still ttl log (JobGone (gone_job log m.job) ∷ log) other both.1
                (ap (λ (b : Bool). cond b None (job_in other.0.key log)) (ap (λ (k : Key). same_key k other.0.key) key ∙ both.0))) rows
                (Each-both (λ (other : Row). same_key row.0.key other.0.key ≡ false) (MayGo ttl log) rows others h.rows_are.1);
            pods_are = h.pods_are;
          };
          gone =
              ap (λ (u : Uid). is_present u (map (λ (r : Key × Job). r.1) (takes same_key (jobs_in log) m.job.key))) (sym m.uid)
              ∙ gone-from 0 m.job.key m.job (jobs_in log) h.rise table;
        }

    -- The delete, marks of its pods, and what comes then.
    removed-good : (past : List Deed) (now : ℕ) (tail : List Act) → row.0.moment ≤ now
        → ((p : List Deed) → moment shape p ≡ now → Holds ttl (log_given shape p) rows (pods_of_all log0 rows) → Good p (acts_of (removals log0 now rows) ++ tail))
        → ApartBy same_pod all → moment shape past ≡ now → Holds ttl (log_given shape past) (row ∷ rows) all
        → Good past (acts_of (removal log0 row ++ removals log0 now rows) ++ tail)
    removed-good past now tail over next apart at_now h = λ d is legal.
        let log = log_given shape past in
        let m = h.rows_are.0 in
        let g = gave shape past d (does.Delete row.0.key) (delete_job_at log (Some m.job)) is legal
        (delete-is shape past log row.0.key ∙ ap (delete_job_at log) m.there) in
        let calm = still shape past d (is_now d.reply) refl (ap is_now g.told) in
        let new : IsWithout log (log_given shape (d ∷ past)) = subst (IsWithout log) (sym g.grew) (without log h m) in
        let due = m.due in (
          record {
            job = m.job;
            there = m.there;
            end = m.end;
            ended = m.ended;
            seconds = m.seconds;
            given = ap ttl m.uid ∙ m.given;
            over = omega (arith, over, due, at_now);
            removed = g.told;
          },
          subst (Good (d ∷ past)) (sym (acts-append (mark_commands (pods_of row.1 log0)) (removals log0 now rows) tail))
              (marks-good (pods_of row.1 log0) (pods_of_all log0 rows) rows now (d ∷ past) (acts_of (removals log0 now rows) ++ tail) next
              (Each-weaker (λ (pod : Pod). pod.owner_uid ≡ row.1) (λ (pod : Pod). is_ownerless (all_jobs (log_given shape (d ∷ past))) pod ≡ true)
              (λ pod owned. ap (λ (u : Uid). not (is_present u (all_jobs (log_given shape (d ∷ past))))) owned ∙ ap not new.gone)
              (pods_of row.1 log0) (pods_of-owned row.1 log0))
              apart (calm ∙ at_now) new.holds),
        )

  -- The clock goes on to the moment of the row.
  ticked : (past : List Deed) (d : Deed) (now due : ℕ) → d.act ≡ does.Clock (due - now) → IsLegalNext shape past d → moment shape past ≡ now → now < due → due < end_of_moments
      → (moment shape (d ∷ past) ≡ due) × (log_given shape (d ∷ past) ≡ log_given shape past)
  ticked past d now due is legal at_now before within =
      let add = due - now in
      let sum : moment shape past + add ≡ due = omega (arith, at_now, before) in
      let g = gave shape past d (does.Clock add) (refused (reply.Now (moment shape past + add))) is legal
      (clock-is shape past (log_given shape past) add
      ∙ ap (λ (b : Bool). cond b (refused (reply.Now (moment shape past + add))) (refused reply.ClockEnd))
      (lt-ltb (moment shape past + add) end_of_moments (omega (arith, sum, within)))) in
      let told : cond (is_now d.reply) (ticks d.act) 0 ≡ add = ap (λ (b : Bool). cond b (ticks d.act) 0) (ap is_now g.told) ∙ ap ticks is in
      (omega (arith, told, sum), g.grew)

  -- The rows, one after the other.
  rows-good : (log0 : List Entry) (rows : List Row) (past : List Deed) (now : ℕ) (tail : List Act)
      → ((p : List Deed) → Good p tail)
      → ApartBy (λ (a b : Row). same_key a.0.key b.0.key) rows → ApartBy same_pod (pods_of_all log0 rows)
      → moment shape past ≡ now → Holds ttl (log_given shape past) rows (pods_of_all log0 rows)
      → Good past (acts_of (removals log0 now rows) ++ tail)
  rows-good log0 [] past now tail last keys pods at_now h = last past
  rows-good log0 (row ∷ rows) past now tail last keys pods at_now h =
      by (nat_lt now row.0.moment) refl
      (λ n p at_n holds. rows-good log0 rows p n tail last keys.1 (apart-back (pods_of row.1 log0) (pods_of_all log0 rows) pods) at_n holds)
    where
      apart-back : (xs ys : List Pod) → ApartBy same_pod (xs ++ ys) → ApartBy same_pod ys
      apart-back [] ys apart = apart
      apart-back (x ∷ xs) ys apart = apart-back xs ys apart.1

      by : (b : Bool) → nat_lt now row.0.moment ≡ b
          → ((n : ℕ) (p : List Deed) → moment shape p ≡ n → Holds ttl (log_given shape p) rows (pods_of_all log0 rows) → Good p (acts_of (removals log0 n rows) ++ tail))
          → Good past (acts_of (cond b (command (act.Clock (row.0.moment - now)) ∷ []) [] ++ (removal log0 row ++ removals log0 (cond b row.0.moment now) rows)) ++ tail)
      by true t next = λ d is legal.
          let k = ticked past d now row.0.moment is legal at_now (ltb-true now row.0.moment t) h.rows_are.0.within in
          let due = row.0.moment in
          let same : due ≤ due = omega arith in (
            tt,
            removed-good log0 row rows keys.0 (d ∷ past) due tail same (next due) pods k.0
                (subst (λ (l : List Entry). Holds ttl l (row ∷ rows) (pods_of row.1 log0 ++ pods_of_all log0 rows)) (sym k.1) h),
          )
      by false t next =
          let over = ltb-false now row.0.moment t in
          removed-good log0 row rows keys.0 past now tail (omega (arith, over)) (next now) pods at_now h

-- ---- the pods are apart

above : (low : ℕ) (pod : Pod) (pods : List Pod) → pod.uid.0 < low → RisesFrom low pods → Each (λ (q : Pod). same_pod pod q ≡ false) pods
above low pod [] less rise = tt
above low pod (q ∷ pods) less rise =
    let first = rise.0 in
    (ne_eqb pod.uid.0 q.uid.0 (λ e. omega (arith, e, less, first)), above (q.uid.0 + 1) pod pods (omega (arith, less, first)) rise.1)

rising-apart : (low : ℕ) (pods : List Pod) → RisesFrom low pods → ApartBy same_pod pods
rising-apart low [] rise = tt
rising-apart low (pod ∷ pods) rise = (above (pod.uid.0 + 1) pod pods (omega arith) rise.1, rising-apart (pod.uid.0 + 1) pods rise.1)

-- Pods of a log that differ by a test are apart.
module _ (log : List Entry) (test : Pod → Bool) where
  abbrev pub Stand : Bool → Pod → Type 0
  Stand b pod = (pod_in pod.uid log ≡ Some pod) × (test pod ≡ b)

  crossed : (xs ys : List Pod) → Each (Stand true) xs → Each (Stand false) ys → ApartBy same_pod xs → ApartBy same_pod ys → ApartBy same_pod (xs ++ ys)
  crossed [] ys a b p q = q
  crossed (x ∷ xs) ys a b p q =
      (Each-append (λ (y : Pod). same_pod x y ≡ false) xs ys p.0 (Each-weaker (Stand false) (λ (y : Pod). same_pod x y ≡ false) (other x a.0) ys b), crossed xs ys a.1 b p.1 q)
    where
      other : (x : Pod) → Stand true x → (y : Pod) → Stand false y → same_pod x y ≡ false
      other x s y t = by (same_pod x y) refl
        where
          by : (b : Bool) → same_pod x y ≡ b → b ≡ false
          by false e = refl
          by true e =
              let both : Some x ≡ Some y = sym s.0 ∙ ap (λ (u : Uid). pod_in u log) (same_uid-eq x.uid y.uid e) ∙ t.0 in
              let is : x ≡ y = ap (λ (o : Option Pod). elim o [ None ↦ x | Some p ↦ p ]) both in
              absurd (true≢false (sym s.1 ∙ ap test is ∙ t.1))

there-as : (log : List Entry) → Each (λ (pod : Pod). pod_in pod.uid log ≡ Some pod) (pods_in log)
there-as log = Each-weaker (λ (pod : Pod). life pod.uid log ≡ Live pod) (λ (pod : Pod). pod_in pod.uid log ≡ Some pod) (λ pod h. ap living h) (pods_in log) (pods_in-live log)

-- Each of the pods of the rows is there, and passes where the UIDs of the rows do.
all-there : (log : List Entry) (test : Uid → Bool) (b : Bool) (rows : List Row) → Each (λ (row : Row). test row.1 ≡ b) rows
    → Each (λ (pod : Pod). (pod_in pod.uid log ≡ Some pod) × (test pod.owner_uid ≡ b)) (pods_of_all log rows)
all-there log test b [] h = tt
all-there log test b (row ∷ rows) h =
    Each-append (λ (pod : Pod). (pod_in pod.uid log ≡ Some pod) × (test pod.owner_uid ≡ b)) (pods_of row.1 log) (pods_of_all log rows)
    (Each-both (λ (pod : Pod). pod_in pod.uid log ≡ Some pod) (λ (pod : Pod). test pod.owner_uid ≡ b) (pods_of row.1 log)
    (Each-filter (λ (pod : Pod). pod_in pod.uid log ≡ Some pod) (λ (pod : Pod). same_uid pod.owner_uid row.1) (pods_in log) (there-as log))
    (Each-weaker (λ (pod : Pod). pod.owner_uid ≡ row.1) (λ (pod : Pod). test pod.owner_uid ≡ b) (λ pod owned. ap test owned ∙ h.0) (pods_of row.1 log) (pods_of-owned row.1 log)))
    (all-there log test b rows h.1)

-- The pods of the rows are apart, where the UIDs of the rows are.
all-apart : (log : List Entry) (rows : List Row) → ApartBy (λ (a b : Row). same_uid a.1 b.1) rows → ApartBy same_pod (pods_of_all log rows)
all-apart log [] apart = tt
all-apart log (row ∷ rows) apart =
    crossed log (λ (pod : Pod). same_uid row.1 pod.owner_uid) (pods_of row.1 log) (pods_of_all log rows)
    (Each-both (λ (pod : Pod). pod_in pod.uid log ≡ Some pod) (λ (pod : Pod). same_uid row.1 pod.owner_uid ≡ true) (pods_of row.1 log)
    (Each-filter (λ (pod : Pod). pod_in pod.uid log ≡ Some pod) (λ (pod : Pod). same_uid pod.owner_uid row.1) (pods_in log) (there-as log))
    (Each-weaker (λ (pod : Pod). pod.owner_uid ≡ row.1) (λ (pod : Pod). same_uid row.1 pod.owner_uid ≡ true)
    (λ pod owned. ap (same_uid row.1) owned ∙ same_uid-itself row.1) (pods_of row.1 log) (pods_of-owned row.1 log)))
    (all-there log (same_uid row.1) false rows apart.0)
    (rising-apart 0 (pods_of row.1 log) (rises_filter 0 (λ (pod : Pod). same_uid pod.owner_uid row.1) (pods_in log) (pods_in-rises log)))
    (all-apart log rows apart.1)

-- ---- the whole list

-- A Job that is there is present.
present : (k : Key) (job : Job) (rows : List (Key × Job)) → at same_key rows k ≡ Some job → is_present job.uid (map (λ (row : Key × Job). row.1) rows) ≡ true
present k job [] there = absurd (true≢false (sym (ap is_some there)))
present k job (row ∷ rows) there = by (same_key k row.0) there (λ (t : at same_key rows k ≡ Some job). present k job rows t)
  where
    or-true : (b : Bool) → (b || true) ≡ true
    or-true true = refl
    or-true false = refl

    by : (b : Bool) → cond b (Some row.1) (lookup (same_key k) rows) ≡ Some job
        → (lookup (same_key k) rows ≡ Some job → is_present job.uid (map (λ (r : Key × Job). r.1) rows) ≡ true)
        → (same_uid row.1.uid job.uid || is_present job.uid (map (λ (r : Key × Job). r.1) rows)) ≡ true
    by true there rest =
        let is : row.1 ≡ job = ap (λ (o : Option Job). elim o [ None ↦ row.1 | Some j ↦ j ]) there in
        ap (λ (b : Bool). b || is_present job.uid (map (λ (r : Key × Job). r.1) rows)) (ap (λ (j : Job). same_uid j.uid job.uid) is ∙ same_uid-itself job.uid)
    by false there rest =
        ap (λ (b : Bool). same_uid row.1.uid job.uid || b) (rest there) ∙ or-true (same_uid row.1.uid job.uid)

module _ (ttl : Uid → Option ℕ) (shape : Shape) (start : List Deed) (stored : Stored (log_given shape start)) where
  abbrev pub log : List Entry
  log = log_given shape start

  abbrev pub rows : List Row
  rows = expired ttl (jobs_in log)

  rows-owned : Each (λ (row : Row). not (is_present row.1 (all_jobs log)) ≡ false) rows
  rows-owned =
      Each-weaker (MayGo ttl log) (λ (row : Row). not (is_present row.1 (all_jobs log)) ≡ false)
      (λ row m. ap (λ (u : Uid). not (is_present u (all_jobs log))) (sym m.uid) ∙ ap not (present row.0.key m.job (jobs_in log) (jobs_in-at row.0.key log ∙ m.there)))
      rows (each-may_go ttl log)

  all-lone : Each (λ (pod : Pod). (pod_in pod.uid log ≡ Some pod) × (is_ownerless (all_jobs log) pod ≡ true)) (ownerless log)
  all-lone =
      Each-both (λ (pod : Pod). pod_in pod.uid log ≡ Some pod) (λ (pod : Pod). is_ownerless (all_jobs log) pod ≡ true) (ownerless log)
      (Each-filter (λ (pod : Pod). pod_in pod.uid log ≡ Some pod) (is_ownerless (all_jobs log)) (pods_in log) (there-as log))
      (Each-passes (is_ownerless (all_jobs log)) (pods_in log))

  all-owned : Each (λ (pod : Pod). (pod_in pod.uid log ≡ Some pod) × (is_ownerless (all_jobs log) pod ≡ false)) (pods_of_all log rows)
  all-owned = all-there log (λ (u : Uid). not (is_present u (all_jobs log))) false rows rows-owned

  pods-apart : ApartBy same_pod (pods_of_all log rows)
  pods-apart = all-apart log rows (uids-apart ttl (jobs_in log) (jobs_in-rise log stored))

  pub whole-good : (tail : List Act) → ((p : List Deed) → Good ttl shape p tail)
      → Good ttl shape start (acts_of (mark_commands (ownerless log) ++ removals log (moment shape start) rows) ++ tail)
  whole-good tail last =
      let now = moment shape start in
      subst (Good ttl shape start) (sym (acts-append (mark_commands (ownerless log)) (removals log now rows) tail))
      (marks-good ttl shape (ownerless log) (pods_of_all log rows) rows now start (acts_of (removals log now rows) ++ tail)
      (λ p at_now h. rows-good ttl shape log rows p now tail last (rows-apart ttl log) pods-apart at_now h)
      (Each-passes (is_ownerless (all_jobs log)) (pods_in log))
      (crossed log (is_ownerless (all_jobs log)) (ownerless log) (pods_of_all log rows) all-lone all-owned
      (rising-apart 0 (ownerless log) (rises_filter 0 (is_ownerless (all_jobs log)) (pods_in log) (pods_in-rises log))) pods-apart)
      refl
      (record {
        rise = jobs_in-rise log stored;
        rows_are = each-may_go ttl log;
        pods_are =
            Each-append (λ (pod : Pod). pod_in pod.uid log ≡ Some pod) (ownerless log) (pods_of_all log rows)
            (Each-weaker (λ (pod : Pod). (pod_in pod.uid log ≡ Some pod) × (is_ownerless (all_jobs log) pod ≡ true)) (λ (pod : Pod). pod_in pod.uid log ≡ Some pod) (λ pod both. both.0) (ownerless log) all-lone)
            (Each-weaker (λ (pod : Pod). (pod_in pod.uid log ≡ Some pod) × (is_ownerless (all_jobs log) pod ≡ false)) (λ (pod : Pod). pod_in pod.uid log ≡ Some pod) (λ pod both. both.0) (pods_of_all log rows) all-owned);
      }))

  -- With the settle at the end.
  pub listed-good : Good ttl shape start (acts_of (then_settle (mark_commands (ownerless log) ++ removals log (moment shape start) rows)))
  listed-good = by (mark_commands (ownerless log) ++ removals log (moment shape start) rows) (whole-good (does.Settle ∷ []) (λ p d is legal. (tt, tt)))
    where
      by : (commands : List Command) → Good ttl shape start (acts_of commands ++ does.Settle ∷ []) → Good ttl shape start (acts_of (then_settle commands))
      by [] good = tt
      by (c ∷ commands) good =
          subst (Good ttl shape start) (sym (map-append (λ (c : Command). act_of_action c.action) (c ∷ commands) (command act.Settle ∷ []))) good

-- ---- a front of it

pub record Front (ttl : Uid → Option ℕ) (shape : Shape) (start more : List Deed) (left : List Act) : Type 0 where
  pub due : AreDue ttl shape start more
  pub rest : Good ttl shape (more ++ start) left

pub front-due : (ttl : Uid → Option ℕ) (shape : Shape) (start : List Deed) (acts : List Act) → Good ttl shape start acts
    → (more : List Deed) (left : List Act) → map (λ (d : Deed). d.act) (reverse more) ++ left ≡ acts → IsLegal shape (more ++ start)
    → Front ttl shape start more left
front-due ttl shape start acts good [] left is legal = record { due = tt; rest = subst (Good ttl shape start) (sym is) good }
front-due ttl shape start acts good (d ∷ more) left is legal =
    let split : map (λ (x : Deed). x.act) (reverse more) ++ (d.act ∷ left) ≡ acts =
    sym (append_assoc (map (λ (x : Deed). x.act) (reverse more)) (d.act ∷ []) left)
    ∙ ap (λ (done : List Act). done ++ left)
    (sym (map-append (λ (x : Deed). x.act) (reverse more) (d ∷ [])) ∙ ap (map (λ (x : Deed). x.act)) (sym (reverse-append (d ∷ []) more)))
    ∙ is in
    let f = front-due ttl shape start acts good more (d.act ∷ left) split legal.1 in
    let one = f.rest d refl legal.0 in
    record { due = (one.0, f.due); rest = one.1 }
