-- Laws on what one controller knows.
use Rattle.std.proofs.Common.{◌≡◌, ℕ, suc, ◌+◌, ◌-◌, ◌<◌, ◌≤◌, ◌^◌, nat_lt, Bool, true, false, cond, List, [], ◌∷◌, length, map, Option, Some, None, IfSome, is_none, is_some, slice_get, refl, sym, ap, ◌∙◌, subst, arith, true≢false}
use Rattle.std.proofs.lemmas.Bool.Decides.{nat_tests}
use Rattle.std.specs.Option.{unwrap_or}
use Rattle.jc_cache.specs.Caches.{HasFewPods, IsNext, owned_after, pods_at, job_rows}
use Rattle.jc_control.specs.Schedules.{ControllerView, Schedule, floor_of, MirrorsLog, MirrorsJobs, MirrorsPods, log_end, idle, known_of, number_of, unknown}
use Rattle.jc_control.specs.ControllerCalls.{IsFresh, basis_of, begun, begun_at, begun_first, begun_unless, behind, can_begin, ended, first_lag, forgot, is_begun, lag, need_of, noted, noted_at, pods_need, ready_at, with_known}
use Rattle.jc_control.specs.declared.begins.Begin.{Begin}
use Rattle.jc_control.specs.declared.begins.Begin.TheVariants.{NotSynced, NoKey, Behind, Begun}
use Rattle.jc_control.specs.declared.begins.Lag.{Lag}
use Rattle.jc_control.specs.declared.ends.SyncEnd.TheVariants.{Unavailable}
use Rattle.jc_control.specs.declared.controller.Known.{Known}
use Rattle.jc_queue.proofs.QueueFacts.{first_is_idle}
use Rattle.jc_queue.specs.Queued.{IsQueue, Queued, has_key}
use Rattle.jc_types.specs.declared.numbers.Version.{Version}
use Rattle.jc_types.specs.declared.objects.Entry.{Entry}
use Rattle.jc_types.specs.declared.objects.Job.{Job}
use Rattle.jc_types.specs.declared.objects.Kind.{Kind}
use Rattle.jc_types.specs.declared.objects.Kind.TheVariants.{Jobs, Pods}
use Rattle.jc_types.specs.declared.objects.Pod.{Pod}
use Rattle.jc_states.specs.declared.bases.Basis.{Basis}
use Rattle.jc_types.specs.declared.objects.KeyNames.{KeyNames as Key}
use Rattle.jc_types.specs.Keys.{same_key}
use Rattle.jc_log.specs.Log.{entry_at, jobs_after, jobs_in, pods_under, upto}
use Rattle.jc_log.specs.Tables.{at}
use Rattle.jc_log.specs.Writes.{Stored, Writes}
use Rattle.jc_types.proofs.KeyFacts.{same_key-eq, same_key-itself}
use Rattle.jc_log.proofs.LogFacts.{entry_at-place, upto-all, upto-entry_at, upto-fixed}
use Rattle.jc_log.proofs.PodFacts.{pods_under-few}
use Rattle.jc_log.proofs.TableFacts.{Sets-puts}
use Rattle.jc_log.proofs.WriteFacts.{Follows-upto}
use Rattle.jc_control.proofs.TurnFacts.{each_begin, head_is}

-- ---- what is known of each key

-- What was written is known of the key, and what was known of every other key.
pub known_of-same : (k : Key) (schedule : Schedule) (known : Known) → known_of k (with_known schedule k known) ≡ known
known_of-same k schedule known =
    ap (λ o. unwrap_or o unknown)
    (Sets-puts same_key same_key-eq same_key-itself k known schedule.known k ∙ ap (λ b. cond b (Some known) (at same_key schedule.known k)) (same_key-itself k))

pub known_of-other : (k j : Key) (schedule : Schedule) (known : Known) → same_key k j ≡ false → known_of j (with_known schedule k known) ≡ known_of j schedule
known_of-other k j schedule known other =
    ap (λ o. unwrap_or o unknown)
    (Sets-puts same_key same_key-eq same_key-itself k known schedule.known j ∙ ap (λ b. cond b (Some known) (at same_key schedule.known j)) other)

-- A row that was not there says what is known without it.
pub noted-same : (rows : List (Key × Known)) (k j : Key) → unwrap_or (at same_key (noted rows k) j) unknown ≡ unwrap_or (at same_key rows j) unknown
noted-same rows k j = by (at same_key rows k) refl
  where
    by : (o : Option Known) → at same_key rows k ≡ o → unwrap_or (at same_key (noted_at o rows k) j) unknown ≡ unwrap_or (at same_key rows j) unknown
    by (Some known) e = refl
    by None e = ap (λ o. unwrap_or o unknown) (Sets-puts same_key same_key-eq same_key-itself k unknown rows j) ∙ at_test (same_key k j) refl
      where
        at_test : (b : Bool) → same_key k j ≡ b → unwrap_or (cond b (Some unknown) (at same_key rows j)) unknown ≡ unwrap_or (at same_key rows j) unknown
        at_test true s = sym (ap (λ o. unwrap_or o unknown) (ap (λ j. at same_key rows j) (sym (same_key-eq k j s)) ∙ e))
        at_test false s = refl

-- A begin changes nothing of what is known.
pub known_of-begun : (j : Key) (now : ℕ) (c : ControllerView) → known_of j (begun now c).schedule ≡ known_of j c.schedule
known_of-begun j now c = at_numbers c.schedule.jobs_at c.schedule.pods_at
  where
    at_lag : (a b : Version) (k : Key) (o : Option Lag) → known_of j (begun_unless now c a b k o).schedule ≡ known_of j c.schedule
    at_lag a b k None = noted-same c.schedule.known k j
    at_lag a b k (Some lag) = refl

    at_line : (a b : Version) (line : List Key) → known_of j (begun_first now c a b line).schedule ≡ known_of j c.schedule
    at_line a b [] = refl
    at_line a b (k ∷ rest) = at_lag a b k (lag k c a b)

    at_numbers : (a b : Option Version) → known_of j (begun_at now c a b).schedule ≡ known_of j c.schedule
    at_numbers None b = refl
    at_numbers (Some a) None = refl
    at_numbers (Some a) (Some b) = at_line a b c.schedule.queue.line

-- ---- a sync begins

-- Whether a sync begins.
pub begun-ready : (now : ℕ) (c : ControllerView) → can_begin c ≡ is_begun (begun now c).answer
begun-ready now c = at_numbers c.schedule.jobs_at c.schedule.pods_at
  where
    at_lag : (j p : Version) (k : Key) (o : Option Lag) → is_none o ≡ is_begun (begun_unless now c j p k o).answer
    at_lag j p k None = refl
    at_lag j p k (Some lag) = refl

    at_line : (j p : Version) (line : List Key) → ready_at c (Some j) (Some p) line ≡ is_begun (begun_first now c j p line).answer
    at_line j p [] = refl
    at_line j p (k ∷ rest) = at_lag j p k (lag k c j p)

    at_numbers : (a b : Option Version) → ready_at c a b c.schedule.queue.line ≡ is_begun (begun_at now c a b).answer
    at_numbers None b = refl
    at_numbers (Some j) None = refl
    at_numbers (Some j) (Some p) = at_line j p c.schedule.queue.line

-- Neither of two caches is behind.
pub neither : (a b : Option Lag) → first_lag a b ≡ None → (a ≡ None) × (b ≡ None)
neither None b e = (refl, e)
neither (Some lag) b e = absurd (true≢false (ap is_some e))

pub seen : (kind : Kind) (need have : Version) → behind kind need have ≡ None → need.0 ≤ have.0
seen kind need have e = by (nat_lt have.0 need.0) refl e
  where
    by : (b : Bool) → nat_lt have.0 need.0 ≡ b → cond {A = Option Lag} b (Some (record { kind = kind; need = need; have = have })) None ≡ None → need.0 ≤ have.0
    by true t e = absurd (true≢false (ap is_some e))
    by false t e = grind (arith, nat_tests, t)

needed : (floor have : Version) (job : Option Job) → (pods_need floor job).0 ≤ have.0 → (floor.0 ≤ have.0) × IfSome job (λ job. job.version.0 ≤ have.0)
needed floor have None h = (h, tt)
needed floor have (Some job) h = (omega (arith, h), omega (arith, h))

abbrev begun_basis : Begin → Basis → Basis
begun_basis NotSynced basis = basis
begun_basis NoKey basis = basis
begun_basis (Behind kind need have) basis = basis
begun_basis (Begun basis) other = basis

-- It begins on caches that have seen all that it must know.
pub begun-fresh : (now : ℕ) (c : ControllerView) (basis : Basis) → (begun now c).answer ≡ Begun basis → IsFresh c basis
begun-fresh now c = each_begin (λ b. (basis : Basis) → b.answer ≡ Begun basis → IsFresh c basis) c now
    (λ basis e. absurd (true≢false (sym (ap is_begun e)))) (λ basis e. absurd (true≢false (sym (ap is_begun e))))
    (λ j p k rest lag l basis e. absurd (true≢false (sym (ap is_begun e))))
    (λ j p k rest a b l none basis e. subst (IsFresh c) (ap (λ answer. begun_basis answer basis) e) (fresh j p k a b none))
  where
    fresh : (j p : Version) (k : Key) → c.schedule.jobs_at ≡ Some j → c.schedule.pods_at ≡ Some p → lag k c j p ≡ None → IsFresh c (basis_of now c j p k)
    fresh j p k a b none =
        let both = neither (behind Jobs (need_of Jobs k c) j) (behind Pods (need_of Pods k c) p) none in
        let pods = needed (floor_of k c.schedule) p (at same_key c.jobs k) (seen Pods (need_of Pods k c) p both.1) in
        record { jobs_number = a; pods_number = b; jobs_floor = seen Jobs (need_of Jobs k c) j both.0; pods_floor = pods.0; job = pods.1 }

-- ---- what is forgotten

pub forgot-number : (kind : Kind) (schedule : Schedule) → number_of kind (forgot schedule kind) ≡ None
forgot-number Jobs schedule = refl
forgot-number Pods schedule = refl

pub forgot-queue : (kind : Kind) (schedule : Schedule) → (forgot schedule kind).queue ≡ schedule.queue
forgot-queue Jobs schedule = refl
forgot-queue Pods schedule = refl

pub forgot-delays : (kind : Kind) (schedule : Schedule) → (forgot schedule kind).delays ≡ schedule.delays
forgot-delays Jobs schedule = refl
forgot-delays Pods schedule = refl

pub forgot-known : (kind : Kind) (schedule : Schedule) → (forgot schedule kind).known ≡ schedule.known
forgot-known Jobs schedule = refl
forgot-known Pods schedule = refl

pub lost-number : (kind : Kind) (schedule : Schedule) (k : Key) (now : ℕ) → number_of kind (ended schedule k Unavailable now) ≡ None
lost-number Jobs schedule k now = refl
lost-number Pods schedule k now = refl

pub idle-number : (kind : Kind) → number_of kind idle ≡ None
idle-number Jobs = refl
idle-number Pods = refl

-- ---- the first key

pub first-idle : (q : Queued) (k : Key) → IsQueue q → Some k ≡ slice_get q.line 0 → has_key k q.processing ≡ false
first-idle q k s e = let h = head_is q.line k e in first_is_idle q s k h.0 h.1

-- ---- the tables of a log

pub listed-jobs : ((log : List Entry) → job_rows (map (λ row. row.1) (jobs_in log)) ≡ jobs_in log) → (log : List Entry) → MirrorsJobs log (Some (log_end log)) (job_rows (map (λ row. row.1) (jobs_in log)))
listed-jobs filled log = (omega arith, filled log ∙ ap (λ log. jobs_in log) (sym (upto-all (length log) log (omega arith))))

pub listed-pods : (log : List Entry) (rows : List (Key × List Pod)) → ((k : Key) → pods_at k rows ≡ pods_under k log) → MirrorsPods log (Some (log_end log)) rows
listed-pods log rows h = (omega arith, λ k. h k ∙ ap (λ log. pods_under k log) (sym (upto-all (length log) log (omega arith))))

-- The first entries up to a version are its entry and those before it.
next_is : (log : List Entry) (n v : ℕ) (e : Entry) → v ≡ n + 1 → entry_at v log ≡ Some e → upto v log ≡ e ∷ upto n log
next_is log n v e is found =
    let next : v ≡ suc n = omega (arith, is) in
    ap (λ m. upto m log) next ∙ upto-entry_at n log e (ap (λ m. entry_at m log) (sym next) ∙ found)

pub told-jobs : (log : List Entry) (number : Option Version) (version : Version) (e : Entry) (jobs : List (Key × Job)) → MirrorsJobs log number jobs → IsNext number version → entry_at version.0 log
    ≡ Some e → MirrorsJobs log (Some version) (jobs_after e jobs)
told-jobs log None version e jobs h next found = absurd next
told-jobs log (Some n) version e jobs h next found = (
  (entry_at-place version.0 log e found).1,
  ap (λ jobs. jobs_after e jobs) h.1 ∙ ap (λ log. jobs_in log) (sym (next_is log n.0 version.0 e next found)),
)

pub told-pods : ((k : Key) (e : Entry) (older : List Entry) → Stored (e ∷ older) → pods_under k (e ∷ older) ≡ owned_after k e (pods_under k older))
    → (log : List Entry) (number : Option Version) (version : Version) (e : Entry) (rows new : List (Key × List Pod)) → Stored log → MirrorsPods log number rows → IsNext number version →
    entry_at version.0 log ≡ Some e → ((k : Key) → pods_at k new ≡ owned_after k e (pods_at k rows)) → MirrorsPods log (Some version) new
told-pods stays log None version e rows new stored h next found told = absurd next
told-pods stays log (Some n) version e rows new stored h next found told =
    let is = next_is log n.0 version.0 e next found in (
      (entry_at-place version.0 log e found).1,
      λ k. told k ∙ ap (λ pods. owned_after k e pods) (h.1 k)
          ∙ sym (stays k e (upto n.0 log) (subst (λ log. Stored log) is (Follows-upto Writes version.0 log stored)))
          ∙ ap (λ log. pods_under k log) (sym is),
    )

grown-jobs : (e : Entry) (log : List Entry) (number : Option Version) (jobs : List (Key × Job)) → MirrorsJobs log number jobs → MirrorsJobs (e ∷ log) number jobs
grown-jobs e log None jobs h = h
grown-jobs e log (Some n) jobs h = (let within = h.0 in omega (arith, within), h.1 ∙ ap (λ log. jobs_in log) (sym (upto-fixed n.0 e log h.0)))

grown-pods : (e : Entry) (log : List Entry) (number : Option Version) (rows : List (Key × List Pod)) → MirrorsPods log number rows → MirrorsPods (e ∷ log) number rows
grown-pods e log None rows h = h
grown-pods e log (Some n) rows h = (let within = h.0 in omega (arith, within), λ k. h.1 k ∙ ap (λ log. pods_under k log) (sym (upto-fixed n.0 e log h.0)))

pub grown : (e : Entry) (log : List Entry) (c : ControllerView) → MirrorsLog log c → MirrorsLog (e ∷ log) c
grown e log c h = record { jobs = grown-jobs e log c.schedule.jobs_at c.jobs h.jobs; pods = grown-pods e log c.schedule.pods_at c.rows h.pods }

-- ---- how many pods a cache has

few-at : (log : List Entry) (number : Option Version) (rows : List (Key × List Pod)) → MirrorsPods log number rows → length log < 2 ^ 32 - 1 → HasFewPods rows
few-at log None rows h short = λ k. let none : length (pods_at k rows) ≡ 0 = ap length (h k) in omega (arith, none)
few-at log (Some n) rows h short = λ k. let same : length (pods_at k rows) ≡ length (pods_under k (upto n.0 log)) = ap length (h.1 k) in let few = pods_under-few k n.0 log in omega (arith, same, few, short)

-- One that has what a log has is told of one more where the log is short.
pub few-pods : (log : List Entry) (c : ControllerView) → MirrorsLog log c → length log < 2 ^ 32 - 1 → HasFewPods c.rows
few-pods log c h short = few-at log c.schedule.pods_at c.rows h.pods short
