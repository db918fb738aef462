-- A begin is answered as the notes say, and what it leaves is what one more note says.
use Rattle.std.proofs.Common.{◌≡◌, ℕ, Bool, true, false, cond, List, [], ◌∷◌, ◌++◌, Option, Some, None, refl, sym, ap, ◌∙◌, subst}
use Rattle.std.specs.Option.{unwrap_or}
use Rattle.jc_cache.specs.Caches.{pods_at}
use Rattle.jc_control.specs.declared.begins.Begin.{Begin}
use Rattle.jc_control.specs.declared.begins.Begin.TheVariants as answer
use Rattle.jc_control.specs.declared.begins.Lag.{Lag}
use Rattle.jc_control.specs.declared.controller.Known.{Known}
use Rattle.jc_control.specs.Schedules.{ControllerView, Schedule, MirrorsLog, MirrorsJobs, MirrorsPods, known_of, number_of, unknown}
use Rattle.jc_control.specs.ControllerCalls.{basis_of, begun, begun_at, begun_first, begun_unless, behind, first_lag, noted, noted_at, pods_need, lag as lag_of}
use Rattle.jc_types.specs.declared.numbers.Version.{Version}
use Rattle.jc_types.specs.declared.objects.Entry.{Entry}
use Rattle.jc_types.specs.declared.objects.Kind.{Kind}
use Rattle.jc_types.specs.declared.objects.Kind.TheVariants.{Jobs, Pods}
use Rattle.jc_states.specs.declared.bases.Basis.{Basis}
use Rattle.jc_types.specs.declared.objects.KeyNames.{KeyNames as Key}
use Rattle.jc_types.specs.Keys.{same_key}
use Rattle.jc_log.specs.Log.{job_in, pods_under, upto}
use Rattle.jc_log.specs.Tables.{at}
use Rattle.jc_types.proofs.KeyFacts.{same_key-eq, same_key-itself}
use Rattle.jc_log.proofs.ObjectFacts.{jobs_in-at}
use Rattle.jc_log.proofs.TableFacts.{Sets-puts}
use Rattle.jc_queue.proofs.QueueFacts.{got_first_is}
use Rattle.jc_queue.proofs.BackFacts.{sent_back_is}
use Rattle.jc_queue.specs.Queued.{got, sent_back as queue_back}
use Rattle.jc_history.specs.Agrees.{IsScheduleOf}
use Rattle.jc_history.specs.Diaries.{on_begin, on_lag}
use Rattle.jc_history.specs.Fresh.{basis, begin, begin_at, begin_first, begin_unless, cache_lag}
use Rattle.jc_history.specs.Lines.{line}
use Rattle.jc_history.specs.Notes.{Note, Began, SentBack}
use Rattle.jc_history.specs.Numbers.{number}
use Rattle.jc_history.specs.Replies.{reply_of_begin}
use Rattle.jc_history.proofs.QueueSteps.{queued-began, queued-sent}

-- A row that was not there says what is known without it.
noted-same : (schedule : Schedule) (k j : Key) → known_of j (record schedule { known = noted schedule.known k }) ≡ known_of j schedule
noted-same schedule k j = by (at same_key schedule.known k) refl
  where
    by : (o : Option Known) → at same_key schedule.known k ≡ o → unwrap_or (at same_key (noted_at o schedule.known k) j) unknown ≡ unwrap_or (at same_key schedule.known j) unknown
    by (Some known) e = refl
    by None e = ap (λ o. unwrap_or o unknown) (Sets-puts same_key same_key-eq same_key-itself k unknown schedule.known j) ∙ at_test (same_key k j) refl
      where
        at_test : (b : Bool) → same_key k j ≡ b → unwrap_or (cond b (Some unknown) (at same_key schedule.known j)) unknown ≡ unwrap_or (at same_key schedule.known j) unknown
        at_test true s = sym (ap (λ o. unwrap_or o unknown) (ap (λ j. at same_key schedule.known j) (sym (same_key-eq k j s)) ∙ e))
        at_test false s = refl

pub held-began : (older : List Note) (schedule : Schedule) (worker : ℕ) (basis : Basis) (rest : List Key)
    → IsScheduleOf older schedule → line older ≡ basis.key ∷ rest
    → IsScheduleOf (Began worker basis ∷ older) (record schedule
    { queue = got schedule.queue; known = noted schedule.known basis.key })
held-began older schedule worker basis rest h first = record {
  number_is = numbers;
  queued = queued-began older schedule _ basis.key rest h.queue h.queued first worker basis refl refl;
  delayed = record { moment_is = h.delayed.moment_is; failures_are = h.delayed.failures_are };
  floor_is = λ k. ap (λ (known : Known). known.floor) (noted-same schedule basis.key k) ∙ h.floor_is k;
  backoff_is = λ k. ap (λ (known : Known). known.backoff) (noted-same schedule basis.key k) ∙ h.backoff_is k;
  queue = got_first_is schedule.queue h.queue;
  moments_once = h.moments_once;
  failures_once = h.failures_once;
}
  where
    numbers : (kind : Kind) → number_of kind (record schedule { queue = got schedule.queue; known = noted schedule.known basis.key }) ≡ number kind (Began worker basis ∷ older)
    numbers Jobs = h.number_is Jobs
    numbers Pods = h.number_is Pods

pub held-sent : (older : List Note) (schedule : Schedule) (k : Key) (rest : List Key) → IsScheduleOf older schedule → line older ≡ k ∷ rest → IsScheduleOf (SentBack k ∷ older) (record schedule { queue = queue_back schedule.queue })
held-sent older schedule k rest h first = record {
  number_is = numbers;
  queued = queued-sent older schedule _ k rest h.queue h.queued first refl;
  delayed = record { moment_is = h.delayed.moment_is; failures_are = h.delayed.failures_are };
  floor_is = h.floor_is;
  backoff_is = h.backoff_is;
  queue = sent_back_is schedule.queue h.queue;
  moments_once = h.moments_once;
  failures_once = h.failures_once;
}
  where
    numbers : (kind : Kind) → number_of kind (record schedule { queue = queue_back schedule.queue }) ≡ number kind (SentBack k ∷ older)
    numbers Jobs = h.number_is Jobs
    numbers Pods = h.number_is Pods

module _ (notes : List Note) (log : List Entry) (now : ℕ) (c : ControllerView) (worker : ℕ) (h : IsScheduleOf notes c.schedule) (g : MirrorsLog log c) where
  module _ (j p : Version) (jobs : c.schedule.jobs_at ≡ Some j) (pods : c.schedule.pods_at ≡ Some p) (k : Key) where
    job_is : at same_key c.jobs k ≡ job_in k (upto j.0 log)
    job_is = ap (λ table. at same_key table k) (subst (λ o. MirrorsJobs log o c.jobs) jobs g.jobs).1 ∙ jobs_in-at k (upto j.0 log)

    pods_are : pods_at k c.rows ≡ pods_under k (upto p.0 log)
    pods_are = (subst (λ o. MirrorsPods log o c.rows) pods g.pods).1 k

    lag_is : lag_of k c j p ≡ cache_lag notes log k j p
    lag_is = λ i. first_lag (behind Jobs (h.floor_is k i) j) (behind Pods (pods_need (h.floor_is k i) (job_is i)) p)

    basis_is : basis_of now c j p k ≡ basis notes log now k j p
    basis_is = λ i. record { key = k; job = job_is i; pods = pods_are i; jobs_at = j; pods_at = p; now = now; backoff = h.backoff_is k i }

    answer-unless : (o : Option Lag) → (begun_unless now c j p k o).answer ≡ begin_unless (basis notes log now k j p) o
    answer-unless None = ap (λ b. answer.Begun b) basis_is
    answer-unless (Some l) = refl

    held-unless : (rest : List Key) → line notes ≡ k ∷ rest → (o : Option Lag) → IsScheduleOf (on_begin worker now log notes (reply_of_begin (begin_unless (basis notes log now k j p) o)) ++ notes) (begun_unless now c j p k o).schedule
    held-unless rest first None = held-began notes c.schedule worker (basis notes log now k j p) rest h first
    held-unless rest first (Some l) = subst (λ some. IsScheduleOf (on_lag some ++ notes) (begun_unless now c j p k (Some l)).schedule) (sym first) (held-sent notes c.schedule k rest h first)

  answer-at : (a b : Option Version) → c.schedule.jobs_at ≡ a → c.schedule.pods_at ≡ b → (begun_at now c a b).answer ≡ begin_at notes log now a b
  answer-at None b x y = refl
  answer-at (Some j) None x y = refl
  answer-at (Some j) (Some p) x y = ap (λ some. (begun_first now c j p some).answer) h.queued.line_is ∙ by (line notes)
    where
      by : (some : List Key) → (begun_first now c j p some).answer ≡ begin_first notes log now j p some
      by [] = refl
      by (k ∷ rest) = answer-unless j p x y k (lag_of k c j p) ∙ ap (begin_unless (basis notes log now k j p)) (lag_is j p x y k)

  held-at : (a b : Option Version) → c.schedule.jobs_at ≡ a → c.schedule.pods_at ≡ b → IsScheduleOf (on_begin worker now log notes (reply_of_begin (begin_at notes log now a b)) ++ notes) (begun_at now c a b).schedule
  held-at None b x y = h
  held-at (Some j) None x y = h
  held-at (Some j) (Some p) x y = subst (λ some. IsScheduleOf (on_begin worker now log notes (reply_of_begin (begin_first notes log now j p (line notes))) ++ notes) (begun_first now c j p some).schedule) (sym h.queued.line_is) (by (line notes) refl)
    where
      by : (some : List Key) → line notes ≡ some → IsScheduleOf (on_begin worker now log notes (reply_of_begin (begin_first notes log now j p some)) ++ notes) (begun_first now c j p some).schedule
      by [] first = h
      by (k ∷ rest) first =
          subst (λ o. IsScheduleOf (on_begin worker now log notes (reply_of_begin (begin_unless (basis notes log now k j p) o)) ++ notes) (begun_unless now c j p k (lag_of k c j p)).schedule) (lag_is j p x y k)
          (held-unless j p x y k rest first (lag_of k c j p))

  -- A begin of a free worker is answered as the notes say.
  pub begun-answer_is : (begun now c).answer ≡ begin notes log now
  begun-answer_is = answer-at c.schedule.jobs_at c.schedule.pods_at refl refl ∙ (λ i. begin_at notes log now (h.number_is Jobs i) (h.number_is Pods i))

  -- What it leaves is what the note of it says.
  pub begun-held_is : IsScheduleOf (on_begin worker now log notes (reply_of_begin (begin notes log now)) ++ notes) (begun now c).schedule
  begun-held_is =
      subst (λ (answer : Begin). IsScheduleOf (on_begin worker now log notes (reply_of_begin answer) ++ notes) (begun now c).schedule) (λ i. begin_at notes log now (h.number_is Jobs i) (h.number_is Pods i))
      (held-at c.schedule.jobs_at c.schedule.pods_at refl refl)
