-- Caches that have what a log has at their numbers: there are such tables at all numbers.
use Rattle.std.proofs.Common.{◌≡◌, ℕ, ◌+◌, ◌-◌, ◌≤◌, ◌==◌, nat_lt, Bool, true, false, cond, List, [], ◌∷◌, length, map, filter, slice_get, Option, Some, None, refl, sym, ap, ◌∙◌, arith, true≢false}
use Rattle.std.proofs.lemmas.Bool.{eqb-false}
use Rattle.std.specs.Option.{option_map_or}
use Rattle.jc_control.specs.Caches.{pods_at}
use Rattle.jc_control.specs.Schedules.{ControllerView, MirrorsJobs, MirrorsLog, MirrorsPods, Schedule, number_of}
use Rattle.jc_control.specs.ControllerCalls.{forgets_caches, forgot, kept_backoff}
use Rattle.jc_control.specs.declared.ends.SyncEnd.{SyncEnd}
use Rattle.jc_control.proofs.LawFacts.{grown as grown_holds}
use Rattle.jc_log.specs.Requests.{grown}
use Rattle.jc_plan.specs.Plans.{planned}
use Rattle.jc_types.specs.declared.actions.Fault.{Fault}
use Rattle.jc_types.specs.declared.numbers.Version.{Version}
use Rattle.jc_types.specs.declared.objects.Entry.{Entry}
use Rattle.jc_types.specs.declared.objects.Job.{Job}
use Rattle.jc_types.specs.declared.objects.Kind.{Kind}
use Rattle.jc_types.specs.declared.objects.Kind.TheVariants.{Jobs, Pods}
use Rattle.jc_types.specs.declared.objects.Pod.{Pod}
use Rattle.jc_types.specs.declared.replies.Answer.{Answer}
use Rattle.jc_types.specs.declared.replies.Reply.{Reply}
use Rattle.jc_types.specs.declared.replies.Reply.TheVariants as reply
use Rattle.jc_types.specs.declared.syncs.Backoff.{Backoff}
use Rattle.jc_types.specs.declared.objects.KeyNames.{KeyNames as Key}
use Rattle.jc_types.specs.Keys.{same_key}
use Rattle.jc_types.proofs.KeyFacts.{same_key-either_way, same_key-eq}
use Rattle.jc_log.specs.Log.{entry_at, jobs_in, pods_in, upto}
use Rattle.jc_log.specs.Tables.{at}
use Rattle.jc_asks.specs.declared.asks.Ask.{Ask}
use Rattle.jc_asks.specs.Steps.{Stepped, Sync, floor_given, stepped}
use Rattle.jc_runs.specs.Teams.{answered_if, delivered_at, end_of_next, ended_if, is_first_written, listed, noted_answer, noted_ask, noted_told, stride_at, told_of, version_after}

-- ---- rows by owner

-- Each pod with all pods of its owner.
abbrev pub rows_of : List Pod → List Pod → List (Key × List Pod)
rows_of all pods = map (λ pod. (pod.owner, filter (λ (q : Pod). same_key q.owner pod.owner) all)) pods

-- Under a key stand all of its pods, if one of the pods is the key's.
module _ (all : List Pod) (k : Key) where
  abbrev mine : List Pod → List Pod
  mine pods = filter (λ (pod : Pod). same_key pod.owner k) pods

  record Finds (pods : List Pod) : Type 0 where
    found : mine pods ≡ [] → pods_at k (rows_of all pods) ≡ []
    whole : (pod : Pod) (rest : List Pod) → mine pods ≡ pod ∷ rest → pods_at k (rows_of all pods) ≡ mine all

  finds : (pods : List Pod) → Finds pods
  finds [] = record { found = λ e. refl; whole = λ pod rest e. absurd (true≢false (sym (ap is_cons e))) }
    where
      is_cons : List Pod → Bool
      is_cons [] = false
      is_cons (x ∷ xs) = true
  finds (p ∷ pods) = by (same_key p.owner k) refl (finds pods)
    where
      is_cons : List Pod → Bool
      is_cons [] = false
      is_cons (x ∷ xs) = true

      by : (b : Bool) → same_key p.owner k ≡ b → Finds pods → Finds (p ∷ pods)
      by true e ih = record {
        found = λ none. absurd (true≢false (ap (λ b. is_cons (cond b (p ∷ mine pods) (mine pods))) (sym e) ∙ ap is_cons none));
        whole = λ pod rest some.
            ap (λ b. option_map_or (λ (pods : List Pod). pods) (cond b (Some (filter (λ (q : Pod). same_key q.owner p.owner) all)) (at same_key (rows_of all pods) k)) []) (sym (same_key-either_way p.owner k) ∙ e)
            ∙ ap (λ owner. filter (λ (q : Pod). same_key q.owner owner) all) (same_key-eq p.owner k e);
      }
      by false e ih = record { found = λ none. skip ∙ ih.found (stays ∙ none); whole = λ pod rest some. skip ∙ ih.whole pod rest (stays ∙ some) }
        where
          stays : mine pods ≡ mine (p ∷ pods)
          stays = ap (λ b. cond b (p ∷ mine pods) (mine pods)) (sym e)

          skip : pods_at k (rows_of all (p ∷ pods)) ≡ pods_at k (rows_of all pods)
          skip = ap (λ b. option_map_or (λ (pods : List Pod). pods) (cond b (Some (filter (λ (q : Pod). same_key q.owner p.owner) all)) (at same_key (rows_of all pods) k)) []) (sym (same_key-either_way p.owner k) ∙ e)

  rows_are : pods_at k (rows_of all all) ≡ mine all
  rows_are = by (mine all) refl
    where
      by : (own : List Pod) → mine all ≡ own → pods_at k (rows_of all all) ≡ mine all
      by [] e = (finds all).found e ∙ sym e
      by (pod ∷ rest) e = (finds all).whole pod rest e

-- ---- tables at a number

abbrev jobs_table : List Entry → Option Version → List (Key × Job)
jobs_table log None = []
jobs_table log (Some n) = jobs_in (upto n.0 log)

abbrev rows_table : List Entry → Option Version → List (Key × List Pod)
rows_table log None = []
rows_table log (Some n) = rows_of (pods_in (upto n.0 log)) (pods_in (upto n.0 log))

-- A controller with this schedule, and what the log has at its numbers.
abbrev pub mirror : List Entry → Schedule → ControllerView
mirror log schedule = record { schedule = schedule; jobs = jobs_table log schedule.jobs_at; rows = rows_table log schedule.pods_at }

-- The number is one of the log, if there is one.
abbrev pub IsPlace : List Entry → Option Version → Type 0
IsPlace log None = Unit {0}
IsPlace log (Some n) = n.0 ≤ length log

pub record ArePlaces (log : List Entry) (schedule : Schedule) : Type 0 where
  pub jobs : IsPlace log schedule.jobs_at
  pub pods : IsPlace log schedule.pods_at

pub mirrors : (log : List Entry) (schedule : Schedule) → ArePlaces log schedule → MirrorsLog log (mirror log schedule)
mirrors log schedule p = record { jobs = of_jobs schedule.jobs_at p.jobs; pods = of_pods schedule.pods_at p.pods }
  where
    of_jobs : (o : Option Version) → IsPlace log o → MirrorsJobs log o (jobs_table log o)
    of_jobs None place = refl
    of_jobs (Some n) place = (place, refl)

    of_pods : (o : Option Version) → IsPlace log o → MirrorsPods log o (rows_table log o)
    of_pods None place = λ k. refl
    of_pods (Some n) place = (place, λ k. rows_are (pods_in (upto n.0 log)) k)

pub places : (log : List Entry) (con : ControllerView) → MirrorsLog log con → ArePlaces log con.schedule
places log con h = record { jobs = of_jobs con.schedule.jobs_at h.jobs; pods = of_pods con.schedule.pods_at h.pods }
  where
    of_jobs : (o : Option Version) → MirrorsJobs log o con.jobs → IsPlace log o
    of_jobs None m = tt
    of_jobs (Some n) m = m.0

    of_pods : (o : Option Version) → MirrorsPods log o con.rows → IsPlace log o
    of_pods None m = tt
    of_pods (Some n) m = m.0

-- The log may grow.
pub mirrors_grown : (log : List Entry) (o : Option Entry) (con : ControllerView) → MirrorsLog log con → MirrorsLog (grown log o) con
mirrors_grown log None con h = h
mirrors_grown log (Some e) con h = grown_holds e log con h

-- ---- what events make of the numbers

module _ (log : List Entry) where
  pub list_places : (schedule : Schedule) (kind : Kind) → ArePlaces log schedule → ArePlaces log (listed schedule kind log)
  list_places schedule Jobs p = record { jobs = omega arith; pods = p.pods }
  list_places schedule Pods p = record { jobs = p.jobs; pods = omega arith }

  told_places : (schedule : Schedule) (kind : Kind) (version : Version) → version.0 ≤ length log → (o : Option Entry) → ArePlaces log schedule → ArePlaces log (told_of schedule kind version o)
  told_places schedule kind version within None p = p
  told_places schedule Jobs version within (Some entry) p = record { jobs = within; pods = p.pods }
  told_places schedule Pods version within (Some entry) p = record { jobs = p.jobs; pods = within }

  forgot_places : (schedule : Schedule) (kind : Kind) → ArePlaces log schedule → ArePlaces log (forgot schedule kind)
  forgot_places schedule Jobs p = record { jobs = tt; pods = p.pods }
  forgot_places schedule Pods p = record { jobs = p.jobs; pods = tt }

  number_place : (kind : Kind) (schedule : Schedule) → ArePlaces log schedule → IsPlace log (number_of kind schedule)
  number_place Jobs schedule p = p.jobs
  number_place Pods schedule p = p.pods

  pub deliver_places : (window : ℕ) (schedule : Schedule) (kind : Kind) → ArePlaces log schedule → ArePlaces log (delivered_at log window schedule kind (number_of kind schedule))
  deliver_places window schedule kind p = by (number_of kind schedule) (number_place kind schedule p)
    where
      choose : (v : Version) → v.0 ≤ length log → (a b : Bool) → (v.0 == length log) ≡ b → ArePlaces log (cond a (forgot schedule kind) (cond b schedule (told_of schedule kind (version_after v) (entry_at (v.0 + 1) log))))
      choose v place true b e = forgot_places schedule kind p
      choose v place false true e = p
      choose v place false false e = told_places schedule kind (version_after v) (let apart = eqb-false v.0 (length log) e in omega (arith, place, apart)) (entry_at (v.0 + 1) log) p

      by : (o : Option Version) → IsPlace log o → ArePlaces log (delivered_at log window schedule kind o)
      by None place = p
      by (Some v) place = choose v place (nat_lt v.0 (length log - window)) (v.0 == length log) refl

  -- An answer moves no number, and an end moves it only where it forgets the caches.
  noted_places : (schedule : Schedule) (k : Key) (ask : Ask) (given : Answer) (backoff : Backoff) → ArePlaces log schedule → ArePlaces log (noted_answer schedule k ask given backoff)
  noted_places schedule k ask given backoff p = by (is_first_written ask given) (floor_given given)
    where
      by : (b : Bool) (o : Option Version) → ArePlaces log (cond b (kept_backoff (answered_if schedule k o) k backoff) (answered_if schedule k o))
      by true None = record { jobs = p.jobs; pods = p.pods }
      by true (Some v) = record { jobs = p.jobs; pods = p.pods }
      by false None = p
      by false (Some v) = record { jobs = p.jobs; pods = p.pods }

  asked_places : (schedule : Schedule) (k : Key) (o : Option Ask) (given : Answer) (backoff : Backoff) → ArePlaces log schedule → ArePlaces log (noted_ask schedule k o given backoff)
  asked_places schedule k None given backoff p = p
  asked_places schedule k (Some ask) given backoff p = noted_places schedule k ask given backoff p

  reply_places : (schedule : Schedule) (k : Key) (o : Option Ask) (r : Reply) (backoff : Backoff) → ArePlaces log schedule → ArePlaces log (noted_told schedule k o r backoff)
  reply_places schedule k o (reply.Stepped asked given) backoff p = asked_places schedule k o given backoff p
  reply_places schedule k o other backoff p = p

  end_places : (schedule : Schedule) (k : Key) (o : Option SyncEnd) (now : ℕ) → ArePlaces log schedule → ArePlaces log (ended_if schedule k o now)
  end_places schedule k None now p = p
  end_places schedule k (Some end) now p = record { jobs = by (forgets_caches end) schedule.jobs_at p.jobs; pods = by (forgets_caches end) schedule.pods_at p.pods }
    where
      by : (b : Bool) (o : Option Version) → IsPlace log o → IsPlace log (cond b None o)
      by true o place = tt
      by false o place = place

  pub stride_places : (now : ℕ) (fault : Option Fault) (schedule : Schedule) (o : Option Sync) → ArePlaces log schedule → ArePlaces log (stride_at log now fault schedule o).schedule
  stride_places now fault schedule None p = p
  stride_places now fault schedule (Some sync) p = of_step (stepped now fault log sync)
    where
      of_step : (step : Stepped) → ArePlaces log (ended_if (noted_told schedule sync.flight.basis.key (slice_get sync.left 0) step.reply (planned sync.flight.basis).backoff) sync.flight.basis.key (end_of_next step.next) now)
      of_step step =
          end_places (noted_told schedule sync.flight.basis.key (slice_get sync.left 0) step.reply (planned sync.flight.basis).backoff) sync.flight.basis.key (end_of_next step.next) now
          (reply_places schedule sync.flight.basis.key (slice_get sync.left 0) step.reply (planned sync.flight.basis).backoff p)
