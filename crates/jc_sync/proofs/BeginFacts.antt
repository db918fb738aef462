-- A sync that begins: its basis is what the log held at the numbers of the caches, and these are fresh.
use Rattle.std.proofs.Common.{◌≡◌, ℕ, ◌≤◌, Bool, true, false, cond, nat_lt, List, [], ◌∷◌, length, Option, Some, None, is_some, IfSome, refl, sym, ap, ◌∙◌, subst, arith, true≢false}
use Rattle.std.specs.Prelude.{max}
use Rattle.std.proofs.lemmas.Bool.{ltb-false}
use Rattle.jc_control.specs.Schedules.{ControllerView, MirrorsLog, MirrorsJobs, MirrorsPods, floor_of}
use Rattle.jc_control.specs.ControllerCalls.{basis_of, begun, begun_at, begun_first, begun_unless, behind, first_lag, lag, need_of, pods_need}
use Rattle.jc_control.specs.declared.begins.Begin.{Begin}
use Rattle.jc_control.specs.declared.begins.Begin.TheVariants.{Begun}
use Rattle.jc_control.specs.declared.begins.Lag.{Lag}
use Rattle.jc_types.specs.declared.numbers.Version.{Version}
use Rattle.jc_types.specs.declared.objects.Entry.{Entry}
use Rattle.jc_types.specs.declared.objects.Job.{Job}
use Rattle.jc_types.specs.declared.objects.Kind.TheVariants.{Jobs, Pods}
use Rattle.jc_types.specs.declared.replies.Reply.TheVariants as reply
use Rattle.jc_states.specs.declared.bases.Basis.{Basis}
use Rattle.jc_log.specs.Acts as does
use Rattle.jc_log.specs.Deeds.{Deed}
use Rattle.jc_types.specs.declared.objects.KeyNames.{KeyNames as Key}
use Rattle.jc_types.specs.Keys.{same_key}
use Rattle.jc_log.specs.Log.{upto}
use Rattle.jc_log.specs.Tables.{at}
use Rattle.jc_log.proofs.ObjectFacts.{jobs_in-at}
use Rattle.jc_ledger.specs.Flights.{IsBasisOf}
use Rattle.jc_ledger.specs.Syncs.{began_of}
use Rattle.jc_ledger.specs.Tied.{StandsWithin}
use Rattle.jc_ledger.proofs.OwnFacts.{basis-rises}
use Rattle.jc_ledger.proofs.QuietFacts.{IfSome-of}
use Rattle.jc_sync.specs.AllRegisters.{HasSyncs, Registers, put_at, register_at}
use Rattle.jc_asks.specs.Sends.{new_sync, sent_first}
use Rattle.jc_sync.proofs.RegisterFacts.{begin_syncs}
use Rattle.jc_sync.proofs.SeenFacts.{lets-rise}
use Rattle.jc_sync.proofs.StepFacts.{begun_under}

-- With what the sync began, and that the caches were fresh.
pub record BegunBy (now : ℕ) (c : ControllerView) (basis : Basis) : Type 0 where
  pub j : Version
  pub p : Version
  pub k : Key
  pub jobs : c.schedule.jobs_at ≡ Some j
  pub pods : c.schedule.pods_at ≡ Some p
  pub fresh : lag k c j p ≡ None
  pub is : basis ≡ basis_of now c j p k

abbrev basis_in : Begin → Option Basis
basis_in (Begun basis) = Some basis
basis_in other = None

pub begun_by : (now : ℕ) (c : ControllerView) (basis : Basis) → (begun now c).answer ≡ Begun basis → BegunBy now c basis
begun_by now c basis h = by_jobs c.schedule.jobs_at refl h
  where
    by_lag : (j p : Version) (k : Key) → c.schedule.jobs_at ≡ Some j → c.schedule.pods_at ≡ Some p → (o : Option Lag) → lag k c j p ≡ o → (begun_unless now c j p k o).answer ≡ Begun basis → BegunBy now c basis
    by_lag j p k jobs pods None fresh g = record {
      j = j;
      p = p;
      k = k;
      jobs = jobs;
      pods = pods;
      fresh = fresh;
      is = ap (λ (o : Option Basis). elim o [ None ↦ basis | Some b ↦ b ]) (sym (ap basis_in g));
    }
    by_lag j p k jobs pods (Some late) fresh g = absurd (true≢false (sym (ap (λ b. is_some (basis_in b)) g)))

    by_line : (j p : Version) → c.schedule.jobs_at ≡ Some j → c.schedule.pods_at ≡ Some p → (line : List Key) → (begun_first now c j p line).answer ≡ Begun basis → BegunBy now c basis
    by_line j p jobs pods [] g = absurd (true≢false (sym (ap (λ b. is_some (basis_in b)) g)))
    by_line j p jobs pods (k ∷ rest) g = by_lag j p k jobs pods (lag k c j p) refl g

    by_pods : (j : Version) → c.schedule.jobs_at ≡ Some j → (o : Option Version) → c.schedule.pods_at ≡ o → (begun_at now c (Some j) o).answer ≡ Begun basis → BegunBy now c basis
    by_pods j jobs None pods g = absurd (true≢false (sym (ap (λ b. is_some (basis_in b)) g)))
    by_pods j jobs (Some p) pods g = by_line j p jobs pods c.schedule.queue.line g

    by_jobs : (o : Option Version) → c.schedule.jobs_at ≡ o → (begun_at now c o c.schedule.pods_at).answer ≡ Begun basis → BegunBy now c basis
    by_jobs None jobs g = absurd (true≢false (sym (ap (λ b. is_some (basis_in b)) g)))
    by_jobs (Some j) jobs g = by_pods j jobs c.schedule.pods_at refl g

-- Neither cache is behind.
not_behind : (k : Key) (c : ControllerView) (j p : Version) → lag k c j p ≡ None → (need_of Pods k c).0 ≤ p.0
not_behind k c j p fresh = by_jobs (nat_lt j.0 (need_of Jobs k c).0) fresh
  where
    by_pods : (b : Bool) → nat_lt p.0 (need_of Pods k c).0 ≡ b → cond {A = Option Lag} b (Some (record { kind = Pods; need = need_of Pods k c; have = p })) None ≡ None → (need_of Pods k c).0 ≤ p.0
    by_pods true t g = absurd (true≢false (ap is_some g))
    by_pods false t g = ltb-false p.0 (need_of Pods k c).0 t

    by_jobs : (b : Bool) → first_lag (cond {A = Option Lag} b (Some (record { kind = Jobs; need = need_of Jobs k c; have = j })) None) (behind Pods (need_of Pods k c) p) ≡ None → (need_of Pods k c).0 ≤ p.0
    by_jobs true g = absurd (true≢false (ap is_some g))
    by_jobs false g = by_pods (nat_lt p.0 (need_of Pods k c).0) refl g

-- What the caches hold is what the log held.
pub basis_held : (log : List Entry) (now : ℕ) (c : ControllerView) (basis : Basis) → MirrorsLog log c → BegunBy now c basis → IsBasisOf log basis
basis_held log now c basis holds b =
    let jobs : MirrorsJobs log (Some b.j) c.jobs = subst (λ o. MirrorsJobs log o c.jobs) b.jobs holds.jobs in
    let pods : MirrorsPods log (Some b.p) c.rows = subst (λ o. MirrorsPods log o c.rows) b.pods holds.pods in
    subst (IsBasisOf log) (sym b.is) (record {
      jobs_at = jobs.0;
      pods_at = pods.0;
      job = ap (λ t. at same_key t b.k) jobs.1 ∙ jobs_in-at b.k (upto b.j.0 log);
      pods = pods.1 b.k;
    })

-- The pod cache is not older than the Job.
pub basis_reached : (now : ℕ) (c : ControllerView) (basis : Basis) → BegunBy now c basis → IfSome basis.job (λ job. job.version.0 ≤ basis.pods_at.0)
basis_reached now c basis b =
    subst (λ (x : Basis). IfSome x.job (λ job. job.version.0 ≤ x.pods_at.0)) (sym b.is)
    (IfSome-of (at same_key c.jobs b.k) (λ job. job.version.0 ≤ b.p.0)
    (λ job there. let need = subst (λ (o : Option Job). (pods_need (floor_of b.k c.schedule) o).0 ≤ b.p.0) there (not_behind b.k c b.j b.p b.fresh) in within (floor_of b.k c.schedule).0 job.version.0 b.p.0 need))
  where
    within : (f v n : ℕ) → max f v ≤ n → v ≤ n
    within f v n h = omega (arith, h)

-- A sync begins.
pub begun_syncs : (d : Deed) (past : List Deed) (log : List Entry) (rs : Registers) (c w now : ℕ) (ctl : ControllerView) (basis : Basis) → HasSyncs past log rs → register_at c w rs ≡ Some None → MirrorsLog log ctl
    → (begun now ctl).answer ≡ Begun basis → d.act ≡ does.Begin c w → d.reply ≡ reply.Begun basis.key basis.jobs_at basis.pods_at → d.length.0 ≡ length log
    → HasSyncs (d ∷ past) log (put_at c w (Some (new_sync basis)) rs)
begun_syncs d past log rs c w now ctl basis h free holds answer act told_is still =
    let b = begun_by now ctl basis answer in
    let held = basis_held log now ctl basis holds b in
    begin_syncs d past log rs c w (new_sync basis) h free act (ap began_of told_is) (record {
      quiet = record { still = still; within = subst (λ o. IfSome o (StandsWithin (length log))) (sym (ap began_of told_is)) (held.jobs_at, held.pods_at) };
      basis = held;
      reached = basis_reached now ctl basis b;
      written = refl;
      sends = IfSome-of basis.job (λ job. sent_first basis.job ≡ job.version) (λ job is. ap sent_first is);
      released = refl;
    }) (begun_under (new_sync basis).flight (basis-rises log basis held) refl) refl (lets-rise basis (basis-rises log basis held)) refl
