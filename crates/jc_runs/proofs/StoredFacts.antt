-- What an event appends is a write of the store.
use Rattle.std.proofs.Common.{ℕ, ℤ, List, [], ◌∷◌, Option, Some, None}
use Rattle.jc_types.specs.declared.actions.Fault.{Fault}
use Rattle.jc_types.specs.declared.actions.Fault.TheVariants.{Drop, Lose}
use Rattle.jc_types.specs.declared.numbers.Uid.{Uid}
use Rattle.jc_types.specs.declared.objects.Entry.{Entry}
use Rattle.jc_types.specs.declared.objects.Job.{Job}
use Rattle.jc_types.specs.declared.objects.Pod.{Pod}
use Rattle.jc_types.specs.declared.statuses.JobStatus.{JobStatus}
use Rattle.jc_log.specs.Log.{pod_in}
use Rattle.jc_log.specs.Requests.{grown, report_phase_gives}
use Rattle.jc_log.specs.Writes.{Stored}
use Rattle.jc_log.proofs.RequestFacts.{create_pod-stored, let_go-stored, mark_pod-stored, release-stored, report_phase-stored, write_status-stored}
use Rattle.jc_plan.specs.Plans.{planned}
use Rattle.jc_ledger.specs.declared.flights.Flight.{Flight}
use Rattle.jc_asks.specs.declared.asks.Ask.{Ask}
use Rattle.jc_asks.specs.declared.asks.Ask.TheVariants.{MakePod, MarkPod, LetPodGo, WriteFirst, ReleasePod, WriteSecond}
use Rattle.jc_asks.specs.Steps.{Sync, answered_to, make_gives, status_gives, stepped_at, written_gives}
use Rattle.jc_control.specs.Schedules.{Schedule}
use Rattle.jc_history.specs.Nodes.{NodeAct, change_by, finish_change}
use Rattle.jc_history.specs.Replies.{finish_gives, node_gives}
use Rattle.jc_runs.specs.Teams.{stride_at}
use Rattle.jc_runs.proofs.PodEvents.{finished_gives}

module _ (log : List Entry) (stored : Stored log) where
  pub finished-stored : (uid : Uid) (exit : ℤ) → Stored (grown log (finished_gives log uid exit).entry)
  finished-stored uid exit = by (pod_in uid log)
    where
      by : (o : Option Pod) → Stored (grown log (finish_gives log o (λ pod. report_phase_gives log uid (finish_change pod exit))).entry)
      by None = stored
      by (Some pod) = report_phase-stored log stored uid (finish_change pod exit)

  pub node-stored : (o : Option (Pod × NodeAct)) → Stored (grown log (node_gives log o).entry)
  node-stored None = stored
  node-stored (Some step) = report_phase-stored log stored step.0.uid (change_by step.0 step.1)

  -- ---- the requests of a sync

  module _ (now : ℕ) (flight : Flight) where
    make-stored : (index : Option ℕ) (o : Option Job) → Stored (grown log (make_gives log index now o).entry)
    make-stored index None = stored
    make-stored index (Some job) = create_pod-stored log stored job index now

    status-stored : (status : JobStatus) (o : Option Job) → Stored (grown log (status_gives log flight status o).entry)
    status-stored status None = stored
    status-stored status (Some job) = write_status-stored log stored flight.basis.key job.uid flight.sends status

    written-stored : (o : Option JobStatus) → Stored (grown log (written_gives log flight o).entry)
    written-stored None = stored
    written-stored (Some status) = status-stored status flight.basis.job

    answered-stored : (ask : Ask) → Stored (grown log (answered_to log now flight ask).entry)
    answered-stored (MakePod index) = make-stored index flight.basis.job
    answered-stored (MarkPod u) = mark_pod-stored log stored u now
    answered-stored (LetPodGo u v) = let_go-stored log stored u v
    answered-stored WriteFirst = written-stored (planned flight.basis).first
    answered-stored (ReleasePod u) = release-stored log stored u
    answered-stored WriteSecond = written-stored (planned flight.basis).second

    stepped-stored : (pending : Option Fault) (left : List Ask) → Stored (grown log (stepped_at now pending log flight left).entry)
    stepped-stored pending [] = stored
    stepped-stored None (ask ∷ left) = answered-stored ask
    stepped-stored (Some Drop) (ask ∷ left) = stored
    stepped-stored (Some Lose) (ask ∷ left) = answered-stored ask

  pub stride-stored : (now : ℕ) (fault : Option Fault) (schedule : Schedule) (o : Option Sync) → Stored (grown log (stride_at log now fault schedule o).entry)
  stride-stored now fault schedule None = stored
  stride-stored now fault schedule (Some sync) = stepped-stored now sync.flight fault sync.left
