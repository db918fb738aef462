-- How a pod came to lose its finalizer.
--     Takes u log d past           just before the deed the pod of the UID had it, and just after it not
--     HowLost job u log d past     the deed took it: a command did, or a sync that had a cause
--     WasLost job u log deeds      so one of the deeds did
--     AreLostWell job deeds log    so it is of each pod of the Job that ever was there and has none
use Rattle.std.specs.Prelude.{◌≡◌, ℕ, Bool, true, List, [], ◌∷◌, Some, ◌⊎◌}
use Rattle.jc_log.specs.Acts as does
use Rattle.jc_types.specs.declared.numbers.Uid.{Uid}
use Rattle.jc_types.specs.declared.objects.Entry.{Entry}
use Rattle.jc_types.specs.declared.objects.Job.{Job}
use Rattle.jc_types.specs.declared.objects.Pod.{Pod}
use Rattle.jc_log.specs.Deeds.{Deed}
use Rattle.jc_log.specs.Log.{Live, is_lost, life, upto}
use Rattle.jc_sync.specs.Ledger.{ledger_of}
use Rattle.jc_sync.specs.Once.{IsJustified, taking_of}
use Rattle.jc_sync.specs.Syncs.{appends, reach, request_of}

-- Just before the deed the pod of the UID had its finalizer. The deed wrote an entry, and just after it the
-- pod was without it, or gone.
pub record Takes (u : Uid) (log : List Entry) (d : Deed) (past : List Deed) : Type 0 where
  pub pod : Pod
  pub stood : life u (upto (reach past) log) ≡ Live pod
  pub held : pod.tracked ≡ true
  pub wrote : appends d past ≡ true
  pub lost : is_lost (life u (upto d.length.0 log)) ≡ true

-- The deed took the finalizer of the pod of the UID: a command stripped this pod; or a sync released this
-- pod or let it go, and had a cause: the pod as it stood was counted, or needs no count.
pub data HowLost (job : Job) (u : Uid) (log : List Entry) (d : Deed) (past : List Deed) : Type 0
  where
    ByCommand : Takes u log d past → d.act ≡ does.Strip u → HowLost job u log d past
    BySync : (takes : Takes u log d past) → (lets_go : Bool)
        → taking_of (request_of d.reply) ≡ Some (record { pod = u; lets_go = lets_go })
        → IsJustified job (ledger_of job.uid past log).records d.length.0 log lets_go takes.pod
        → HowLost job u log d past

-- One of the deeds took it.
abbrev pub WasLost : Job → Uid → List Entry → List Deed → Type 0
WasLost job u log [] = ⊥
WasLost job u log (d ∷ past) = HowLost job u log d past ⊎ WasLost job u log past

-- So it is of each pod of the Job that ever was there, at some length of the log, and that is without its
-- finalizer now, or gone.
abbrev pub AreLostWell : Job → List Deed → List Entry → Type 0
AreLostWell job deeds log =
    (u : Uid) (n : ℕ) (pod : Pod) → life u (upto n log) ≡ Live pod → pod.owner_uid ≡ job.uid
    → is_lost (life u log) ≡ true → WasLost job u log deeds
