-- What ties stays where a sync takes the finalizer of a pod.
use Rattle.std.proofs.Common.{true, false, List, ◌∷◌, ◌++◌, refl}
use Rattle.jc_types.specs.declared.objects.Entry.{Entry}
use Rattle.jc_types.specs.declared.objects.Job.{Job}
use Rattle.jc_types.specs.declared.objects.Pod.{Pod}
use Rattle.jc_types.specs.declared.replies.Request.TheVariants as request
use Rattle.jc_log.specs.Deeds.{Deed}
use Rattle.jc_ledger.specs.declared.flights.Flight.{Flight}
use Rattle.jc_ledger.specs.EventKinds.{FinalizerWrite, TakesFinalizer, Releases, Orphans, LetsGo, with_released}
use Rattle.jc_ledger.specs.Tied.{Tied}
use Rattle.jc_ledger.proofs.DueFacts.{release_justly, orphan_justly, let_go_justly}
use Rattle.jc_ledger.proofs.QuietFacts.{Flies-released}
use Rattle.jc_ledger.proofs.TakenFacts.{Justly, tied_taken, lost_by}

-- A release that may be made is tied.
released_justly : (d : Deed) (past : List Deed) (log : List Entry) (front back : List Flight) (f : FinalizerWrite)
    → Tied past log (front ++ f.flight ∷ back) → TakesFinalizer d log (request.Release f.seen.uid) f → Justly past f.entry log f.seen.uid false
    → Tied (d ∷ past) (f.entry ∷ log) (front ++ with_released f.flight f.seen.uid ∷ back)
released_justly d past log front back f t taken just =
    tied_taken d past log front back (with_released f.flight f.seen.uid) (request.Release f.seen.uid) f false t taken refl refl just
    (λ flies. Flies-released (f.entry ∷ log) f.flight f.seen.uid flies (lost_by f.seen.uid f.entry log f.pod taken.is_pod taken.uid taken.untracked))

-- A pod is released that its Job had to release.
pub tied_released : (d : Deed) (past : List Deed) (log : List Entry) (front back : List Flight) (job : Job) (f : FinalizerWrite)
    → Tied past log (front ++ f.flight ∷ back) → Releases d log job f → Tied (d ∷ past) (f.entry ∷ log) (front ++ with_released f.flight f.seen.uid ∷ back)
tied_released d past log front back job f t r =
    released_justly d past log front back f t r.taken (release_justly d past log front back job f t r)

-- An orphan is released.
pub tied_orphan : (d : Deed) (past : List Deed) (log : List Entry) (front back : List Flight) (f : FinalizerWrite)
    → Tied past log (front ++ f.flight ∷ back) → Orphans d log f → Tied (d ∷ past) (f.entry ∷ log) (front ++ with_released f.flight f.seen.uid ∷ back)
tied_orphan d past log front back f t o =
    released_justly d past log front back f t o.taken (orphan_justly d past log front back f t o)

-- A pod is let go.
pub tied_let_go : (d : Deed) (past : List Deed) (log : List Entry) (front back : List Flight) (old : Pod) (f : FinalizerWrite)
    → Tied past log (front ++ f.flight ∷ back) → LetsGo d log old f → Tied (d ∷ past) (f.entry ∷ log) (front ++ f.flight ∷ back)
tied_let_go d past log front back old f t l =
    tied_taken d past log front back f.flight (request.LetGo f.seen.uid) f true t l.taken refl refl
    (let_go_justly d past log front back old f t l) (λ flies. flies)
