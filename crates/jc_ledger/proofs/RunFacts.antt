-- Every world of a run is tied, and so counts once.
use Rattle.std.proofs.Common.{List, [], ◌∷◌, ◌++◌, sym, subst}
use Rattle.std.specs.List.{AllByRecursion as Each}
use Rattle.jc_types.specs.declared.objects.Entry.{Entry}
use Rattle.jc_types.proofs.ListFacts.{Each-weaker}
use Rattle.jc_log.specs.Deeds.{Deed}
use Rattle.jc_ledger.specs.declared.flights.Flight.{Flight}
use Rattle.jc_ledger.specs.Once.{Once}
use Rattle.jc_ledger.specs.LawRuns.{World, IsTied, Replaces, Adds, Drops, Step, Quiet, Dropped, Created, Updated, Deleted, PodWritten, Begun, NotTracked, FirstWritten, SecondWritten, Released, OrphanReleased, LetGo, IsRun}
use Rattle.jc_ledger.specs.Tied.{Tied}
use Rattle.jc_ledger.proofs.JobLaws.{tied_created, tied_updated, tied_deleted, tied_pod}
use Rattle.jc_ledger.proofs.FirstStatus.{first_written}
use Rattle.jc_ledger.proofs.OnceFacts.{tied_once}
use Rattle.jc_ledger.proofs.ReleaseFacts.{tied_released, tied_orphan, tied_let_go}
use Rattle.jc_ledger.proofs.SecondStatus.{second_written}
use Rattle.jc_ledger.proofs.QuietFacts.{tied_start, tied_quiet, tied_dropped, tied_begun, tied_not_tracked}

-- What holds of the syncs that are told as a front, one sync and a back, holds of the syncs.
replaced : (w : World) (deeds : List Deed) (log : List Entry) (old new : Flight) (next : List Flight) → Replaces w.flights old new next → IsTied w
    → ((front back : List Flight) → Tied w.deeds w.log (front ++ old ∷ back) → Tied deeds log (front ++ new ∷ back)) → Tied deeds log next
replaced w deeds log old new next r t law =
    subst (Tied deeds log) (sym r.are) (law r.front r.back (subst (Tied w.deeds w.log) r.were t))

-- So it is where one comes.
added : (w : World) (deeds : List Deed) (log : List Entry) (new : Flight) (next : List Flight) → Adds w.flights new next → IsTied w
    → ((front back : List Flight) → Tied w.deeds w.log (front ++ back) → Tied deeds log (front ++ new ∷ back)) → Tied deeds log next
added w deeds log new next a t law =
    subst (Tied deeds log) (sym a.are) (law a.front a.back (subst (Tied w.deeds w.log) a.were t))

-- So it is where some go.
dropped : (w : World) (next : List Flight) → Drops w.flights next → IsTied w → Tied w.deeds w.log next
dropped w next x t =
    subst (Tied w.deeds w.log) (sym x.are) (tied_dropped w.deeds w.log x.front x.dropped x.back (subst (Tied w.deeds w.log) x.were t))

-- One event, or syncs that come to their end, keep a world tied.
pub step_tied : (w next : World) → Step w next → IsTied w → IsTied next
step_tied w next (Quiet d q is) t =
    subst IsTied (sym is) (tied_quiet d w.deeds w.log w.flights t q)
step_tied w next (Dropped x is) t =
    subst IsTied (sym is) (dropped w next.flights x t)
step_tied w next (Created d job c is) t =
    subst IsTied (sym is) (tied_created d w.deeds w.log w.flights job t c)
step_tied w next (Updated d old job u is) t =
    subst IsTied (sym is) (tied_updated d w.deeds w.log w.flights old job t u)
step_tied w next (Deleted d job g is) t =
    subst IsTied (sym is) (tied_deleted d w.deeds w.log w.flights job t g)
step_tied w next (PodWritten d e pod p is) t =
    subst IsTied (sym is) (tied_pod d w.deeds w.log w.flights e pod t p)
step_tied w next (Begun d flight b a is) t =
    subst IsTied (sym is)
    (added w (d ∷ w.deeds) w.log flight next.flights a t (λ front back s. tied_begun d w.deeds w.log front back flight s b))
step_tied w next (NotTracked d flight u f r is) t =
    subst IsTied (sym is)
    (replaced w (d ∷ w.deeds) w.log flight _ next.flights r t (λ front back s. tied_not_tracked d w.deeds w.log front back flight u s f))
step_tied w next (FirstWritten d s f r is) t =
    subst IsTied (sym is)
    (replaced w (d ∷ w.deeds) _ s.flight _ next.flights r t (λ front back h. first_written d w.deeds w.log front back s h f))
step_tied w next (SecondWritten d s f r is) t =
    subst IsTied (sym is)
    (replaced w (d ∷ w.deeds) _ s.flight s.flight next.flights r t (λ front back h. second_written d w.deeds w.log front back s h f))
step_tied w next (Released d job f g r is) t =
    subst IsTied (sym is)
    (replaced w (d ∷ w.deeds) (f.entry ∷ w.log) f.flight _ next.flights r t (λ front back h. tied_released d w.deeds w.log front back job f h g))
step_tied w next (OrphanReleased d f g r is) t =
    subst IsTied (sym is)
    (replaced w (d ∷ w.deeds) (f.entry ∷ w.log) f.flight _ next.flights r t (λ front back h. tied_orphan d w.deeds w.log front back f h g))
step_tied w next (LetGo d old f g r is) t =
    subst IsTied (sym is)
    (replaced w (d ∷ w.deeds) (f.entry ∷ w.log) f.flight f.flight next.flights r t (λ front back h. tied_let_go d w.deeds w.log front back old f h g))

-- Every world of a run is tied.
pub run_tied : (worlds : List World) → IsRun worlds → Each IsTied worlds
run_tied [] run = tt
run_tied (w ∷ []) run = (subst IsTied (sym run) tied_start, tt)
run_tied (next ∷ w ∷ before) run = after (run_tied (w ∷ before) run.1)
  where
    after : Each IsTied (w ∷ before) → Each IsTied (next ∷ w ∷ before)
    after all = (step_tied w next run.0 all.0, all)

-- So every world of a run counts once.
pub run_once : (worlds : List World) → IsRun worlds → Each (λ (w : World). Once w.deeds w.log) worlds
run_once worlds run =
    Each-weaker IsTied (λ (w : World). Once w.deeds w.log) (λ w t. tied_once w.deeds w.log w.flights t) worlds (run_tied worlds run)
