-- The law on a second status: all that ties goes over.
use Rattle.std.proofs.Common.{◌≡◌, suc, List, ◌∷◌, ◌++◌, length, sym, ap, ◌∙◌, subst}
use Rattle.std.specs.List.{AllByRecursion as Each}
use Rattle.jc_types.specs.declared.objects.Entry.{Entry}
use Rattle.jc_types.specs.declared.objects.Entry.TheVariants.{JobPut}
use Rattle.jc_types.specs.declared.objects.Pod.{Pod}
use Rattle.jc_types.specs.declared.statuses.JobStatus.{JobStatus}
use Rattle.jc_states.specs.Bases.{own_pods}
use Rattle.jc_log.specs.Deeds.{Deed}
use Rattle.jc_log.specs.Log.{upto, pods_of}
use Rattle.jc_log.specs.Writes.{Legal}
use Rattle.jc_log.proofs.WriteFacts.{Stored-from_legal}
use Rattle.jc_account.specs.Accounts.{counted_in}
use Rattle.jc_ledger.specs.declared.flights.Flight.{Flight}
use Rattle.jc_ledger.specs.EventKinds.{StatusWrite, CountsIn, CountsOut, WritesSecond}
use Rattle.jc_ledger.specs.Flights.{known, Flies}
use Rattle.jc_ledger.specs.Ledger.{entered, ledger_of}
use Rattle.jc_ledger.specs.Tied.{Tied}
use Rattle.jc_ledger.proofs.AcceptFacts.{IsOneJob, one_job, current-known, tied_accepted}
use Rattle.jc_ledger.proofs.FrameFacts.{AllFly-more, AllFly-one, grow}
use Rattle.jc_ledger.proofs.DoneFacts.{done-increases}
use Rattle.jc_ledger.proofs.OwnFacts.{basis-rises, own-is, own-live}
use Rattle.jc_ledger.proofs.PutFacts.{Puts, ties_of}
use Rattle.jc_ledger.proofs.SecondFacts.{StoodOwn, IsSecond, second-puts}

-- The event has what the law on plain variables asks for.
second-of : (d : Deed) (past : List Deed) (log : List Entry) (flights : List Flight) (s : StatusWrite) (one : IsOneJob log s)
    → Tied past log flights → Flies log s.flight → Legal (JobPut s.new ∷ log) → WritesSecond d past log s
    → own_pods s.job s.flight.basis.pods ≡ pods_of one.made.uid (upto s.flight.basis.pods_at.0 log)
    → IsSecond one.made log (ledger_of one.made.uid past log) s.job s.flight.basis.pods s.flight.basis.pods_at.0 s.current s.new
second-of d past log flights s one t flies legal w own =
    let status : known s.flight s.job ≡ s.current.status = sym (current-known d past log s w.accepted (Stored-from_legal log t.legal) flies) in
    let ties = ties_of past log flights one.made t one.is_made in
    record {
      legal = legal;
      is_made = one.is_made;
      ties = ties;
      rising = done-increases one.made.uid past log;
      there = one.there;
      stands = one.stands;
      within = flies.basis.pods_at;
      job_step = one.job_step;
      current_step = one.current_step;
      new_step = one.new_step;
      rises = basis-rises log s.flight.basis flies.basis;
      own = subst (Each (StoodOwn one.made log s.flight.basis.pods_at.0)) (sym own) (own-live one.made.uid (upto s.flight.basis.pods_at.0 log));
      counted = subst (CountsIn s.job s.flight.basis.pods) status w.counted;
      counts = subst (λ (before : JobStatus). CountsOut before (counted_in s.job s.flight.basis.pods).releases s.new.status) status w.counts;
      released = λ u r. flies.released u (w.released u r);
    }

-- The second status is written.
pub second_written : (d : Deed) (past : List Deed) (log : List Entry) (front back : List Flight) (s : StatusWrite)
    → Tied past log (front ++ s.flight ∷ back) → WritesSecond d past log s → Tied (d ∷ past) (JobPut s.new ∷ log) (front ++ s.flight ∷ back)
second_written d past log front back s t w =
    let flights = front ++ s.flight ∷ back in
    let a = w.accepted in
    let g = grow d past (JobPut s.new) log flights t a.written in
    let flies = AllFly-one log front back s.flight t.flying in
    let one = one_job d past log s a g.legal flies.basis in
    let y = s.flight.basis.pods_at.0 in
    let ledger = ledger_of one.made.uid past log in
    let own : own_pods s.job s.flight.basis.pods ≡ pods_of one.made.uid (upto y log) =
    own-is log s.flight.basis s.job t.legal flies.basis a.seen ∙ ap (λ j. pods_of j (upto y log)) one.job_step.uid in
    let puts : Puts one.made log ledger (entered s.job (pods_of one.made.uid (upto y log)) y (suc (length log)) ledger) s.job (pods_of one.made.uid (upto y log)) y s.current s.new =
    subst (λ (pods : List Pod). Puts one.made log ledger (entered s.job pods y (suc (length log)) ledger) s.job pods y s.current s.new) own
    (second-puts one.made log ledger s.job s.flight.basis.pods y s.current s.new
    (second-of d past log flights s one t flies g.legal w own)) in
    tied_accepted d past log flights flights s one.made t a flies.basis one.job_step.uid puts
    (AllFly-more (JobPut s.new) log flights g.legal t.flying)
