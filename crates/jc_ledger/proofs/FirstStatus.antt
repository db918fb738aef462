-- The law on a first status: all that ties goes over.
use Rattle.std.proofs.Common.{◌≡◌, suc, ◌≤◌, List, ◌∷◌, ◌++◌, length, Option, Some, None, is_some, refl, sym, ap, ◌∙◌, subst, true≢false}
use Rattle.std.specs.Prelude.{IfSome}
use Rattle.jc_types.specs.declared.objects.Entry.{Entry}
use Rattle.jc_types.specs.declared.objects.Entry.TheVariants.{JobPut}
use Rattle.jc_types.specs.declared.objects.Job.{Job}
use Rattle.jc_log.specs.Deeds.{Deed}
use Rattle.jc_log.specs.Log.{upto, entry_at, pods_of}
use Rattle.jc_log.specs.Writes.{Legal}
use Rattle.jc_log.proofs.LogFacts.{entry_at-newest}
use Rattle.jc_log.proofs.WriteFacts.{Stored-from_legal}
use Rattle.jc_ledger.specs.declared.flights.Flight.{Flight}
use Rattle.jc_ledger.specs.EventKinds.{StatusWrite, WritesFirst, with_written}
use Rattle.jc_ledger.specs.Flights.{IsSent, Flies}
use Rattle.jc_ledger.specs.Ledger.{entered, ledger_of}
use Rattle.jc_ledger.specs.Tied.{Tied}
use Rattle.jc_ledger.proofs.AcceptFacts.{IsOneJob, one_job, tied_accepted}
use Rattle.jc_ledger.proofs.FirstFacts.{IsFirst, first_puts}
use Rattle.jc_ledger.proofs.FrameFacts.{AllFly-more, AllFly-one, AllFly-put, Flies-more, grow}
use Rattle.jc_ledger.proofs.OwnFacts.{own-is, basis-rises}
use Rattle.jc_ledger.proofs.PutFacts.{Puts, ties_of}

-- The Job that is there is the one that the sync saw: it has written nothing yet, so it sends the version of
-- that one.
pub current-seen : (d : Deed) (past : List Deed) (log : List Entry) (s : StatusWrite) → IsOneJob log s
    → Flies log s.flight → WritesFirst d past log s → s.job ≡ s.current
current-seen d past log s one flies w =
    let sent = subst (λ (o : Option Job). IfSome o (λ j. IsSent log s.flight j)) w.accepted.seen flies.sent in
    let same = w.accepted.version ∙ sent.unwritten w.unwritten in
    ap (λ (o : Option Entry). job_of o) (sym one.saw ∙ ap (λ v. entry_at v log) (ap (λ v. v.0) (sym same)) ∙ one.stands)
  where
    job_of : Option Entry → Job
    job_of None = s.job
    job_of (Some (JobPut j)) = j
    job_of (Some other) = s.job

-- The event has what the law on plain variables asks for.
first-of : (d : Deed) (past : List Deed) (log : List Entry) (flights : List Flight) (s : StatusWrite) (one : IsOneJob log s)
    → Tied past log flights → Flies log s.flight → Legal (JobPut s.new ∷ log) → WritesFirst d past log s
    → IsFirst one.made log (ledger_of one.made.uid past log) s.job s.flight.basis.pods s.flight.basis.pods_at.0 s.new
first-of d past log flights s one t flies legal w =
    let y = s.flight.basis.pods_at.0 in
    record {
      agrees = record {
        stored = Stored-from_legal log t.legal;
        ties = ties_of past log flights one.made t one.is_made;
        there = one.there ∙ ap (λ j. Some j) (sym (current-seen d past log s one flies w));
        uid = one.job_step.uid;
        step = one.job_step;
        reached = subst (λ (o : Option Job). IfSome o (λ j. j.version.0 ≤ y)) w.accepted.seen flies.reached;
      };
      legal = legal;
      is_made = one.is_made;
      own = own-is log s.flight.basis s.job t.legal flies.basis w.accepted.seen ∙ ap (λ j. pods_of j (upto y log)) one.job_step.uid;
      rises = basis-rises log s.flight.basis flies.basis;
      within = flies.basis.pods_at;
      counts = w.counts;
      new_step = one.new_step;
    }

-- The sync goes on with what it has written.
flies-first : (d : Deed) (past : List Deed) (log : List Entry) (s : StatusWrite) → IsOneJob log s
    → Legal (JobPut s.new ∷ log) → Flies (JobPut s.new ∷ log) s.flight → WritesFirst d past log s → Flies (JobPut s.new ∷ log) (with_written s.flight s.new)
flies-first d past log s one legal flies w = record {
  basis = flies.basis;
  reached = flies.reached;
  sent = subst (λ (o : Option Job). IfSome o (λ j. IsSent (JobPut s.new ∷ log) (with_written s.flight s.new) j)) (sym w.accepted.seen) sent;
  released = flies.released;
}
  where
    sent : IsSent (JobPut s.new ∷ log) (with_written s.flight s.new) s.job
    sent = record {
      put = s.new;
      is_put = ap (λ v. entry_at v (JobPut s.new ∷ log)) legal.0.writes.version ∙ entry_at-newest (JobPut s.new) log;
      uid = one.new_step.uid ∙ sym one.job_step.uid;
      key = one.new_step.key ∙ sym one.job_step.key;
      status = refl;
      unwritten = λ e. absurd (true≢false (ap is_some e));
    }

-- The first status is written.
pub first_written : (d : Deed) (past : List Deed) (log : List Entry) (front back : List Flight) (s : StatusWrite)
    → Tied past log (front ++ s.flight ∷ back) → WritesFirst d past log s → Tied (d ∷ past) (JobPut s.new ∷ log) (front ++ with_written s.flight s.new ∷ back)
first_written d past log front back s t w =
    let flights = front ++ s.flight ∷ back in
    let a = w.accepted in
    let g = grow d past (JobPut s.new) log flights t a.written in
    let flies = AllFly-one log front back s.flight t.flying in
    let one = one_job d past log s a g.legal flies.basis in
    let y = s.flight.basis.pods_at.0 in
    let ledger = ledger_of one.made.uid past log in
    let after = entered s.job (pods_of one.made.uid (upto y log)) y (suc (length log)) ledger in
    let puts : Puts one.made log ledger after s.job (pods_of one.made.uid (upto y log)) y s.current s.new =
    subst (λ (there : Job). Puts one.made log ledger after s.job (pods_of one.made.uid (upto y log)) y there s.new)
    (current-seen d past log s one flies w)
    (first_puts one.made log ledger s.job s.flight.basis.pods y s.new (first-of d past log flights s one t flies g.legal w)) in
    tied_accepted d past log flights (front ++ with_written s.flight s.new ∷ back) s one.made t a flies.basis one.job_step.uid puts
    (AllFly-put (JobPut s.new ∷ log) front back s.flight (with_written s.flight s.new) (AllFly-more (JobPut s.new) log flights g.legal t.flying)
    (flies-first d past log s one g.legal (Flies-more (JobPut s.new) log s.flight g.legal flies) w))
