-- What is known where a sync stands, by the request that it makes next.
use Rattle.std.proofs.Common.{◌≡◌, Bool, true, false, List, [], ◌∷◌, ◌++◌, Option, Some, None, refl, sym, ap, ◌∙◌, subst, true≢false}
use Rattle.std.specs.List.{AllByRecursion as Each}
use Rattle.std.specs.Option.{unwrap_or}
use Rattle.std.proofs.lemmas.List.{append-nil}
use Rattle.jc_types.specs.declared.numbers.Uid.{Uid}
use Rattle.jc_types.specs.declared.statuses.JobStatus.{JobStatus}
use Rattle.jc_states.specs.UidLists.{is_in}
use Rattle.jc_plan.specs.Plans.{planned}
use Rattle.jc_plan.specs.Statuses.{first_value}
use Rattle.jc_ledger.specs.declared.flights.Flight.{Flight}
use Rattle.jc_ledger.specs.Flights.{known}
use Rattle.jc_ledger.proofs.QuietFacts.{IfSome-of}
use Rattle.jc_asks.specs.declared.asks.Ask.{Ask}
use Rattle.jc_asks.specs.declared.asks.Ask.TheVariants.{MakePod, MarkPod, LetPodGo, WriteFirst, ReleasePod, WriteSecond}
use Rattle.jc_asks.specs.Asks.{first_asks, second_asks, last_asks, late_asks}
use Rattle.jc_sync.specs.SyncPlaces.{After, AreReleased, Before, IsAt, IsEarly, IsUnder, KnowsFirst, Over, Under}
use Rattle.jc_plan.proofs.NextFacts.{changed-same}
use Rattle.jc_plan.proofs.PlanFacts.{plan-first}

-- ---- lists of requests

-- The first request may come before the releases.
abbrev is_pre : List Ask → Bool
is_pre [] = false
is_pre (MakePod index ∷ left) = true
is_pre (MarkPod u ∷ left) = true
is_pre (LetPodGo u v ∷ left) = true
is_pre (WriteFirst ∷ left) = true
is_pre (ReleasePod u ∷ left) = false
is_pre (WriteSecond ∷ left) = false

last-not_pre : (releases : List Uid) (second : Option JobStatus) → is_pre (last_asks releases second) ≡ false
last-not_pre [] None = refl
last-not_pre [] (Some status) = refl
last-not_pre (u ∷ rest) second = refl

abbrev pub is_asked : List Ask → Bool
is_asked [] = false
is_asked (ask ∷ left) = true

abbrev pub ask_or : Ask → List Ask → Ask
ask_or other [] = other
ask_or other (ask ∷ left) = ask

abbrev pub after_ask : List Ask → List Ask
after_ask [] = []
after_ask (ask ∷ left) = left

-- ---- where the sync stands

-- All places before the second status is written, by what is next.
pub data Place (flight : Flight) (left : List Ask) : Type 0 where
  AtEarly : (ask : Ask) (front : List Ask) → left ≡ ask ∷ (front ++ late_asks (planned flight.basis)) → IsEarly flight.basis ask
      → Each (IsEarly flight.basis) front → flight.written ≡ None → Place flight left
  AtFirst : (status : JobStatus) → (planned flight.basis).first ≡ Some status
      → left ≡ WriteFirst ∷ last_asks (planned flight.basis).releases (planned flight.basis).second → flight.written ≡ None → Place flight left
  AtLast : (made rest : List Uid) → (planned flight.basis).releases ≡ made ++ rest → left ≡ last_asks rest (planned flight.basis).second
      → KnowsFirst flight
      → AreReleased flight made → Place flight left

-- Where no first status is to be written, the sync knows it.
known-unwritten : (flight : Flight) → flight.written ≡ None → (planned flight.basis).first ≡ None → KnowsFirst flight
known-unwritten flight unwritten none =
    IfSome-of flight.basis.job (λ job. known flight job ≡ first_value job flight.basis)
    (λ job is. ap (λ (w : Option JobStatus). unwrap_or w job.status) unwritten ∙ changed-same job.status (first_value job flight.basis) (sym (plan-first flight.basis job is) ∙ none))

pub place_of : (flight : Flight) (left : List Ask) → IsUnder flight left → Place flight left
place_of flight left (Before (ask ∷ front) is early unwritten) = AtEarly ask front is early.0 early.1 unwritten
place_of flight left (Before [] is early unwritten) = by (planned flight.basis).first refl is
  where
    by : (o : Option JobStatus) → (planned flight.basis).first ≡ o → left ≡ first_asks o ++ last_asks (planned flight.basis).releases (planned flight.basis).second → Place flight left
    by None none e = AtLast [] (planned flight.basis).releases refl e (known-unwritten flight unwritten none) (λ u h. absurd (true≢false (sym h)))
    by (Some status) first e = AtFirst status first e unwritten
place_of flight left (After made rest are is knows released) = AtLast made rest are is knows released

-- Where a request is left the second status is not written.
pub asks_under : (flight : Flight) (ask : Ask) (left : List Ask) → IsAt flight (ask ∷ left) → IsUnder flight (ask ∷ left)
asks_under flight ask left (Under under) = under
asks_under flight ask left (Over is released) = absurd (true≢false (ap is_asked is))

-- ---- by the next request

-- One that comes before the first status.
pub record IsEarlyAsk (flight : Flight) (ask : Ask) (left : List Ask) : Type 0 where
  pub front : List Ask
  pub is : left ≡ front ++ late_asks (planned flight.basis)
  pub early : IsEarly flight.basis ask
  pub others : Each (IsEarly flight.basis) front
  pub unwritten : flight.written ≡ None

-- The request comes before the first status.
abbrev pub is_early : Ask → Bool
is_early (MakePod index) = true
is_early (MarkPod u) = true
is_early (LetPodGo u v) = true
is_early other = false

pub at_early : (flight : Flight) (ask : Ask) (left : List Ask) → is_early ask ≡ true → IsAt flight (ask ∷ left) → IsEarlyAsk flight ask left
at_early flight ask left kind at = by (place_of flight (ask ∷ left) (asks_under flight ask left at))
  where
    pre : (a : Ask) → is_early a ≡ true → is_pre (a ∷ left) ≡ true
    pre (MakePod index) k = refl
    pre (MarkPod u) k = refl
    pre (LetPodGo u v) k = refl
    pre WriteFirst k = refl
    pre (ReleasePod u) k = absurd (true≢false (sym k))
    pre WriteSecond k = absurd (true≢false (sym k))

    by : Place flight (ask ∷ left) → IsEarlyAsk flight ask left
    by (AtEarly a front is early others unwritten) = record {
      front = front;
      is = ap after_ask is;
      early = subst (IsEarly flight.basis) (sym (ap (ask_or ask) is)) early;
      others = others;
      unwritten = unwritten;
    }
    by (AtFirst status first is unwritten) = absurd (true≢false (sym kind ∙ ap is_early (ap (ask_or ask) is)))
    by (AtLast made rest are is knows released) = absurd (true≢false (sym (pre ask kind) ∙ ap is_pre is ∙ last-not_pre rest (planned flight.basis).second))

-- The first status.
pub record IsFirstAsk (flight : Flight) (left : List Ask) : Type 0 where
  pub status : JobStatus
  pub first : (planned flight.basis).first ≡ Some status
  pub is : left ≡ last_asks (planned flight.basis).releases (planned flight.basis).second
  pub unwritten : flight.written ≡ None

pub at_first : (flight : Flight) (left : List Ask) → IsAt flight (WriteFirst ∷ left) → IsFirstAsk flight left
at_first flight left at = by (place_of flight (WriteFirst ∷ left) (asks_under flight WriteFirst left at))
  where
    by : Place flight (WriteFirst ∷ left) → IsFirstAsk flight left
    by (AtEarly a front is early others unwritten) = absurd (subst (IsEarly flight.basis) (sym (ap (ask_or a) is)) early)
    by (AtFirst s first is unwritten) = record { status = s; first = first; is = ap after_ask is; unwritten = unwritten }
    by (AtLast made rest are is knows released) = absurd (true≢false (ap is_pre is ∙ last-not_pre rest (planned flight.basis).second))

-- A release.
pub record IsReleaseAsk (flight : Flight) (u : Uid) (left : List Ask) : Type 0 where
  pub made : List Uid
  pub rest : List Uid
  pub are : (planned flight.basis).releases ≡ made ++ u ∷ rest
  pub is : left ≡ last_asks rest (planned flight.basis).second
  pub knows : KnowsFirst flight
  pub released : AreReleased flight made

abbrev uid_or : Uid → Ask → Uid
uid_or other (ReleasePod u) = u
uid_or other ask = other

abbrev is_release : List Ask → Bool
is_release (ReleasePod u ∷ left) = true
is_release other = false

no_release : (second : Option JobStatus) → is_release (second_asks second) ≡ false
no_release None = refl
no_release (Some status) = refl

pub at_release : (flight : Flight) (u : Uid) (left : List Ask) → IsAt flight (ReleasePod u ∷ left) → IsReleaseAsk flight u left
at_release flight u left at = by (place_of flight (ReleasePod u ∷ left) (asks_under flight (ReleasePod u) left at))
  where
    by : Place flight (ReleasePod u ∷ left) → IsReleaseAsk flight u left
    by (AtEarly a front is early others unwritten) = absurd (subst (IsEarly flight.basis) (sym (ap (ask_or a) is)) early)
    by (AtFirst s first is unwritten) = absurd (true≢false (ap is_release is))
    by (AtLast made [] are is knows released) = absurd (true≢false (ap is_release is ∙ no_release (planned flight.basis).second))
    by (AtLast made (v ∷ rest) are is knows released) = record {
      made = made;
      rest = rest;
      are = are ∙ ap (λ l. made ++ uid_or u (ask_or (ReleasePod u) l) ∷ rest) (sym is);
      is = ap after_ask is;
      knows = knows;
      released = released;
    }

-- The second status.
pub record IsSecondAsk (flight : Flight) (left : List Ask) : Type 0 where
  pub status : JobStatus
  pub second : (planned flight.basis).second ≡ Some status
  pub is : left ≡ []
  pub knows : KnowsFirst flight
  pub released : AreReleased flight (planned flight.basis).releases

abbrev is_second : List Ask → Bool
is_second (WriteSecond ∷ l) = true
is_second other = false

pub at_second : (flight : Flight) (left : List Ask) → IsAt flight (WriteSecond ∷ left) → IsSecondAsk flight left
at_second flight left at = by (place_of flight (WriteSecond ∷ left) (asks_under flight WriteSecond left at))
  where
    by : Place flight (WriteSecond ∷ left) → IsSecondAsk flight left
    by (AtEarly a front is early others unwritten) = absurd (subst (IsEarly flight.basis) (sym (ap (ask_or a) is)) early)
    by (AtFirst s first is unwritten) = absurd (true≢false (ap is_second is))
    by (AtLast made (v ∷ rest) are is knows released) = absurd (true≢false (ap is_second is))
    by (AtLast made [] are is knows released) = last (planned flight.basis).second refl is
      where
        last : (o : Option JobStatus) → (planned flight.basis).second ≡ o → WriteSecond ∷ left ≡ second_asks o → IsSecondAsk flight left
        last None second e = absurd (true≢false (ap is_asked e))
        last (Some s) second e = record {
          status = s;
          second = second;
          is = ap after_ask e;
          knows = knows;
          released = λ v h. released v (sym (ap (is_in v) (are ∙ append-nil made)) ∙ h);
        }
