-- Every legal history of one controller is bounded.
use Rattle.std.proofs.Common.{◌≡◌, ℕ, ◌+◌, ◌<◌, ◌≤◌, ◌==◌, nat_lt, Bool, true, false, cond, List, [], ◌∷◌, length, max, Option, Some, None, IfSome, is_some, refl, sym, ap, ◌∙◌, subst, true≢false, arith, ◌⊎◌, inl, inr, eqb-true, eq-eqb, ltb-false}
use Rattle.std.proofs.lemmas.Bool.{cond-false}
use Rattle.jc_control.specs.declared.begins.Lag.{Lag}
use Rattle.jc_control.specs.declared.ends.SyncEnd.{SyncEnd}
use Rattle.jc_control.specs.ControllerCalls.{behind, first_lag, forgets_caches, pods_need}
use Rattle.jc_ledger.specs.Flights.{IsBasisOf}
use Rattle.jc_plan.specs.Plans.{planned}
use Rattle.jc_types.specs.declared.numbers.Version.{Version}
use Rattle.jc_types.specs.declared.objects.Entry.{Entry}
use Rattle.jc_types.specs.declared.objects.Job.{Job}
use Rattle.jc_types.specs.declared.objects.Kind.{Kind}
use Rattle.jc_types.specs.declared.objects.Kind.TheVariants.{Jobs, Pods}
use Rattle.jc_types.specs.declared.replies.Answer.{Answer}
use Rattle.jc_types.specs.declared.runs.Shape.{Shape}
use Rattle.jc_states.specs.declared.bases.Basis.{Basis}
use Rattle.jc_log.specs.Requests.{grown}
use Rattle.jc_log.specs.Deeds.{Deed}
use Rattle.jc_types.specs.declared.objects.KeyNames.{KeyNames as Key}
use Rattle.jc_types.specs.Keys.{same_key}
use Rattle.jc_log.specs.Log.{job_in, next_version, pods_under, upto}
use Rattle.jc_log.specs.Writes.{Stored}
use Rattle.jc_types.proofs.KeyFacts.{same_key-itself}
use Rattle.jc_log.proofs.LogFacts.{upto-fixed}
use Rattle.jc_log.proofs.WriteFacts.{job_in-key}
use Rattle.jc_asks.specs.declared.asks.Ask.{Ask}
use Rattle.jc_asks.specs.declared.asks.Ask.TheVariants.{MakePod}
use Rattle.jc_asks.specs.Asks.{as_request}
use Rattle.jc_bounds.specs.RequestKinds.{next_by_kind, ask_gives}
use Rattle.jc_history.specs.Diaries.{moment, notes}
use Rattle.jc_history.specs.Fresh.{basis, cache_lag}
use Rattle.jc_history.specs.Legal.{IsLegal}
use Rattle.jc_history.specs.Notes.{Note, Began, Asked, Ended}
use Rattle.jc_history.specs.Numbers.{number}
use Rattle.jc_history.specs.Registers.{HaveOwnKeys, floor, later_if, made, register}
use Rattle.jc_asks.specs.Steps.{floor_given, as_answer}
use Rattle.jc_history.specs.Replies.{gives, log_given}
use Rattle.jc_history.proofs.DiaryFacts.{legal-told, notes-within, number-within}
use Rattle.jc_history.proofs.LegalFacts.{legal-fit}
use Rattle.jc_history.proofs.RegisterFacts.{fit-apart}
use Rattle.jc_bounds.specs.Bounded.{IsBounded, IsFlight}
use Rattle.jc_bounds.specs.Work.{is_birth, is_work, last_work, pods_made}
use Rattle.jc_bounds.proofs.AskEntries.{ask-makes, ask-own, is_make, makes-first}
use Rattle.jc_bounds.proofs.NoteFacts.{All, Kept, More, Number, asked-made, began-made, began-register, ended-made, ended-number, ended-register, news-floor, news-made, news-number, news-register}
use Rattle.jc_bounds.proofs.Turns.{IsIdleEntry, IsNews, Noted, Restarted, Still, Stepped, Stopped, Turn, Wrote, turn, Began as Begins, Finished}
use Rattle.jc_bounds.proofs.WorkFacts.{birth-works, last-within, made-still}
use Rattle.jc_control.proofs.LawFacts.{neither as first-none, seen as behind-none}
use Rattle.std.proofs.lemmas.Option.{same_Some as some_is}

-- ---- a sync under way

pub basis-more : (e : Entry) (log : List Entry) (b : Basis) → IsBasisOf log b → IsBasisOf (e ∷ log) b
basis-more e log b h = record {
  jobs_at = let le = h.jobs_at in omega (arith, le);
  pods_at = let le = h.pods_at in omega (arith, le);
  job = h.job ∙ ap (job_in b.key) (sym (upto-fixed b.jobs_at.0 e log h.jobs_at));
  pods = h.pods ∙ ap (pods_under b.key) (sym (upto-fixed b.pods_at.0 e log h.pods_at));
}

-- What it is to make goes down with what it makes.
fewer : (log : List Entry) (old new : List Note) (w : ℕ) (b : Basis) → IsFlight log old w b → length (made w old) ≤ length (made w new) → IsFlight log new w b
fewer log old new w b h le = record { basis = h.basis; made = let m = h.made in omega (arith, m, le) }

-- An entry that makes no pod of the key.
unmade : (e : Entry) (log : List Entry) (notes : List Note) (w : ℕ) (b : Basis) → IsFlight log notes w b → is_birth b.key e log ≡ false → IsFlight (e ∷ log) notes w b
unmade e log notes w b h none = record {
  basis = basis-more e log b h.basis;
  made =
      let m = h.made in
      let same = cond-false (is_birth b.key e log) (pods_made b.key log + 1) (pods_made b.key log) none in
      let past = ap (pods_made b.key) (upto-fixed b.pods_at.0 e log h.basis.pods_at) in
      omega (arith, m, same, past);
}

-- An entry that may make one, for a creation that was left.
one-made : (e : Entry) (log : List Entry) (old new : List Note) (w : ℕ) (b : Basis) → IsFlight log old w b → length (made w old) < length (planned b).creates → length (made w new) ≡ length (made w old) + 1 → IsFlight (e ∷ log) new w b
one-made e log old new w b h lt more = record {
  basis = basis-more e log b h.basis;
  made =
      let m = h.made in
      let past = ap (pods_made b.key) (upto-fixed b.pods_at.0 e log h.basis.pods_at) in
      omega (arith, m, past, lt, more, at_most (is_birth b.key e log));
}
  where
    at_most : (t : Bool) → cond t (pods_made b.key log + 1) (pods_made b.key log) ≤ pods_made b.key log + 1
    at_most true = omega arith
    at_most false = omega arith

-- ---- a sync begins

needs-floor : (f : Version) (o : Option Job) → f.0 ≤ (pods_need f o).0
needs-floor f None = omega arith
needs-floor f (Some job) = omega arith

-- Both caches have seen the last work of the key.
pub fresh-seen : (log : List Entry) (notes : List Note) → IsBounded log notes → (k : Key) (j p : Version) → number Jobs notes ≡ Some j → number Pods notes ≡ Some p → cache_lag notes log k j p ≡ None → (last_work k log ≤ j.0) × (last_work k log ≤ p.0)
fresh-seen log notes h k j p a b l =
    let none = first-none (behind Jobs (floor k notes) j) (behind Pods (pods_need (floor k notes) (job_in k (upto j.0 log))) p) l in
    let jobs = behind-none Jobs (floor k notes) j none.0 in
    let pods = behind-none Pods (pods_need (floor k notes) (job_in k (upto j.0 log))) p none.1 in
    let f = needs-floor (floor k notes) (job_in k (upto j.0 log)) in
    let x = h.seen k Jobs j a in
    let y = h.seen k Pods p b in
    (omega (arith, x, jobs), omega (arith, y, pods, f))

-- ---- one turn

module _ (log : List Entry) (stored : Stored log) (old : List Note) (h : IsBounded log old) (apart : HaveOwnKeys old) (within : (kind : Kind) (m : Version) → number kind old ≡ Some m → m.0 ≤ length log) where
  -- A flight that is not touched.
  same-flight : (new : List Note) (w : ℕ) (b : Basis) → register w old ≡ Some b → made w new ≡ made w old → IsFlight log new w b
  same-flight new w b r m = fewer log old new w b (h.flights w b r) (let e = ap length m in omega (arith, e))

  module _ (note : Note) (news : IsNews (length log) old note) where
    noted-bounded : IsBounded log (note ∷ old)
    noted-bounded = record {
      seen = λ k kind m e. by k kind m (news-number (length log) old note news kind m e);
      flights = λ w b r. same-flight (note ∷ old) w b (sym (news-register (length log) old note news w) ∙ r) (news-made (length log) old note news w);
    }
      where
        by : (k : Key) (kind : Kind) (m : Version) → Number (length log) (number kind old) m → last_work k log ≤ max m.0 (floor k (note ∷ old)).0
        by k kind m (Kept e) = let s = h.seen k kind m e in let f = ap (λ (v : Version). v.0) (news-floor (length log) old note news k) in omega (arith, s, f)
        by k kind m (More v e le) = let s = h.seen k kind v e in let f = ap (λ (v : Version). v.0) (news-floor (length log) old note news k) in omega (arith, s, f, le)
        by k kind m (All e) = omega (arith, e, last-within k log)

  wrote-bounded : (e : Entry) → IsIdleEntry log e → IsBounded (e ∷ log) old
  wrote-bounded e idle = record {
    seen = λ k kind m n. let s = h.seen k kind m n in let same = cond-false (is_work k e log) (length (e ∷ log)) (last_work k log) (idle k) in omega (arith, s, same);
    flights = λ w b r. unmade e log old w b (h.flights w b r) (birth-works b.key e log (idle b.key));
  }

  module _ (u : ℕ) (k : Key) (j p : Version) (now : ℕ) (jobs : number Jobs old ≡ Some j) (pods : number Pods old ≡ Some p) (fresh : cache_lag old log k j p ≡ None) where
    new_basis : Basis
    new_basis = basis old log now k j p

    begun-flight : (new : List Note) (w : ℕ) → made w new ≡ [] → IsFlight log new w (basis old log now k j p)
    begun-flight new w none = record {
      basis = record { jobs_at = within Jobs j jobs; pods_at = within Pods p pods; job = refl; pods = refl };
      made =
          let s = fresh-seen log old h k j p jobs pods fresh in
          let still = made-still k p.0 log stored (within Pods p pods) s.1 in
          let e = ap length none in
          omega (arith, still, e);
    }

    begun-bounded : IsBounded log (Began u (basis old log now k j p) ∷ old)
    begun-bounded = record {
      seen = h.seen;
      flights = λ w b r. by w b (began-register u (basis old log now k j p) old w b r);
    }
      where
        by : (w : ℕ) (b : Basis) → (((u == w) ≡ true) × (basis old log now k j p ≡ b)) ⊎ (((u == w) ≡ false) × (register w old ≡ Some b)) → IsFlight log (Began u (basis old log now k j p) ∷ old) w b
        by w b (inl e) = subst (IsFlight log (Began u (basis old log now k j p) ∷ old) w) e.1 (begun-flight _ w (began-made u (basis old log now k j p) old w true e.0))
        by w b (inr e) = same-flight _ w b e.1 (began-made u (basis old log now k j p) old w false e.0)

  module _ (u : ℕ) (mine : Basis) (ask : Ask) (given : Answer) (now : ℕ) (r : register u old ≡ Some mine) (next : next_by_kind (planned mine) (made u old) ≡ Some ask) where
    abbrev asked : List Note
    asked = Asked u mine (as_request ask) given ∷ old

    job-key : (job : Job) → mine.job ≡ Some job → job.key ≡ mine.key
    job-key job is = let b = (h.flights u mine r).basis in job_in-key mine.key (upto mine.jobs_at.0 log) job (sym b.job ∙ is)

    -- The other syncs are of other keys.
    other-key : (e : Entry) → ((k : Key) → is_work k e log ≡ true → mine.key ≡ k) → (w : ℕ) (b : Basis) → (u == w) ≡ false → register w old ≡ Some b → is_work b.key e log ≡ false
    other-key e own w b ne rb = by (is_work b.key e log) refl
      where
        by : (t : Bool) → is_work b.key e log ≡ t → is_work b.key e log ≡ false
        by false t = t
        by true t = absurd (true≢false (sym (eq-eqb u w (apart.apart u w mine b r rb (ap (same_key mine.key) (sym (own b.key t)) ∙ same_key-itself mine.key))) ∙ ne))

    -- The sync that asks, and the others.
    asked-flight : (o : Option Entry) → (o ≡ None) ⊎ (o ≡ (ask_gives log now mine (made u old) ask).entry) → (w : ℕ) (b : Basis) → register w old ≡ Some b → IsFlight (grown log o) asked w b
    asked-flight o from w b rb = by (asked-made u mine (as_request ask) given old w)
      where
        own : (e : Entry) → o ≡ Some e → (k : Key) → is_work k e log ≡ true → mine.key ≡ k
        own e is k work = elim from [
          | inl n ↦ absurd (true≢false (sym (ap is_some is) ∙ ap is_some n))
          | inr n ↦ (subst (λ x. IfSome x (λ e. (k : Key) → is_work k e log ≡ true → (mine.key ≡ k)
              × (floor_given (as_answer (ask_gives log now mine (made u old) ask).reply) ≡ Some (next_version log))))
              (sym n ∙ is) (ask-own log now mine (made u old) ask job-key) k work).0
        ]

        others : (x : Option Entry) → o ≡ x → (u == w) ≡ false → made w asked ≡ made w old → IsFlight (grown log x) asked w b
        others None is ne m = same-flight asked w b rb m
        others (Some e) is ne m =
            fewer (e ∷ log) old asked w b (unmade e log old w b (h.flights w b rb) (birth-works b.key e log (other-key e (own e is) w b ne rb))) (let l = ap length m in omega (arith, l))

        self : (x : Option Entry) → o ≡ x → mine ≡ b → u ≡ w → made w asked ≡ ((as_request ask, given) ∷ made w old) → IsFlight (grown log x) asked w b
        self None is same uw m = fewer log old asked w b (h.flights w b rb) (let l = ap length m in omega (arith, l))
        self (Some e) is same uw m = make (is_make ask) refl
          where
            longer : length (made w asked) ≡ length (made w old) + 1
            longer = let l = ap length m in omega (arith, l)

            make : (t : Bool) → is_make ask ≡ t → IsFlight (e ∷ log) asked w b
            make true t = one-made e log old asked w b (h.flights w b rb) (subst (λ x. length (made x old) < length (planned b).creates) uw (subst (λ c. length (made u old) < length (planned c).creates) same (makes ask t next))) longer
              where
                makes : (a : Ask) → is_make a ≡ true → next_by_kind (planned mine) (made u old) ≡ Some a → length (made u old) < length (planned mine).creates
                makes (MakePod index) t n = makes-first (planned mine) (made u old) index n
                makes other t n = absurd (true≢false (sym t))
            make false t = fewer (e ∷ log) old asked w b (unmade e log old w b (h.flights w b rb) (none b.key)) (omega (arith, longer))
              where
                none : (k : Key) → is_birth k e log ≡ false
                none = elim from [
                  | inl n ↦ absurd (true≢false (sym (ap is_some is) ∙ ap is_some n))
                  | inr n ↦ subst (λ x. IfSome x (λ e. (k : Key) → is_birth k e log ≡ false)) (sym n ∙ is) (ask-makes log now mine (made u old) ask t)
                ]

        by : (((u == w) ≡ false) × (made w asked ≡ made w old)) ⊎ (((u == w) ≡ true) × (made w asked ≡ ((as_request ask, given) ∷ made w old))) → IsFlight (grown log o) asked w b
        by (inl e) = others o refl e.0 e.1
        by (inr e) = let uw = eqb-true u w e.0 in self o refl (some_is mine b (sym r ∙ ap (λ x. register x old) uw ∙ rb)) uw e.1

    -- Each cache sees the entry, or the floor tells of it.
    asked-seen : (o : Option Entry) → o ≡ (ask_gives log now mine (made u old) ask).entry → given ≡ as_answer (ask_gives log now mine (made u old) ask).reply
        → (k : Key) (kind : Kind) (m : Version) → number kind old ≡ Some m → last_work k (grown log o) ≤ max m.0 (floor k asked).0
    asked-seen o from answer k kind m e = by o refl
      where
        floor-grows : (floor k old).0 ≤ (floor k asked).0
        floor-grows = at (same_key mine.key k) (floor_given given)
          where
            at : (t : Bool) (v : Option Version) → (floor k old).0 ≤ (later_if (floor k old) (cond t v None)).0
            at true None = omega arith
            at true (Some v) = omega arith
            at false v = omega arith

        s : last_work k log ≤ max m.0 (floor k old).0
        s = h.seen k kind m e

        by : (x : Option Entry) → o ≡ x → last_work k (grown log x) ≤ max m.0 (floor k asked).0
        by None is = omega (arith, s, floor-grows)
        by (Some x) is = at (is_work k x log) refl
          where
            at : (t : Bool) → is_work k x log ≡ t → cond t (length (x ∷ log)) (last_work k log) ≤ max m.0 (floor k asked).0
            at false t = omega (arith, s, floor-grows)
            at true t =
                let own = subst (λ y. IfSome y (λ e. (k : Key) → is_work k e log ≡ true → (mine.key ≡ k)
                × (floor_given (as_answer (ask_gives log now mine (made u old) ask).reply)
                ≡ Some (next_version log)))) (sym from ∙ is) (ask-own log now mine (made u old) ask job-key) k t in
                let same : same_key mine.key k ≡ true = ap (same_key mine.key) (sym own.0) ∙ same_key-itself mine.key in
                let tells : floor k asked ≡ later_if (floor k old) (Some (next_version log)) = ap (λ b. later_if (floor k old) (cond b (floor_given given) None)) same ∙ ap (later_if (floor k old)) (ap floor_given answer ∙ own.1) in
                let f = ap (λ (v : Version). v.0) tells in
                omega (arith, f)

    stepped-bounded : (o : Option Entry) → o ≡ (ask_gives log now mine (made u old) ask).entry → given ≡ as_answer (ask_gives log now mine (made u old) ask).reply → IsBounded (grown log o) asked
    stepped-bounded o from answer = record { seen = asked-seen o from answer; flights = asked-flight o (inr from) }

    stopped-bounded : (o : Option Entry) (end : SyncEnd) → (o ≡ None) ⊎ (o ≡ (ask_gives log now mine (made u old) ask).entry)
        → (forgets_caches end ≡ true) ⊎ ((given ≡ as_answer (ask_gives log now mine (made u old) ask).reply) × (o ≡ (ask_gives log now mine (made u old) ask).entry)) → IsBounded (grown log o) (Ended u mine end now ∷ asked)
    stopped-bounded o end from lost = record {
      seen = λ k kind m e. let n = ended-number u mine end now asked kind m e in elim lost [ inl l ↦ absurd (true≢false (sym l ∙ n.0)) | inr a ↦ asked-seen o a.1 a.0 k kind m n.1 ];
      flights = λ w b e.
          let n = ended-register u mine end now asked w b e in
          let f = asked-flight o from w b n.1 in
          fewer (grown log o) asked (Ended u mine end now ∷ asked) w b f (let l = ap length (ended-made u mine end now asked w) in omega (arith, l));
    }

  finished-bounded : (u : ℕ) (mine : Basis) (end : SyncEnd) (now : ℕ) → IsBounded log (Ended u mine end now ∷ old)
  finished-bounded u mine end now = record {
    seen = λ k kind m e. h.seen k kind m (ended-number u mine end now old kind m e).1;
    flights = λ w b e. let n = ended-register u mine end now old w b e in same-flight (Ended u mine end now ∷ old) w b n.1 (ended-made u mine end now old w);
  }

  none-bounded : IsBounded log []
  none-bounded = record { seen = λ k kind m e. absurd (true≢false (sym (ap is_some e))); flights = λ w b e. absurd (true≢false (sym (ap is_some e))) }

  pub turn-bounded : (now : ℕ) (log' : List Entry) (new : List Note) → Turn now log old log' new → IsBounded log' new
  turn-bounded now log' new (Still l n) = goes l n h
    where
      goes : (l : log' ≡ log) → new ≡ old → IsBounded log old → IsBounded log' new
      goes l n b = subst (λ x. IsBounded x new) (sym l) (subst (IsBounded log) (sym n) b)
  turn-bounded now log' new (Restarted l n) = subst (λ x. IsBounded x new) (sym l) (subst (IsBounded log) (sym n) none-bounded)
  turn-bounded now log' new (Noted note l n news) = subst (λ x. IsBounded x new) (sym l) (subst (IsBounded log) (sym n) (noted-bounded note news))
  turn-bounded now log' new (Wrote e l n idle) = subst (λ x. IsBounded x new) (sym l) (subst (IsBounded (e ∷ log)) (sym n) (wrote-bounded e idle))
  turn-bounded now log' new (Begins w k j p jobs pods fresh free l n) = subst (λ x. IsBounded x new) (sym l) (subst (IsBounded log) (sym n) (begun-bounded w k j p now jobs pods fresh))
  turn-bounded now log' new (Stepped w b ask given o r next answer from l n) =
      subst (λ x. IsBounded x new) (sym l) (subst (IsBounded (grown log o)) (sym n) (stepped-bounded w b ask given now r next o from answer))
  turn-bounded now log' new (Stopped w b ask given o end r next from lost l n) =
      subst (λ x. IsBounded x new) (sym l) (subst (IsBounded (grown log o)) (sym n) (stopped-bounded w b ask given now r next o end from lost))
  turn-bounded now log' new (Finished w b r l n) = subst (λ x. IsBounded x new) (sym l) (subst (IsBounded log) (sym n) (finished-bounded w b _ now))

-- ---- every legal history

pub stored-before : (shape : Shape) (past : List Deed) (d : Deed) → Stored (log_given shape (d ∷ past)) → Stored (log_given shape past)
unfolding log_given
stored-before shape past d all = by (gives shape past (log_given shape past) d.act).entry all
  where
    by : (o : Option Entry) → Stored (grown (log_given shape past) o) → Stored (log_given shape past)
    by None s = s
    by (Some e) s = s.1

-- The version, where there is one, is a place of the log.
abbrev IsPlaceIf : ℕ → Option Version → Type 0
IsPlaceIf n None = Unit {0}
IsPlaceIf n (Some version) = version.0 ≤ n

pub legal-within : (shape : Shape) (c : ℕ) (past : List Deed) → IsLegal shape past → (kind : Kind) (m : Version) → number kind (notes shape c past (log_given shape past)) ≡ Some m → m.0 ≤ length (log_given shape past)
legal-within shape c past h kind m e = subst (IsPlaceIf (length (log_given shape past))) e
    (number-within (length (log_given shape past)) kind (notes shape c past (log_given shape past))
    (notes-within (length (log_given shape past)) shape c past (log_given shape past) (legal-told shape past h)))

pub legal-bounded : (shape : Shape) (deeds : List Deed) → shape.controllers ≡ 1 → IsLegal shape deeds → Stored (log_given shape deeds) → IsBounded (log_given shape deeds) (notes shape 0 deeds (log_given shape deeds))
legal-bounded shape [] one h s = record { seen = λ k kind m e. absurd (true≢false (sym (ap is_some e))); flights = λ w b e. absurd (true≢false (sym (ap is_some e))) }
legal-bounded shape (d ∷ past) one h s =
    let before = stored-before shape past d s in
    turn-bounded (log_given shape past) before (notes shape 0 past (log_given shape past)) (legal-bounded shape past one h.1 before) (fit-apart (notes shape 0 past (log_given shape past)) (legal-fit shape 0 past h.1)) (legal-within shape 0 past h.1)
    (moment shape past) (log_given shape (d ∷ past)) (notes shape 0 (d ∷ past) (log_given shape (d ∷ past))) (turn shape past d one h)
