-- A line has one event: so the walk is a function of the bytes, and one thing is said of them.
use Rattle.std.proofs.Common.{◌≡◌, ℕ, suc, ◌+◌, ◌<◌, ◌≤◌, ◌==◌, ◌^◌, ◌%◌, Bool, true, false, cond, List, [], ◌∷◌, ◌++◌, length, take, drop, codes, decimal, nat_eq, Some, refl, sym, ap, ap₂, ◌∙◌, subst, arith, true≢false, ◌⊎◌, inl, inr}
use Rattle.std.proofs.Common.{append_assoc, append-nil, eq-eqb, eqb-true, le-leb, ◌&&◌}
use Rattle.std.specs.Prelude.{nat_le, nat_lt}
use Rattle.std.specs.Cmp.Lexicographic.{bytes_decides}
use Rattle.std.proofs.lemmas.Bool.{eqb-false, ltb-false, ltb-true}
use Rattle.std.proofs.lemmas.Fmt.{decimal_by_steps}
use Rattle.jc_types.specs.declared.objects.Job.{Job}
use Rattle.jc_types.specs.declared.numbers.Uid.{Uid}
use Rattle.jc_types.specs.declared.runs.Event.TheVariants as event
use Rattle.jc_types.specs.declared.runs.Shape.{Shape}
use Rattle.jc_types.specs.declared.runs.Sys.{Sys}
use Rattle.jc_types.specs.declared.runs.Sys.TheVariants as sys
use Rattle.jc_runs.specs.Verdicts.{Verdicts}
use Rattle.jc_log.specs.Deeds.{Deed, act_of_system}
use Rattle.jc_history.specs.Available.{available}
use Rattle.jc_lines.specs.Events.{event_line}
use Rattle.jc_lines.specs.Jobs.{job_line}
use Rattle.jc_lines.specs.Summaries.{full_line, indexes_text}
use Rattle.jc_lines.specs.ReportWords.{key_text}
use Rattle.jc_reading.specs.Proper.{as_begin}
use Rattle.jc_reading.specs.Reads.{BeginsWith, IsProperRead, act_of_line, begun_read, event_said, front_text}
use Rattle.jc_reading.specs.declared.reads.LineAct.TheVariants as read
use Rattle.jc_reading.specs.declared.reads.LineRead.{LineRead}
use Rattle.jc_history.specs.Replies.{log_given}
use Rattle.jc_runs.specs.Ledger.{ledger_of, verdicts_of}
use Rattle.jc_log.specs.Log.{jobs_in}
use Rattle.jc_lines.specs.Reports.{in_order, job_lines, jobs_text}
use Rattle.jc_runs.specs.Seen.{Seen, deeds_seen, happened, log_seen}
use Rattle.jc_play.specs.Actors.{CanCome}
use Rattle.jc_play.proofs.TellFacts.{Tells, all-tell, known}
use Rattle.jc_audit.specs.AuditLimits.{IsSmallShape}
use Rattle.jc_audit.specs.declared.verdicts.Verdict.{Verdict}
use Rattle.jc_audit.specs.declared.verdicts.Verdict.TheVariants.{Yes, No}
use Rattle.jc_audit.specs.Audits.{IsNoTail, IsNotTaken, VerdictHolds, begins_event}
use Rattle.jc_audit.specs.Clocks.{IsClock}
use Rattle.jc_audit.specs.Tails.{at_end, lines_compared, byte_in_front, line_len, whole_lines, tail_text, tail_verdict}
use Rattle.jc_audit.specs.Walks.{Begins, GoesOn, NoneIsTaken, TakesLine, TakesCommand, TakesSystem, Walks, last_line, line_of_last, read_of_command, with_command}
use Rattle.jc_audit.proofs.AuditFacts.{many, long as long_both}
use Rattle.jc_audit.proofs.OnlyFacts.{command_begins, command_proper, system_begins}
use Rattle.jc_audit.proofs.TakeFacts.{clock_verb, command_of, fits, no_lane, same_action, same_number, same_system, same_verbs, system_read, verb_of}
use Rattle.jc_audit.proofs.TailFacts.{first_line, none_wanted}
use Rattle.jc_audit.proofs.WalkFacts.{walked}

-- ---- one event

-- What is printed of a proper event before its reply is read back, whatever follows.
abbrev pub AreReadBack : Type 0
AreReadBack =
    (n : ℕ) (read : LineRead) (rest : List ℕ) → n < 2 ^ 64 → IsProperRead read → event_said (front_text n read.lane (act_of_line read.act) ++ rest) ≡ Some (begun_read read)

-- All that can be read of bytes is one.
one_read : (again : AreReadBack) (line : List ℕ) (a b : LineRead) → IsProperRead a → IsProperRead b → BeginsWith line a → BeginsWith line b → begun_read a ≡ begun_read b
one_read again line a b pa pb ba bb = same (sym (said a pa ba) ∙ said b pb bb)
  where
    said : (read : LineRead) → IsProperRead read → BeginsWith line read → event_said line ≡ Some (begun_read read)
    said read proper b = ap event_said b.is ∙ again b.number read b.rest b.few proper

    same : Some (begun_read a) ≡ Some (begun_read b) → begun_read a ≡ begun_read b
    same e = cc (e)

is_clock : (s : Sys) → IsClock s ⊎ (IsClock s → ⊥)
is_clock (sys.Clock add) = inl tt
is_clock (sys.List c k) = inr (λ h. h)
is_clock (sys.Deliver c k) = inr (λ h. h)
is_clock (sys.Begin c w) = inr (λ h. h)
is_clock (sys.Step c w) = inr (λ h. h)
is_clock sys.Node = inr (λ h. h)

record IsAdd (s : Sys) : Type 0 where
  add : ℕ
  is : s ≡ sys.Clock add

clock_is : (s : Sys) → IsClock s → IsAdd s
clock_is (sys.Clock add) h = record { add = add; is = refl }
clock_is (sys.List c k) h = absurd h
clock_is (sys.Deliver c k) h = absurd h
clock_is (sys.Begin c w) h = absurd h
clock_is (sys.Step c w) h = absurd h
clock_is sys.Node h = absurd h

-- The clock can pass by one number of seconds.
clock_seconds : (seen : Seen) (a b : ℕ) → CanCome seen (event.System (sys.Clock a)) → CanCome seen (event.System (sys.Clock b)) → a ≡ b
clock_seconds seen a b one other =
    let P = Tells seen.shape (deeds_seen seen) (log_seen seen) in
    let all = all-tell seen.shape (deeds_seen seen) (log_seen seen) in
    let events = available seen.shape (deeds_seen seen) (log_seen seen) in
    let s = known P (act_of_system (sys.Clock a)) events all one.among in
    let t = known P (act_of_system (sys.Clock b)) events all other.among in
    same (sym s.1 ∙ t.1)
  where
    same : Some (event.System (sys.Clock a)) ≡ Some (event.System (sys.Clock b)) → a ≡ b
    same e = cc (e)

module _ (again : AreReadBack) (seen : Seen) (fit : IsSmallShape seen.shape) (few : length seen.pasts + 1 < 2 ^ 64) where
  one_system : (line : List ℕ) (s t : Sys) → BeginsWith line (system_read s) → BeginsWith line (system_read t) → CanCome seen (event.System s) → CanCome seen (event.System t) → s ≡ t
  one_system line s t b c h g = by (is_clock s) (is_clock t)
    where
      by : IsClock s ⊎ (IsClock s → ⊥) → IsClock t ⊎ (IsClock t → ⊥) → s ≡ t
      by (inl p) (inl q) =
          let m = clock_is s p in
          let n = clock_is t q in
          m.is ∙ ap sys.Clock (clock_seconds seen m.add n.add (subst (λ x. CanCome seen (event.System x)) m.is h) (subst (λ x. CanCome seen (event.System x)) n.is g)) ∙ sym n.is
      by (inl p) (inr apart) = let m = clock_is s p in absurd (apart (clock_verb t m.add (sym (same_verbs line s t b c) ∙ ap verb_of m.is)))
      by (inr apart) (inl q) = let n = clock_is t q in absurd (apart (clock_verb s n.add (same_verbs line s t b c ∙ ap verb_of n.is)))
      by (inr apart) (inr nor) =
          let proper = fits seen.shape fit seen s refl h.admits (λ p. absurd (apart p)) in
          let other = fits seen.shape fit seen t refl g.admits (λ p. absurd (nor p)) in
          same_system s t (ap (λ (r : LineRead). r.act) (one_read again line (system_read s) (system_read t) proper other b c))

  one_event : (a b : Seen) (x y : List ℕ) → TakesLine seen a → TakesLine seen b → last_line a ++ x ≡ last_line b ++ y → a ≡ b
  one_event a b x y t u e = by t.one u.one
    where
      by : TakesCommand seen a ⊎ TakesSystem seen a → TakesCommand seen b ⊎ TakesSystem seen b → a ≡ b
      by (inl c) (inl d) =
          let same = one_read again (last_line a ++ x) (read_of_command seen a c) (read_of_command seen b d)
          (command_proper seen a c) (command_proper seen b d)
          (command_begins seen a c (last_line a ++ x) x few refl)
          (command_begins seen b d (last_line a ++ x) y few e) in
          let lane = same_number c.command.lane d.command.lane (ap (λ (r : LineRead). r.lane) same) in
          let action = same_action (as_begin c.command.action) (as_begin d.command.action) (ap (λ (r : LineRead). r.act) same) in
          c.is ∙ ap (with_command seen) (ap₂ command_of lane action) ∙ sym d.is
      by (inl c) (inr s) = absurd (no_lane (last_line a ++ x) c.command.lane (read.Command c.command.action) (read.System s.system) (command_begins seen a c (last_line a ++ x) x few refl) (system_begins seen b s (last_line a ++ x) y few e))
      by (inr s) (inl d) = absurd (no_lane (last_line a ++ x) d.command.lane (read.Command d.command.action) (read.System s.system) (command_begins seen b d (last_line a ++ x) y few e) (system_begins seen a s (last_line a ++ x) x few refl))
      by (inr s) (inr r) =
          let same = one_system (last_line a ++ x) s.system r.system
          (system_begins seen a s (last_line a ++ x) x few refl) (system_begins seen b r (last_line a ++ x) y few e)
          (record { admits = s.admits; among = s.among }) (record { admits = r.admits; among = r.among }) in
          s.is ∙ ap (λ z. happened seen (event.System z)) same ∙ sym r.is

-- ---- one walk

one_more : (old new : Seen) → TakesLine old new → length new.pasts ≡ suc (length old.pasts)
one_more old new t = by t.one
  where
    by : TakesCommand old new ⊎ TakesSystem old new → length new.pasts ≡ suc (length old.pasts)
    by (inl c) = ap (λ (s : Seen). length s.pasts) c.is
    by (inr s) = ap (λ (s : Seen). length s.pasts) s.is

fit_seen : (shape : Shape) (seen : Seen) (text : List ℕ) → IsSmallShape shape → Walks shape seen text → IsSmallShape seen.shape
fit_seen shape seen text fit walk = subst IsSmallShape (sym (walked shape seen text walk).of_shape) fit

few_seen : (shape : Shape) (seen new : Seen) (text : List ℕ) → IsSmallShape shape → Walks shape seen text → TakesLine seen new → length seen.pasts + 1 < 2 ^ 64
few_seen shape seen new text fit walk t =
    let room = t.few in
    let few = (fit_seen shape seen text fit walk).few_events in
    omega (arith, room, few)

same_rest : (s : List ℕ) (x y : List ℕ) → s ++ x ≡ s ++ y → x ≡ y
same_rest [] x y e = e
same_rest (b ∷ s) x y e = same_rest s x y (tail e)
  where
    tail : b ∷ (s ++ x) ≡ b ∷ (s ++ y) → s ++ x ≡ s ++ y
    tail e = cc (e)

record IsSame (a b : Seen) (s t : List ℕ) : Type 0 where
  seen : a ≡ b
  text : s ≡ t

agree : AreReadBack → (shape : Shape) → IsSmallShape shape → (a : Seen) (s : List ℕ) → Walks shape a s → (b : Seen) (t : List ℕ) → Walks shape b t → length a.pasts ≡ length b.pasts
    → (x y : List ℕ) → s ++ x ≡ t ++ y → IsSame a b s t
agree again shape fit _ _ Begins _ _ Begins long x y e = record { seen = refl; text = refl }
agree again shape fit _ _ Begins _ _ (GoesOn q b t before u) long x y e = let more = one_more q b u in absurd (omega (arith, long, more))
agree again shape fit _ _ (GoesOn p a s before v) _ _ Begins long x y e = let more = one_more p a v in absurd (omega (arith, long, more))
agree again shape fit _ _ (GoesOn p a s before v) _ _ (GoesOn q b t earlier u) long x y e =
    let one = one_more p a v in
    let two = one_more q b u in
    let less : length p.pasts ≡ length q.pasts = omega (arith, long, one, two) in
    let parts : s ++ (last_line a ++ x) ≡ t ++ (last_line b ++ y) = sym (append_assoc s (last_line a) x) ∙ e ∙ append_assoc t (last_line b) y in
    let ih = agree again shape fit p s before q t earlier less (last_line a ++ x) (last_line b ++ y) parts in
    let rests : last_line a ++ x ≡ last_line b ++ y = same_rest s _ _ (parts ∙ ap (λ l. l ++ (last_line b ++ y)) (sym ih.text)) in
    let same = one_event again p (fit_seen shape p s fit before) (few_seen shape p a s fit before v) a b x y v (subst (λ z. TakesLine z b) (sym ih.seen) u) rests in
    record { seen = same; text = ap₂ (λ l z. l ++ last_line z) ih.text same }

-- The walk after fewer lines, and the line that was taken there.
record IsFront (shape : Shape) (s : List ℕ) (n : ℕ) : Type 0 where
  mid : Seen
  text : List ℕ
  next : Seen
  more : List ℕ
  walk : Walks shape mid text
  takes : TakesLine mid next
  count : length mid.pasts ≡ n
  are : s ≡ text ++ (last_line next ++ more)

front : (shape : Shape) (a : Seen) (s : List ℕ) → Walks shape a s → (n : ℕ) → n < length a.pasts → IsFront shape s n
front shape _ _ Begins n less = absurd (omega (arith, less))
front shape _ _ (GoesOn p a s before t) n less = by (length p.pasts == n) refl (front shape p s before n)
  where
    by : (b : Bool) → (length p.pasts == n) ≡ b → (n < length p.pasts → IsFront shape s n) → IsFront shape (s ++ last_line a) n
    by true is earlier = record {
      mid = p;
      text = s;
      next = a;
      more = [];
      walk = before;
      takes = t;
      count = eqb-true (length p.pasts) n is;
      are = ap (λ l. s ++ l) (sym (append-nil (last_line a)));
    }
    by false is earlier =
        let one = one_more p a t in
        let other = eqb-false (length p.pasts) n is in
        let f = earlier (omega (arith, less, one, other)) in
        record {
          mid = f.mid;
          text = f.text;
          next = f.next;
          more = f.more ++ last_line a;
          walk = f.walk;
          takes = f.takes;
          count = f.count;
          are = ap (λ l. l ++ last_line a) f.are ∙ append_assoc f.text (last_line f.next ++ f.more) (last_line a) ∙ ap (λ l. f.text ++ l) (append_assoc (last_line f.next) f.more (last_line a));
        }

-- No walk of the bytes has more lines than one behind which no line is taken.
module _ (again : AreReadBack) (shape : Shape) (fit : IsSmallShape shape) (a b : Seen) (s t x y : List ℕ) (one : Walks shape a s) (other : Walks shape b t) (e : s ++ x ≡ t ++ y) (none : NoneIsTaken a x) where
  no_longer : length b.pasts ≤ length a.pasts
  no_longer = by (nat_lt (length a.pasts) (length b.pasts)) refl
    where
      by : (c : Bool) → nat_lt (length a.pasts) (length b.pasts) ≡ c → length b.pasts ≤ length a.pasts
      by false is = let le = ltb-false (length a.pasts) (length b.pasts) is in omega (arith, le)
      by true is =
          let less = ltb-true (length a.pasts) (length b.pasts) is in
          let f = front shape b t other (length a.pasts) less in
          let line = last_line f.next in
          let bytes : s ++ x ≡ f.text ++ (line ++ (f.more ++ y)) =
          e ∙ ap (λ l. l ++ y) f.are ∙ append_assoc f.text (line ++ f.more) y ∙ ap (λ l. f.text ++ l) (append_assoc line f.more y) in
          let same = agree again shape fit a s one f.mid f.text f.walk (sym f.count) x (line ++ (f.more ++ y)) bytes in
          let rest : x ≡ line ++ (f.more ++ y) = same_rest s x _ (bytes ∙ ap (λ l. l ++ (line ++ (f.more ++ y))) (sym same.text)) in
          absurd (none f.next (f.more ++ y) (subst (λ z. TakesLine z f.next) (sym same.seen) f.takes) rest)

-- ---- lines of events begin with a digit, and no line of a tail does

abbrev BeginsSo : ℕ → List ℕ → Type 0
BeginsSo n ds = (xs : List ℕ) → begins_event (ds ++ xs) ≡ true

digit_first : (n : ℕ) → n < 2 ^ 64 → BeginsSo n (decimal n)
digit_first n few =
    decimal_by_steps BeginsSo
    (λ n less xs. digit n less)
    (λ n ds ten ih xs. ap begins_event (append_assoc ds ((48 + n % 10) ∷ []) xs) ∙ ih ((48 + n % 10) ∷ xs))
    n few
  where
    digit : (n : ℕ) → n < 10 → (nat_le 48 (48 + n) && nat_le (48 + n) 57) ≡ true
    digit n less = ap₂ (λ a b. a && b) (le-leb 48 (48 + n) (omega arith)) (le-leb (48 + n) 57 (omega (arith, less)))

-- Where no line of an event stands, none is taken.
no_digit : (seen : Seen) (rest : List ℕ) → length seen.pasts + 1 < 2 ^ 64 → begins_event rest ≡ false → NoneIsTaken seen rest
no_digit seen rest few none new more t e = true≢false (sym (by (deeds_seen new) refl) ∙ none)
  where
    first : (n : ℕ) (d : Deed) → n < 2 ^ 64 → begins_event (event_line n d ++ more) ≡ true
    first n d small = ap begins_event (append_assoc (decimal n) _ more) ∙ digit_first n small _

    by : (ds : List Deed) → deeds_seen new ≡ ds → begins_event rest ≡ true
    by [] is = let one = one_more seen new t in let long = many new in let none = ap length is in absurd (omega (arith, one, long, none))
    by (d ∷ past) is =
        let one = one_more seen new t in
        let long = many new in
        let all = ap length is in
        let line : rest ≡ event_line (1 + length past) d ++ more = e ∙ ap (λ ds. line_of_last ds ++ more) is in
        ap begins_event line ∙ first (1 + length past) d (omega (arith, few, one, long, all))

-- ---- the lines of a tail

abbrev ends_line : List ℕ → Bool
ends_line [] = true
ends_line (b ∷ []) = b == 10
ends_line (b ∷ c ∷ bs) = ends_line (c ∷ bs)

record IsEnded (bs : List ℕ) : Type 0 where
  some : 0 < length bs
  ends : ends_line bs ≡ true

behind_ends : (a : List ℕ) (c : ℕ) (cs : List ℕ) → ends_line (c ∷ cs) ≡ true → ends_line (a ++ c ∷ cs) ≡ true
behind_ends [] c cs e = e
behind_ends (x ∷ []) c cs e = e
behind_ends (x ∷ y ∷ a) c cs e = behind_ends (y ∷ a) c cs e

behind : (a b : List ℕ) → IsEnded b → IsEnded (a ++ b)
behind a [] h = let some = h.some in absurd (omega (arith, some))
behind a (c ∷ cs) h = let all = long_both a (c ∷ cs) in record { some = omega (arith, all); ends = behind_ends a c cs h.ends }

-- Bytes whose lines stay apart from those of what follows.
abbrev AreLines : List ℕ → Type 0
AreLines bs = (xs : List ℕ) → whole_lines (bs ++ xs) ≡ whole_lines bs ++ whole_lines xs

into : (b : ℕ) (lines : List (List ℕ)) (line : List ℕ) (rest more : List (List ℕ)) → lines ≡ line ∷ rest → byte_in_front b (lines ++ more) ≡ byte_in_front b lines ++ more
into b lines line rest more e = ap (λ l. byte_in_front b (l ++ more)) e ∙ sym (ap (λ l. byte_in_front b l ++ more) e)

apart : (bs : List ℕ) → ends_line bs ≡ true → AreLines bs
apart [] e xs = refl
apart (b ∷ []) e xs =
    ap (λ t. cond t ((b ∷ []) ∷ whole_lines xs) (byte_in_front b (whole_lines xs))) e ∙ sym (ap (λ t. cond t ((b ∷ []) ∷ []) (byte_in_front b []) ++ whole_lines xs) e)
apart (b ∷ c ∷ bs) e xs = by (b == 10) (apart (c ∷ bs) e xs)
  where
    by : (t : Bool) → whole_lines ((c ∷ bs) ++ xs) ≡ whole_lines (c ∷ bs) ++ whole_lines xs
        → cond t ((b ∷ []) ∷ whole_lines ((c ∷ bs) ++ xs)) (byte_in_front b (whole_lines ((c ∷ bs) ++ xs))) ≡ cond t ((b ∷ []) ∷ whole_lines (c ∷ bs)) (byte_in_front b (whole_lines (c ∷ bs))) ++ whole_lines xs
    by true ih = ap (λ l. (b ∷ []) ∷ l) ih
    by false ih = ap (byte_in_front b) ih ∙ into b (whole_lines (c ∷ bs)) (take (line_len (c ∷ bs)) (c ∷ bs)) (whole_lines (drop (line_len (c ∷ bs)) (c ∷ bs))) (whole_lines xs) (first_line c bs)

feed_ends : IsEnded (10 ∷ [])
feed_ends = record { some = omega arith; ends = refl }

-- Of any parts.
parts_end : (line key succeeded failed indexes : List ℕ)
    → IsEnded (line ++ (codes "verdicts " ++ (key ++ (codes " succeeded " ++ (succeeded ++ (codes " failed " ++ (failed ++ (indexes ++ codes "\n"))))))))
parts_end line key succeeded failed indexes =
    let one : List ℕ = indexes ++ codes "\n" in
    let two : List ℕ = failed ++ one in
    let three : List ℕ = codes " failed " ++ two in
    let four : List ℕ = succeeded ++ three in
    let five : List ℕ = codes " succeeded " ++ four in
    let six : List ℕ = key ++ five in
    behind line (codes "verdicts " ++ six) (behind (codes "verdicts ") six (behind key five (behind (codes " succeeded ") four (behind succeeded three
    (behind (codes " failed ") two (behind failed one (behind indexes (codes "\n") feed_ends)))))))

job_ends : (verdicts : Uid → Verdicts) (job : Job) → IsEnded (job_lines verdicts job)
job_ends verdicts job =
    let v = verdicts job.uid in
    parts_end (job_line job) (key_text job.key) (decimal v.succeeded) (decimal v.failed) (indexes_text job.spec.mode v.indexes)

append_lines : (xs ys zs : List (List ℕ)) → xs ++ (ys ++ zs) ≡ (xs ++ ys) ++ zs
append_lines [] ys zs = refl
append_lines (x ∷ xs) ys zs = ap (λ l. x ∷ l) (append_lines xs ys zs)

jobs_apart : (verdicts : Uid → Verdicts) (jobs : List Job) → AreLines (jobs_text verdicts jobs)
jobs_apart verdicts [] xs = refl
jobs_apart verdicts (job ∷ jobs) xs =
    let one = job_lines verdicts job in
    let rest = jobs_text verdicts jobs in
    let first = apart one (job_ends verdicts job).ends in
    ap whole_lines (append_assoc one rest xs) ∙ first (rest ++ xs) ∙ ap (λ l. whole_lines one ++ l) (jobs_apart verdicts jobs xs)
    ∙ append_lines (whole_lines one) (whole_lines rest) (whole_lines xs) ∙ sym (ap (λ l. l ++ whole_lines xs) (first rest))

no_event : (verdicts : Uid → Verdicts) (jobs : List Job) (full : Bool) → begins_event (jobs_text verdicts jobs ++ full_line full) ≡ false
no_event verdicts [] true = refl
no_event verdicts [] false = refl
no_event verdicts (job ∷ jobs) full = refl

same_lines : (n : ℕ) (wanted more : List (List ℕ)) (full : Bool) → lines_compared n (wanted ++ more) wanted full ≡ at_end (n + length wanted) more full
same_lines n [] more full = let same : n ≡ n + 0 = omega arith in none_wanted n more full ∙ ap (λ m. at_end m more full) same
same_lines n (w ∷ ws) more full =
    let same : n + 1 + length ws ≡ n + length (w ∷ ws) = omega arith in
    ap (λ t. cond t (lines_compared (n + 1) (ws ++ more) ws full) (No n)) ((bytes_decides w w).1 refl) ∙ same_lines (n + 1) ws more full ∙ ap (λ m. at_end m more full) same

end_yes : (n : ℕ) (last full : Bool) → (last ≡ true → full ≡ true) → at_end n (whole_lines (full_line last)) full ≡ Yes
end_yes n false full room = refl
end_yes n true true room = refl
end_yes n true false room = absurd (true≢false (sym (room refl)))

tail_is_right : (shape : Shape) (past : List Deed) (last : Bool) → (last ≡ true → length past ≡ shape.events) → tail_verdict shape past (tail_text shape past ++ full_line last) ≡ Yes
unfolding tail_verdict
tail_is_right shape past last room =
    let text = tail_text shape past in
    let full = nat_eq (length past) shape.events in
    let log = log_given shape past in
    ap (λ l. lines_compared (1 + length past) l (whole_lines text) full)
    (jobs_apart (λ j. verdicts_of (ledger_of j past log)) (in_order (jobs_in log)) (full_line last))
    ∙ same_lines (1 + length past) (whole_lines text) (whole_lines (full_line last)) full
    ∙ end_yes (1 + length past + length (whole_lines text)) last full (λ e. eq-eqb (length past) shape.events (room e))

-- ---- what is said

-- What is said where the walk has come there, and no further line is taken.
abbrev said_of : Shape → Seen → List ℕ → Verdict
said_of shape seen rest = cond (begins_event rest) (No (1 + length seen.pasts)) (tail_verdict shape (deeds_seen seen) rest)

record IsFound (shape : Shape) (bytes : List ℕ) (v : Verdict) : Type 0 where
  last : Seen
  text : List ℕ
  rest : List ℕ
  walk : Walks shape last text
  are : bytes ≡ text ++ rest
  none : NoneIsTaken last rest
  says : v ≡ said_of shape last rest

small_seen : (shape : Shape) (seen : Seen) (text : List ℕ) → IsSmallShape shape → Walks shape seen text → length seen.pasts + 1 < 2 ^ 64
small_seen shape seen text fit walk =
    let few = (walked shape seen text walk).few in
    let bound = (fit_seen shape seen text fit walk).few_events in
    omega (arith, few, bound)

found : (shape : Shape) (fit : IsSmallShape shape) (bytes : List ℕ) (v : Verdict) → VerdictHolds shape bytes v → IsFound shape bytes v
found shape fit bytes Yes h =
    let rest = tail_text shape (deeds_seen h.last) ++ full_line h.full in
    let no : begins_event rest ≡ false = no_event _ _ h.full in
    record {
      last = h.last;
      text = h.text;
      rest = rest;
      walk = h.walked;
      are = h.are;
      none = no_digit h.last rest (small_seen shape h.last h.text fit h.walked) no;
      says =
          sym (ap (λ t. cond t (No (1 + length h.last.pasts)) (tail_verdict shape (deeds_seen h.last) rest)) no
          ∙ tail_is_right shape (deeds_seen h.last) h.full (λ e. many h.last ∙ h.history_full e));
    }
found shape fit bytes (No n) h = by h.line
  where
    by : (IsNotTaken h.last h.rest × (n ≡ 1 + length h.last.pasts)) ⊎ IsNoTail shape h.last h.rest n → IsFound shape bytes (No n)
    by (inl (nt, is)) = record {
      last = h.last;
      text = h.text;
      rest = h.rest;
      walk = h.walked;
      are = h.are;
      none = nt.none;
      says = ap No is ∙ sym (ap (λ t. cond t (No (1 + length h.last.pasts)) (tail_verdict shape (deeds_seen h.last) h.rest)) nt.begins);
    }
    by (inr nt) = record {
      last = h.last;
      text = h.text;
      rest = h.rest;
      walk = h.walked;
      are = h.are;
      none = no_digit h.last h.rest (small_seen shape h.last h.text fit h.walked) nt.begins;
      says = sym (ap (λ t. cond t (No (1 + length h.last.pasts)) (tail_verdict shape (deeds_seen h.last) h.rest)) nt.begins ∙ nt.other);
    }

pub one_verdict : AreReadBack → (shape : Shape) → IsSmallShape shape → (bytes : List ℕ) (v w : Verdict) → VerdictHolds shape bytes v → VerdictHolds shape bytes w → v ≡ w
one_verdict again shape fit bytes v w one other =
    let a = found shape fit bytes v one in
    let b = found shape fit bytes w other in
    let e : a.text ++ a.rest ≡ b.text ++ b.rest = sym a.are ∙ b.are in
    let less = no_longer again shape fit a.last b.last a.text b.text a.rest b.rest a.walk b.walk e a.none in
    let more = no_longer again shape fit b.last a.last b.text a.text b.rest a.rest b.walk a.walk (sym e) b.none in
    let same = agree again shape fit a.last a.text a.walk b.last b.text b.walk (omega (arith, less, more)) a.rest b.rest e in
    let rest : a.rest ≡ b.rest = same_rest a.text a.rest b.rest (e ∙ ap (λ l. l ++ b.rest) (sym same.text)) in
    a.says ∙ ap₂ (said_of shape) same.seen rest ∙ sym b.says
