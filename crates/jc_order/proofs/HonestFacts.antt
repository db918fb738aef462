-- What the notes of a legal history say of its log is so; and they are told in order, but for what syncs come to.
use Rattle.std.proofs.Common.{◌≡◌, ℕ, ◌+◌, ◌-◌, ◌≤◌, ◌==◌, nat_lt, Bool, true, false, cond, List, [], ◌∷◌, ◌++◌, length, Option, Some, None, option_and_then, refl, sym, ap, ◌∙◌, subst, arith, eqb-true}
use Rattle.std.specs.Option.{option_map, option_to_list}
use Rattle.jc_log.specs.Acts as does
use Rattle.jc_control.specs.declared.begins.Lag.{Lag}
use Rattle.jc_control.specs.declared.ends.SyncEnd.{SyncEnd}
use Rattle.jc_control.specs.ControllerCalls.{told}
use Rattle.jc_queue.specs.Queued.{has_key}
use Rattle.jc_types.specs.declared.numbers.Version.{Version}
use Rattle.jc_types.specs.declared.objects.Entry.{Entry}
use Rattle.jc_types.specs.declared.objects.KeyNames.{KeyNames as Key}
use Rattle.jc_types.specs.declared.objects.Kind.{Kind}
use Rattle.jc_types.specs.declared.objects.Kind.TheVariants.{Jobs, Pods}
use Rattle.jc_types.specs.declared.replies.Reply.{Reply}
use Rattle.jc_types.specs.declared.replies.Reply.TheVariants as reply
use Rattle.jc_types.specs.declared.runs.Shape.{Shape}
use Rattle.jc_states.specs.declared.bases.Basis.{Basis}
use Rattle.jc_log.specs.Requests.{Answered, grown, refused}
use Rattle.jc_log.specs.Acts.{Act}
use Rattle.jc_log.specs.Deeds.{Deed}
use Rattle.jc_log.specs.Log.{entry_at, upto}
use Rattle.jc_log.proofs.LogFacts.{entry_at-older, upto-fixed}
use Rattle.jc_history.specs.Bounds.{TellsWithin, IsTold}
use Rattle.jc_history.specs.Diaries.{end_by, listed_keys, moment, notes_taken, notes, on_begin, on_clock, on_delivery, on_list, on_step, restarts, on_lag}
use Rattle.jc_history.specs.Fresh.{basis, begin as begin_of, begin_at, begin_first, begin_unless, cache_lag}
use Rattle.jc_history.specs.Legal.{IsLegal}
use Rattle.jc_history.specs.Lines.{line}
use Rattle.jc_history.specs.Notes.{Note, Listed, Told, Began, Asked, Ended, Faulted}
use Rattle.jc_history.specs.Numbers.{number}
use Rattle.jc_history.specs.Registers.{asks_status, register}
use Rattle.jc_history.specs.Replies.{begin_gives, deliver_gives, gives, log_given, reply_of_begin, reply_given}
use Rattle.jc_control.specs.Schedules.{log_end}
use Rattle.jc_history.proofs.DiaryFacts.{grown-longer, legal-told}
use Rattle.jc_history.proofs.LegalFacts.{notes-next}
use Rattle.jc_order.specs.Restless.{AllAddOrRetry, AllEndRestless, EndsRestless, AddsOrRetries, Stands, StoodBefore}
use Rattle.jc_order.proofs.RestlessFacts.{busy}

-- ---- what a note says

-- A list had the keys of the log at its version, a cache was told of the entry next to where it stood, and a sync began
-- from where the caches stood.
abbrev pub IsTrue : List Entry → Note → List Note → Type 0
IsTrue log (Listed kind at keys) older = (at.0 ≤ length log) × (keys ≡ listed_keys kind (upto at.0 log))
IsTrue log (Told kind version key) older =
    StoodBefore (number kind older) version × (version.0 ≤ length log) × (key ≡ option_and_then (told kind) (entry_at version.0 log))
IsTrue log (Began w basis) older = (number Jobs older ≡ Some basis.jobs_at) × (number Pods older ≡ Some basis.pods_at)
IsTrue log note older = Unit {0}

abbrev pub AreTrue : List Entry → List Note → Type 0
AreTrue log [] = Unit {0}
AreTrue log (note ∷ older) = IsTrue log note older × AreTrue log older

-- It stays so while the log grows.
still-true : (e : Entry) (log : List Entry) (notes : List Note) → AreTrue log notes → AreTrue (e ∷ log) notes
still-true e log [] h = tt
still-true e log (note ∷ older) h = (one note h.0, still-true e log older h.1)
  where
    one : (note : Note) → IsTrue log note older → IsTrue (e ∷ log) note older
    one (Listed kind at keys) h = let w = h.0 in (omega (arith, w), h.1 ∙ ap (listed_keys kind) (sym (upto-fixed at.0 e log h.0)))
    one (Told kind version key) h =
        let w = h.1 in (h.0, omega (arith, w), h.2 ∙ ap (option_and_then (told kind)) (sym (entry_at-older version.0 e log h.1)))
    one (Began w basis) h = h
    one other h = tt

true-after : (shape : Shape) (d : Deed) (past : List Deed) (notes : List Note) → AreTrue (log_given shape past) notes → AreTrue (log_given shape (d ∷ past)) notes
unfolding log_given
true-after shape d past notes h = by (gives shape past (log_given shape past) d.act).entry
  where
    by : (o : Option Entry) → AreTrue (grown (log_given shape past) o) notes
    by None = h
    by (Some e) = still-true e (log_given shape past) notes h

pub longer-log : (shape : Shape) (d : Deed) (past : List Deed) → length (log_given shape past) ≤ length (log_given shape (d ∷ past))
unfolding log_given
longer-log shape d past = grown-longer (log_given shape past) (gives shape past (log_given shape past) d.act).entry

-- ---- the notes of a deed

module _ (old new : List Entry) (longer : length old ≤ length new) (older : List Note) (ih : AreTrue new older) where
  list-true : (kind : Kind) → AreTrue new (on_list kind new (reply.Listed (log_end old)) ++ older)
  list-true kind = ((longer, refl), ih)

  deliver-true : (kind : Kind) (window : ℕ) (o : Option Version) → number kind older ≡ o → (r : Reply) → r ≡ (deliver_gives old window o).reply → TellsWithin (length new) r → AreTrue new (on_delivery kind new r ++ older)
  deliver-true kind window None n r e w = subst (λ r. AreTrue new (on_delivery kind new r ++ older)) (sym e) ih
  deliver-true kind window (Some version) n r e w = by (nat_lt version.0 (length old - window)) (version.0 == length old) e
    where
      stood-at : StoodBefore (number kind older) (record { 0 = version.0 + 1 })
      stood-at = subst (λ o. StoodBefore o (record { 0 = version.0 + 1 })) (sym n) (omega arith)

      there : TellsWithin (length new) (reply.Delivered (record { 0 = version.0 + 1 })) → AreTrue new (on_delivery kind new (reply.Delivered (record { 0 = version.0 + 1 })) ++ older)
      there w = ((stood-at, w, refl), ih)

      by : (x y : Bool) → r ≡ (cond {A = Answered} x (refused (reply.Expired (record { 0 = length old - window }))) (cond y (refused reply.UpToDate) (refused (reply.Delivered (record { 0 = version.0 + 1 }))))).reply
          → AreTrue new (on_delivery kind new r ++ older)
      by true y e = subst (λ r. AreTrue new (on_delivery kind new r ++ older)) (sym e) (tt, ih)
      by false true e = subst (λ r. AreTrue new (on_delivery kind new r ++ older)) (sym e) ih
      by false false e = subst (λ r. AreTrue new (on_delivery kind new r ++ older)) (sym e) (there (subst (TellsWithin (length new)) e w))

  -- A begin.
  sent-true : (some : List Key) → AreTrue new (on_lag some ++ older)
  sent-true [] = ih
  sent-true (first ∷ rest) = (tt, ih)

  begin-true : (worker now : ℕ) (r : Option Basis) → AreTrue new (on_begin worker now new older (begin_gives r (begin_of older old now)).reply ++ older)
  begin-true worker now (Some busy) = ih
  begin-true worker now None = at-numbers (number Jobs older) (number Pods older) refl refl
    where
      at-numbers : (x y : Option Version) → number Jobs older ≡ x → number Pods older ≡ y → AreTrue new (on_begin worker now new older (reply_of_begin (begin_at older old now x y)) ++ older)
      at-numbers None y p q = ih
      at-numbers (Some j) None p q = ih
      at-numbers (Some j) (Some v) p q = first (line older)
        where
          unless : (key : Key) (o : Option Lag) → AreTrue new (on_begin worker now new older (reply_of_begin (begin_unless (basis older old now key j v) o)) ++ older)
          unless key None = ((p, q), ih)
          unless key (Some l) = sent-true (line older)

          first : (some : List Key) → AreTrue new (on_begin worker now new older (reply_of_begin (begin_first older old now j v some)) ++ older)
          first [] = ih
          first (key ∷ rest) = unless key (cache_lag older old key j v)

  step-true : (worker now : ℕ) (o : Option Basis) (r : Reply) → AreTrue new (on_step worker now o r ++ older)
  step-true worker now (Some basis) (reply.Stepped asked given) = by (end_by (asks_status asked) given)
    where
      by : (o : Option SyncEnd) → AreTrue new ((option_to_list (option_map (λ end. Ended worker basis end now) o) ++ Asked worker basis asked given ∷ []) ++ older)
      by None = (tt, ih)
      by (Some end) = (tt, (tt, ih))
  step-true worker now (Some basis) reply.Ended = (tt, ih)
  step-true worker now o other = ih

  clock-true : (r : Reply) → AreTrue new (on_clock r ++ older)
  clock-true (reply.Now moment) = (tt, ih)
  clock-true other = ih

  if-mine : (t : Bool) (some : List Note) → AreTrue new (some ++ older) → AreTrue new (cond t some [] ++ older)
  if-mine true some h = h
  if-mine false some h = ih

-- ---- all notes

pub all-true : (shape : Shape) (c : ℕ) (deeds : List Deed) → IsLegal shape deeds → AreTrue (log_given shape deeds) (notes shape c deeds (log_given shape deeds))
unfolding gives
all-true shape c [] legal = tt
all-true shape c (d ∷ past) legal =
    subst (AreTrue (log_given shape (d ∷ past))) (sym (notes-next shape c past d legal.1))
    (by (restarts c d.act) (true-after shape d past (notes shape c past (log_given shape past)) (all-true shape c past legal.1)))
  where
    now : List Entry
    now = log_given shape (d ∷ past)

    old : List Note
    old = notes shape c past (log_given shape past)

    place : IsTold (length (log_given shape (d ∷ past))) d.act d.reply
    place = (legal-told shape (d ∷ past) legal).0

    act-true : AreTrue now old → (act : Act) → d.act ≡ act → AreTrue now (notes_taken c act d.reply (moment shape past) now old ++ old)
    act-true ih (does.List controller kind) e =
        if-mine (log_given shape past) now (longer-log shape d past) old ih (controller == c) (on_list kind now d.reply)
        (subst (λ r. AreTrue now (on_list kind now r ++ old)) (sym (legal.0.reply ∙ ap (reply_given shape past (log_given shape past)) e)) (list-true (log_given shape past) now (longer-log shape d past) old ih kind))
    act-true ih (does.Deliver controller kind) e = of (controller == c) refl
      where
        of : (t : Bool) → (controller == c) ≡ t → AreTrue now (cond t (on_delivery kind now d.reply) [] ++ old)
        of false s = ih
        of true s =
            deliver-true (log_given shape past) now (longer-log shape d past) old ih kind shape.window (number kind old) refl d.reply
            (legal.0.reply ∙ ap (reply_given shape past (log_given shape past)) e ∙ ap (λ x. (deliver_gives (log_given shape past) shape.window (number kind (notes shape x past (log_given shape past)))).reply) (eqb-true controller c s))
            (subst (λ act. IsTold (length now) act d.reply) e place)
    act-true ih (does.Begin controller worker) e = of (controller == c) refl
      where
        of : (t : Bool) → (controller == c) ≡ t → AreTrue now (cond t (on_begin worker (moment shape past) now old d.reply) [] ++ old)
        of false s = ih
        of true s =
            subst (λ r. AreTrue now (on_begin worker (moment shape past) now old r ++ old))
            (sym (legal.0.reply ∙ ap (reply_given shape past (log_given shape past)) e
            ∙ ap (λ x. (begin_gives (register worker (notes shape x past (log_given shape past)))
            (begin_of (notes shape x past (log_given shape past)) (log_given shape past) (moment shape past))).reply)
            (eqb-true controller c s)))
            (begin-true (log_given shape past) now (longer-log shape d past) old ih worker (moment shape past) (register worker old))
    act-true ih (does.Step controller worker) e =
        if-mine (log_given shape past) now (longer-log shape d past) old ih (controller == c) (on_step worker (moment shape past) (register worker old) d.reply)
        (step-true (log_given shape past) now (longer-log shape d past) old ih worker (moment shape past) (register worker old) d.reply)
    act-true ih (does.PutFault controller worker fault) e =
        if-mine (log_given shape past) now (longer-log shape d past) old ih (controller == c) (Faulted worker fault ∷ []) (tt, ih)
    act-true ih (does.Clock add) e = clock-true (log_given shape past) now (longer-log shape d past) old ih d.reply
    act-true ih other e = ih

    by : (t : Bool) → AreTrue now old → AreTrue now (cond t [] (notes_taken c d.act d.reply (moment shape past) now old ++ old))
    by true ih = tt
    by false ih = act-true ih d.act refl

-- Where all that they say is so, and the log stands so, they are told in order.
true-honest : (k : Key) (a b : ℕ) (log : List Entry) → Stands k a b log → (notes : List Note) → AreTrue log notes → AllEndRestless k a b notes → AllAddOrRetry k a b notes
true-honest k a b log stands [] h well = tt
true-honest k a b log stands (note ∷ older) h well = (one note h.0 well.0, true-honest k a b log stands older h.1 well.1)
  where
    one : (note : Note) → IsTrue log note older → EndsRestless k a b note older → AddsOrRetries k a b note older
    one (Listed kind at keys) h well = λ from. ap (has_key k) h.1 ∙ stands.listed kind at.0 from h.0
    one (Told kind version key) h well =
        (h.0, λ is. h.2 ∙ ap (λ v. option_and_then (told kind) (entry_at v log)) is ∙ stands.told_at kind (subst (λ v. v ≤ length log) is h.1))
    one (Began w basis) h well = h
    one (Ended w basis end now) h well = well
    one other h well = tt

pub honest : (k : Key) (a b : ℕ) (shape : Shape) (c : ℕ) (deeds : List Deed) → IsLegal shape deeds
    → Stands k a b (log_given shape deeds) → AllEndRestless k a b (notes shape c deeds (log_given shape deeds))
    → AllAddOrRetry k a b (notes shape c deeds (log_given shape deeds))
honest k a b shape c deeds legal stands well = true-honest k a b (log_given shape deeds) stands (notes shape c deeds (log_given shape deeds)) (all-true shape c deeds legal) well
