-- The parts of a play by a machine.
use Rattle.std.proofs.Common.{◌≡◌, ℕ, ◌+◌, ◌||◌, ◌++◌, eq-eqb, ◌<◌, ◌≤◌, nat_lt, Bool, true, false, cond, List, [], ◌∷◌, length, slice_get, refl, sym, ap, ◌∙◌, subst, arith, ltb-true}
use Rattle.std.specs.List.{list_any}
use Rattle.std.specs.Prelude.{Result, Ok, Err, OnErr, OnOk}
use Rattle.jc_types.specs.declared.numbers.Version.{Version}
use Rattle.jc_types.specs.declared.objects.Kind.{Kind}
use Rattle.jc_types.specs.declared.replies.Reply.{Reply}
use Rattle.jc_types.specs.declared.replies.Reply.TheVariants as reply
use Rattle.jc_types.specs.declared.runs.Event.{Event}
use Rattle.jc_types.specs.declared.runs.Past.{Past}
use Rattle.jc_types.specs.declared.runs.Shape.{Shape}
use Rattle.jc_log.specs.Acts as does
use Rattle.jc_log.specs.Acts.{Act}
use Rattle.jc_log.specs.Deeds.{act_of_event, lane_of}
use Rattle.jc_history.specs.Available.{WasAvailable, available}
use Rattle.jc_history.specs.Legal.{ComesNext, IsOfShape, MaySettle, lane_count, lane_places}
use Rattle.jc_history.specs.Play.{Playing, after_begin, brought_up, event_played, has_just_begun, is_command, stepped_if, stepped_through}
use Rattle.jc_runs.specs.Seen.{Admits, IsDoable, Seen, act_seen, deeds_seen, happened, log_seen, past_seen, reply_seen}
use Rattle.jc_machine.specs.declared.apply.ApplyFault.{ApplyFault}
use Rattle.jc_machine.specs.declared.apply.ApplyFault.TheVariants.{HistoryFull}
use Rattle.jc_machine.specs.SyncsSeen.{tells_begin}
use Rattle.jc_play.specs.Turns.{HasCome, HasGrown, IsOwn, NeedsNoRest, Reaches, is_quiescent_seen, next_to_bring, playing_of}
use Rattle.jc_play.proofs.GoFacts.{done-reaches, grown-on, none-grown, ok-err, room-left, stop, stop-reaches}
use Rattle.jc_play.proofs.OnFacts.{fills, happens, stays-full}

-- ---- what stops

module _ (old s : Seen) (same : s.shape ≡ old.shape) where
  -- A full play is not brought on.
  pub up-full : (c : ℕ) (kind : Kind) → brought_up old.script old.shape c kind (playing_of true s) ≡ playing_of true s
  unfolding brought_up
  up-full c kind = stays-full old (next_to_bring c kind old.script old.shape) (old.shape.events + 1) (playing_of true s) refl

  -- Nothing happens in it.
  pub event-full : (event : Event) → s.shape.events ≤ length s.pasts → event_played old.script old.shape event (playing_of true s) ≡ playing_of true s
  unfolding event_played
  event-full event le = by (nat_lt (length s.pasts) old.shape.events) _ refl
    where
      by : (b : Bool) (x : Playing) → nat_lt (length s.pasts) old.shape.events ≡ b → cond b x (playing_of true s) ≡ playing_of true s
      by true x e = let lt = ltb-true (length s.pasts) old.shape.events e in let is = ap (λ (shape : Shape). shape.events) same in absurd (omega (arith, lt, le, is))
      by false x e = refl

-- ---- the own event

-- An own event may still come once only the system has gone on.
pub own-later : (old s : Seen) (event : Event) → s.script ≡ old.script → s.shape ≡ old.shape → ((lane : ℕ) → lane_count lane s.pasts ≡ lane_count lane old.pasts) → IsOwn old event → IsOwn s event
own-later old s event script shape counts h = record {
  lane = h.lane;
  number = h.number;
  is = h.is;
  next = ap (λ script. slice_get (lane_places h.lane script.commands) (lane_count h.lane s.pasts)) script ∙ ap (slice_get (lane_places h.lane old.script.commands)) (counts h.lane) ∙ h.next;
  within = subst (λ script. IsOfShape s.shape (act_of_event script.commands event)) (sym script) (subst (λ shape. IsOfShape shape (act_of_event old.script.commands event)) (sym shape) h.within);
  doable = subst (λ script. IsDoable (act_of_event script.commands event)) (sym script) h.doable;
}

-- It may come.
pub own-admits : (s : Seen) (event : Event) → IsOwn s event → MaySettle (act_seen s event) (is_quiescent_seen s) → Admits s event
own-admits s event h settled = record {
  next = subst (λ event. ComesNext s.script.commands s.pasts event) (sym h.is) h.next;
  within = h.within;
  settled = settled;
  doable = h.doable;
}

-- So does a settle at rest.
pub rest-settles : (act : Act) (b : Bool) → b ≡ true → MaySettle act b
rest-settles does.Settle b e = e
rest-settles other b e = tt

-- The event has come.
pub own-grown : (s new : Seen) (event : Event) → IsOwn s event → new ≡ happened s event → HasGrown s new
own-grown s new event h e = subst (HasGrown s) (sym e)
    (grown-on s s (happened s event) (none-grown s) (past_seen s event ∷ []) refl refl refl
    (λ o. (
      subst (λ event. WasAvailable (act_of_event s.script.commands event) (lane_of event)
          (available s.shape (deeds_seen s) (log_seen s))) (sym h.is) tt,
      o,
    )))

-- It needs no rest in the same script.
pub no-rest-later : (old s : Seen) (event : Event) → s.script ≡ old.script → NeedsNoRest old event → NeedsNoRest s event
no-rest-later old s event script h rests = subst (λ script. MaySettle (act_of_event script.commands event) rests) (sym script) (h rests)

-- Equal errors.
pub err-same : (e f : ApplyFault) → stop e ≡ stop f → e ≡ f
err-same e f h = cc

-- ---- what has come

-- What has come once stays.
pub any-more : (test : Past → Bool) (more pasts : List Past) → list_any test pasts ≡ true → list_any test (more ++ pasts) ≡ true
any-more test [] pasts e = e
any-more test (past ∷ more) pasts e = by (test past) (list_any test (more ++ pasts)) (any-more test more pasts e)
  where
    by : (a b : Bool) → b ≡ true → (a || b) ≡ true
    by true b e = refl
    by false b e = e

-- It has come where it happened.
pub came-happened : (old new : Seen) (event : Event) → new ≡ happened old event → HasCome event new
came-happened old new event e lane number is =
    subst (λ (n : Seen). list_any (is_command number) n.pasts ≡ true) (sym e)
    (subst (λ event. list_any (is_command number) (past_seen old event ∷ old.pasts) ≡ true) (sym is) (ap (λ b. b || list_any (is_command number) old.pasts) (eq-eqb number number refl)))

-- It stays.
pub came-grown : (event : Event) (s new : Seen) → HasCome event s → HasGrown s new → HasCome event new
came-grown event s new h g lane number is = subst (λ pasts. list_any (is_command number) pasts ≡ true) (sym g.pasts) (any-more (is_command number) g.more s.pasts (h lane number is))

-- What holds, holds where the answer is Ok.
pub on-ok-of : (r : Result (Unit {0}) ApplyFault) (X : Type 0) → X → OnOk r X
on-ok-of (Ok tt) X x = x
on-ok-of (Err e) X x = tt

pub plain-came : (old new : Seen) (event : Event) (r : Result (Unit {0}) ApplyFault) → OnOk r (new ≡ happened old event) → OnOk r (HasCome event new)
plain-came old new event (Ok tt) e = came-happened old new event e
plain-came old new event (Err e) ok = tt

-- ---- begins

begin-is : (event : Event) (r : Reply) (end : Version) (pasts : List Past) → has_just_begun (record { event = event; reply = r; length = end } ∷ pasts) ≡ tells_begin r
begin-is event (reply.Begun key jobs_at pods_at) end pasts = refl
begin-is event other end pasts = refl

-- Whether a sync began by the event.
pub just-begun : (seen : Seen) (event : Event) (r : Reply) (b : Bool) → r ≡ reply_seen seen event → b ≡ tells_begin r → b ≡ has_just_begun (happened seen event).pasts
just-begun seen event r b e g = g ∙ ap tells_begin e ∙ sym (begin-is event (reply_seen seen event) (past_seen seen event).length seen.pasts)

module _ (old : Seen) (event : Event) (c w : ℕ) where
  -- The play of the event, and of what follows it.
  abbrev pub begun-play : Playing
  begun-play = after_begin old.script old.shape c w (event_played old.script old.shape event (playing_of false old))

  -- The history is full.
  pub begin-full : old.shape.events ≤ length old.pasts → begun-play ≡ playing_of true old
  begin-full le = ap (after_begin old.script old.shape c w) (fills old event le)

  begin-on : (b : Bool) → length old.pasts < old.shape.events → b ≡ has_just_begun (happened old event).pasts → begun-play ≡ stepped_if old.script old.shape c w b (playing_of false (happened old event))
  begin-on b lt e = ap (after_begin old.script old.shape c w) (happens old event lt) ∙ ap (λ b. stepped_if old.script old.shape c w b (playing_of false (happened old event))) (sym e)

  -- A sync began, and its steps follow.
  pub begin-steps : (s new : Seen) (r : Result (Unit {0}) ApplyFault) → s ≡ happened old event → length old.pasts < old.shape.events → true ≡ has_just_begun (happened old event).pasts
      → Reaches r (stepped_through s.script s.shape c w (playing_of false s)) new → Reaches r begun-play new
  begin-steps s new r same lt e h = subst (λ q. Reaches r q new) (sym (begin-on true lt e)) (subst (λ (s : Seen). Reaches r (stepped_through s.script s.shape c w (playing_of false s)) new) same h)

  -- None began.
  pub begin-ends : (s : Seen) → s ≡ happened old event → length old.pasts < old.shape.events → false ≡ has_just_begun (happened old event).pasts → Reaches (Ok tt) begun-play s
  begin-ends s same lt e = done-reaches begun-play s (begin-on false lt e ∙ ap (playing_of false) (sym same))

  -- It was not done.
  pub begin-stops : (s : Seen) (r : Result (Unit {0}) ApplyFault) (e : ApplyFault) → r ≡ stop e → s ≡ old → (e ≡ HistoryFull → old.shape.events ≤ length old.pasts) → Reaches r begun-play s
  begin-stops s r e is same room = subst (Reaches r begun-play) (sym same) (stop-reaches r e begun-play old is (λ h. (begin-full (room (err-same e HistoryFull h)), room (err-same e HistoryFull h))))

-- ---- an event alone

module _ (old new : Seen) (event : Event) where
  -- So far its play has come.
  pub plain-reaches : (r : Result (Unit {0}) ApplyFault) → OnOk r (new ≡ happened old event) → OnErr r (new ≡ old) → (old.shape.events ≤ length old.pasts → r ≡ stop HistoryFull) → (r ≡ stop HistoryFull → old.shape.events ≤ length old.pasts)
      → Reaches r (event_played old.script old.shape event (playing_of false old)) new
  plain-reaches (Ok tt) ok kept full room = done-reaches
      (event_played old.script old.shape event (playing_of false old)) new
      (happens old event (room-left (length old.pasts) old.shape.events (λ le. ok-err tt HistoryFull (full le)))
      ∙ ap (playing_of false) (sym ok))
  plain-reaches (Err e) ok kept full room = subst
      (Reaches (stop e) (event_played old.script old.shape event (playing_of false old))) (sym kept)
      (stop-reaches (stop e) e (event_played old.script old.shape event (playing_of false old)) old refl
      (λ h. (fills old event (room h), room h)))

  pub plain-grown : (r : Result (Unit {0}) ApplyFault) → IsOwn old event → OnOk r (new ≡ happened old event) → OnErr r (new ≡ old) → HasGrown old new
  plain-grown (Ok tt) own ok kept = own-grown old new event own ok
  plain-grown (Err e) own ok kept = subst (HasGrown old) (sym kept) (none-grown old)
