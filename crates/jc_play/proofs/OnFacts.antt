-- A play that goes on and on, and a machine that does what comes next in it.
use Rattle.std.proofs.Common.{◌≡◌, ℕ, zero, suc, ◌+◌, ◌-◌, ◌<◌, ◌≤◌, nat_lt, Bool, true, false, cond, ◌∷◌, length, Option, Some, None, refl, sym, ap, ◌∙◌, subst, arith, ltb-true, ltb-false}
use Rattle.jc_types.specs.declared.runs.Event.{Event}
use Rattle.std.specs.List.{list_any}
use Rattle.jc_types.specs.declared.runs.Event.TheVariants.{System}
use Rattle.jc_types.specs.declared.runs.Shape.{Shape}
use Rattle.jc_types.specs.declared.runs.Sys.{Sys}
use Rattle.jc_log.specs.Deeds.{act_of_event}
use Rattle.jc_history.specs.Legal.{lane_count}
use Rattle.jc_history.specs.Play.{Playing, does_if, event_played, is_command, on_and_on, until_done, with_answer}
use Rattle.jc_history.specs.Replies.{gives, log_given}
use Rattle.jc_runs.specs.Seen.{Seen, deeds_seen, happened, log_seen, past_seen}
use Rattle.jc_play.specs.Turns.{HasGoneOn, playing_of}

-- ---- one event

-- Where there is room the event happens.
pub happens : (seen : Seen) (event : Event) → length seen.pasts < seen.shape.events → event_played seen.script seen.shape event (playing_of false seen) ≡ playing_of false (happened seen event)
unfolding event_played log_given
happens seen event lt = by (nat_lt (length seen.pasts) seen.shape.events) refl
  where
    by : (b : Bool) → nat_lt (length seen.pasts) seen.shape.events ≡ b
        → cond b (with_answer event (gives seen.shape (deeds_seen seen) (log_seen seen) (act_of_event seen.script.commands event)) (playing_of false seen)) (playing_of true seen) ≡ playing_of false (happened seen event)
    by true s = refl
    by false s = let le = ltb-false (length seen.pasts) seen.shape.events s in absurd (omega (arith, lt, le))

-- Where there is none the play is full.
pub fills : (seen : Seen) (event : Event) → seen.shape.events ≤ length seen.pasts → event_played seen.script seen.shape event (playing_of false seen) ≡ playing_of true seen
unfolding event_played
fills seen event le = by (nat_lt (length seen.pasts) seen.shape.events) refl
  where
    by : (b : Bool) → nat_lt (length seen.pasts) seen.shape.events ≡ b
        → cond b (with_answer event (gives seen.shape (deeds_seen seen) (log_seen seen) (act_of_event seen.script.commands event)) (playing_of false seen)) (playing_of true seen) ≡ playing_of true seen
    by true s = let lt = ltb-true (length seen.pasts) seen.shape.events s in absurd (omega (arith, lt, le))
    by false s = refl

-- ---- many

module _ (old : Seen) (next : Playing → Option Event) where
  -- So many turns.
  abbrev go : ℕ → Playing → Playing
  go n p = on_and_on old.script old.shape next n p

  -- A turn in which this is next.
  abbrev turn : ℕ → Option Event → Playing → Playing
  turn n o p = does_if old.script old.shape next o (go n) p

  -- Nothing changes where nothing is next.
  stays-none : (n : ℕ) (p : Playing) → next p ≡ None → go n p ≡ p
  stays-none zero p e = refl
  stays-none (suc n) p e = ap (λ o. turn n o p) e

  -- Nor in a full play.
  pub stays-full : (n : ℕ) (p : Playing) → p.full ≡ true → go n p ≡ p
  stays-full zero p f = refl
  stays-full (suc n) p f = by (next p)
    where
      by : (o : Option Event) → turn n o p ≡ p
      by None = refl
      by (Some event) = ap (λ b. cond b p (go n (event_played old.script old.shape event p))) f

  -- Turns after turns.
  adds : (n m : ℕ) (p : Playing) → go (n + m) p ≡ go m (go n p)
  adds zero m p = let same : 0 + m ≡ m = omega arith in ap (λ k. go k p) same
  adds (suc n) m p = (let same : suc n + m ≡ suc (n + m) = omega arith in ap (λ k. go k p) same) ∙ by (next p) refl (λ q. adds n m q)
    where
      on : (event : Event) (b : Bool) → p.full ≡ b → ((q : Playing) → go (n + m) q ≡ go m (go n q))
          → cond b p (go (n + m) (event_played old.script old.shape event p)) ≡ go m (cond b p (go n (event_played old.script old.shape event p)))
      on event true f more = sym (stays-full m p f)
      on event false f more = more (event_played old.script old.shape event p)

      by : (o : Option Event) → next p ≡ o → ((q : Playing) → go (n + m) q ≡ go m (go n q)) → turn (n + m) o p ≡ go m (turn n o p)
      by None e more = sym (stays-none m p e)
      by (Some event) e more = on event p.full refl more

  -- One turn.
  one-turn : (seen : Seen) (event : Event) → next (playing_of false seen) ≡ Some event → (n : ℕ) → go (suc n) (playing_of false seen) ≡ go n (event_played old.script old.shape event (playing_of false seen))
  one-turn seen event e n = ap (λ o. turn n o (playing_of false seen)) e

  -- Nothing has come yet.
  pub none-yet : HasGoneOn next old old
  none-yet = record { script = refl; shape = refl; turns = 0; count = omega arith; few = omega arith; played = refl; counts = λ lane. refl; commands = λ place. refl }

  module _ (new : Seen) (h : HasGoneOn next old new) where
    -- One event, with the script and the shape of either.
    same-event : (event : Event) → event_played old.script old.shape event (playing_of false new) ≡ event_played new.script new.shape event (playing_of false new)
    same-event event = ap (λ s. event_played s old.shape event (playing_of false new)) (sym h.script) ∙ ap (λ s. event_played new.script s event (playing_of false new)) (sym h.shape)

    -- The turns that are left.
    rest : until_done old.script old.shape next (playing_of false old) ≡ go (suc (old.shape.events - h.turns)) (playing_of false new)
    rest =
        (let few = h.few in let same : old.shape.events + 1 ≡ h.turns + suc (old.shape.events - h.turns) = omega (arith, few) in ap (λ n. go n (playing_of false old)) same)
        ∙ adds h.turns (suc (old.shape.events - h.turns)) (playing_of false old)
        ∙ ap (go (suc (old.shape.events - h.turns))) h.played

    -- All is done where nothing is next.
    pub all-done : next (playing_of false new) ≡ None → until_done old.script old.shape next (playing_of false old) ≡ playing_of false new
    all-done e = rest ∙ stays-none (suc (old.shape.events - h.turns)) (playing_of false new) e

    -- The play is full where one is next and there is no room.
    pub all-full : (event : Event) → next (playing_of false new) ≡ Some event → new.shape.events ≤ length new.pasts → until_done old.script old.shape next (playing_of false old) ≡ playing_of true new
    all-full event e le =
        rest ∙ one-turn new event e (old.shape.events - h.turns)
        ∙ ap (go (old.shape.events - h.turns)) (same-event event ∙ fills new event le)
        ∙ stays-full (old.shape.events - h.turns) (playing_of true new) refl

    -- One more.
    pub one-more : (event : Event) (system : Sys) → event ≡ System system → next (playing_of false new) ≡ Some event → length new.pasts < new.shape.events → HasGoneOn next old (happened new event)
    one-more event system is e lt = record {
      script = h.script;
      shape = h.shape;
      turns = h.turns + 1;
      count = let count = h.count in omega (arith, count);
      few = let count = h.count in let same = ap (λ (s : Shape). s.events) h.shape in omega (arith, count, lt, same);
      played =
          adds h.turns 1 (playing_of false old)
          ∙ ap (go 1) h.played
          ∙ one-turn new event e 0
          ∙ same-event event
          ∙ happens new event lt;
      counts = λ lane. subst (λ event. lane_count lane (past_seen new event ∷ new.pasts) ≡ lane_count lane new.pasts) (sym is) refl ∙ h.counts lane;
      commands = λ place. subst (λ event. list_any (is_command place) (past_seen new event ∷ new.pasts) ≡ list_any (is_command place) new.pasts) (sym is) refl ∙ h.commands place;
    }
