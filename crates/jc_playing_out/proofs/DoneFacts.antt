-- What is played comes to its end, and to the same one, with so many events allowed or more.
use Rattle.std.proofs.Common.{◌≡◌, ℕ, zero, suc, ◌+◌, ◌<◌, ◌≤◌, true, false, cond, length, Option, Some, None, refl, ap, ◌∙◌, subst, arith}
use Rattle.std.proofs.lemmas.Bool.{lt-ltb}
use Rattle.jc_types.specs.declared.actions.Script.{Script}
use Rattle.jc_types.specs.declared.runs.Event.{Event}
use Rattle.jc_types.specs.declared.runs.Shape.{Shape}
use Rattle.jc_log.specs.Acts.{Act}
use Rattle.jc_log.specs.Deeds.{act_of_event}
use Rattle.jc_history.specs.Available.{is_quiescent}
use Rattle.jc_history.specs.Legal.{IsLegal, IsOfShape, MaySettle}
use Rattle.jc_history.specs.Play.{Playing, deeds_played, does_if, event_played, on_and_on, with_answer}
use Rattle.jc_history.specs.Replies.{gives, log_after, log_given, reply_given}
use Rattle.jc_order.specs.Plays.{allowing}
use Rattle.jc_playing_out.proofs.SameFacts.{gives-same}

module _ (script : Script) (shape : Shape) where
  -- A play so far that is a legal history, and not full.
  pub record Good (p : Playing) : Type 0 where
    pub unfull : p.full ≡ false
    pub log_is : p.log ≡ log_given shape (deeds_played script p)
    pub legal : IsLegal shape (deeds_played script p)

  abbrev pub act-in : Event → Act
  act-in event = act_of_event script.commands event

  -- The play with one more event.
  abbrev pub added : Event → Playing → Playing
  added event p = with_answer event (gives shape (deeds_played script p) p.log (act-in event)) p

  pub good-added : (event : Event) (p : Playing) → Good p → IsOfShape shape (act-in event) → MaySettle (act-in event) (is_quiescent shape (deeds_played script p) p.log) → Good (added event p)
  unfolding log_given
  good-added event p h within settle = record {
    unfull = h.unfull;
    log_is = ap (λ log. log_after shape (deeds_played script p) log (act-in event)) h.log_is;
    legal = (
      record {
        within = within;
        settled = subst (λ log. MaySettle (act-in event) (is_quiescent shape (deeds_played script p) log)) h.log_is settle;
        reply = ap (λ log. reply_given shape (deeds_played script p) log (act-in event)) h.log_is;
        length = ap (λ log. length (log_after shape (deeds_played script p) log (act-in event))) h.log_is;
      },
      h.legal,
    );
  }

  -- With so many events allowed, or more, what is played from p comes to this.
  pub record Done (f : ℕ → Playing → Playing) (p : Playing) : Type 0 where
    pub to : Playing
    pub good : Good to
    pub from : ℕ
    pub same : (n : ℕ) → from ≤ n → f n p ≡ to

  pub done-then : (f g : ℕ → Playing → Playing) (p : Playing) → (h : Done f p) → Done g h.to → Done (λ n q. g n (f n q)) p
  done-then f g p h k = record {
    to = k.to;
    good = k.good;
    from = h.from + k.from;
    same = λ n le. ap (g n) (h.same n (omega (arith, le))) ∙ k.same n (omega (arith, le));
  }

  -- ---- one event

  pub plays-it : (n : ℕ) (event : Event) (p : Playing) → length p.pasts < n → event_played script (allowing n shape) event p ≡ added event p
  unfolding event_played
  plays-it n event p lt =
      ap (λ b. cond b (with_answer event (gives (allowing n shape) (deeds_played script p) p.log (act-in event)) p) (record p { full = true })) (lt-ltb (length p.pasts) n lt)
      ∙ ap (λ answered. with_answer event answered p) (gives-same n shape (deeds_played script p) p.log (act-in event))

  pub event-done : (event : Event) (p : Playing) → Good p → IsOfShape shape (act-in event) → MaySettle (act-in event) (is_quiescent shape (deeds_played script p) p.log)
      → Done (λ n q. event_played script (allowing n shape) event q) p
  event-done event p h within settle = record {
    to = added event p;
    good = good-added event p h within settle;
    from = length p.pasts + 1;
    same = λ n le. plays-it n event p (omega (arith, le));
  }

  -- ---- a loop

  -- What is next, with so many events allowed, is what is next by this shape, where at most so many turns are left.
  module _ (next : ℕ → Playing → Option Event) (now : Playing → Option Event) (Left : ℕ → Playing → Type 0)
      (good-left : (k : ℕ) (p : Playing) → Left k p → Good p)
      (is-now : (n k : ℕ) (p : Playing) → Left k p → next n p ≡ now p)
      (no-more : (p : Playing) (event : Event) → Left zero p → now p ≡ Some event → ⊥)
      (one-less : (k : ℕ) (p : Playing) (event : Event) → Left (suc k) p → now p ≡ Some event → Left k (added event p)) where
    -- The loop stops after so many turns.
    pub record Loop (p : Playing) : Type 0 where
      pub to : Playing
      pub good : Good to
      pub stops : now to ≡ None
      pub from : ℕ
      pub turns : ℕ
      pub plays : (n m : ℕ) → from ≤ n → turns ≤ m → on_and_on script (allowing n shape) (next n) m p ≡ to

    stop-here : (k : ℕ) (p : Playing) → Left k p → now p ≡ None → Loop p
    stop-here k p h e = record { to = p; good = good-left k p h; stops = e; from = 0; turns = 0; plays = λ n m le more. stays n m }
      where
        stays : (n m : ℕ) → on_and_on script (allowing n shape) (next n) m p ≡ p
        stays n zero = refl
        stays n (suc m) = ap (λ o. does_if script (allowing n shape) (next n) o (on_and_on script (allowing n shape) (next n) m) p) (is-now n k p h ∙ e)

    turn-more : (k : ℕ) (p : Playing) (event : Event) → Left k p → now p ≡ Some event → Loop (added event p) → Loop p
    turn-more k p event h e more = record {
      to = more.to;
      good = more.good;
      stops = more.stops;
      from = more.from + length p.pasts + 1;
      turns = more.turns + 1;
      plays = λ n m le some. goes n m (omega (arith, le)) (omega (arith, le)) some;
    }
      where
        goes : (n m : ℕ) → more.from ≤ n → length p.pasts < n → more.turns + 1 ≤ m → on_and_on script (allowing n shape) (next n) m p ≡ more.to
        goes n zero le lt some = absurd (omega (arith, some))
        goes n (suc m) le lt some =
            ap (λ o. does_if script (allowing n shape) (next n) o (on_and_on script (allowing n shape) (next n) m) p) (is-now n k p h ∙ e)
            ∙ ap (λ b. cond b p (on_and_on script (allowing n shape) (next n) m (event_played script (allowing n shape) event p))) (good-left k p h).unfull
            ∙ ap (on_and_on script (allowing n shape) (next n) m) (plays-it n event p lt)
            ∙ more.plays n m le (omega (arith, some))

    loop-ends : (k : ℕ) (p : Playing) → Left k p → Loop p
    loop-ends zero p h = by (now p) refl
      where
        by : (o : Option Event) → now p ≡ o → Loop p
        by None e = stop-here zero p h e
        by (Some event) e = absurd (no-more p event h e)
    loop-ends (suc k) p h = by (now p) refl (λ q g. loop-ends k q g)
      where
        by : (o : Option Event) → now p ≡ o → ((q : Playing) → Left k q → Loop q) → Loop p
        by None e more = stop-here (suc k) p h e
        by (Some event) e more = turn-more (suc k) p event h e (more (added event p) (one-less k p event h e))

    -- What a loop of as many turns as are allowed, and one, comes to; nothing is next there.
    pub record LoopDone (p : Playing) : Type 0 where
      pub done : Done (λ n q. on_and_on script (allowing n shape) (next n) (n + 1) q) p
      pub stops : now done.to ≡ None

    pub loop-done : (k : ℕ) (p : Playing) → Left k p → LoopDone p
    loop-done k p h = of (loop-ends k p h)
      where
        of : Loop p → LoopDone p
        of l = record {
          done = record { to = l.to; good = l.good; from = l.from + l.turns; same = λ n le. l.plays n (n + 1) (omega (arith, le)) (omega (arith, le)) };
          stops = l.stops;
        }
