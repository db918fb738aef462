-- The places of a script that are played one after the other.
use Rattle.std.proofs.Common.{◌≡◌, ℕ, zero, suc, ◌+◌, ◌==◌, ◌||◌, nat_lt, Bool, true, false, cond, List, [], ◌∷◌, drop, slice_get, Option, Some, None, refl, sym, ap, ◌∙◌, subst, arith, ltb-true, eqb-true}
use Rattle.std.proofs.lemmas.Bool.{eqb-false}
use Rattle.std.specs.List.{list_any}
use Rattle.std.specs.Option.{unwrap_or}
use Rattle.std.specs.Prelude.{Result, Ok, Err, OnOk}
use Rattle.jc_types.specs.declared.actions.Action1.{Action1}
use Rattle.jc_types.specs.declared.actions.Action1.TheVariants as action
use Rattle.jc_types.specs.declared.actions.Command.{Command}
use Rattle.jc_types.specs.declared.actions.Script.{Script}
use Rattle.jc_types.specs.declared.runs.Event.{Event}
use Rattle.jc_types.specs.declared.runs.Event.TheVariants as event
use Rattle.jc_types.specs.declared.runs.Past.{Past}
use Rattle.jc_types.specs.declared.runs.Shape.{Shape}
use Rattle.jc_log.specs.Deeds.{act_of_action, act_of_command}
use Rattle.jc_history.specs.Legal.{InLanes, IsOfShape, MaySettle, lane_count, next_command}
use Rattle.jc_history.specs.Play.{Playing, commanded, is_command, nothing, rest_played, whole_play}
use Rattle.jc_history.specs.Replies.{log_given}
use Rattle.jc_order.proofs.LaneFacts.{comes-next, played-is}
use Rattle.jc_order.specs.Plays.{IsScriptFor}
use Rattle.jc_runs.specs.Seen.{IsDoable, Seen}
use Rattle.jc_machine.specs.declared.apply.ApplyFault.{ApplyFault}
use Rattle.jc_play.specs.Turns.{HasCome, HasGrown, IsOwn, Reaches, playing_of}
use Rattle.jc_play.specs.Ways.{ArePlayed, FitsWay, IsAtPlace, by_way, place_played, way_of}
use Rattle.jc_play.proofs.GoFacts.{grown-then, stop, stopped}
use Rattle.jc_play.proofs.PlayFacts.{any-more}
use Rattle.jc_machine.proofs.OrderFacts.{each-slice as each-at}

-- ---- a new machine

-- Nothing was played.
pub new-plays-nothing : (seen : Seen) → seen.pasts ≡ [] → playing_of false seen ≡ nothing
unfolding log_given
new-plays-nothing seen e = ap (λ (pasts : List Past). playing_of false (record seen { pasts = pasts })) e

-- What is left is the whole.
pub new-plays-whole : (script : Script) (shape : Shape) (seen : Seen) → seen.pasts ≡ [] → whole_play script shape ≡ rest_played script shape 0 script.commands (playing_of false seen)
unfolding whole_play
new-plays-whole script shape seen e = ap (rest_played script shape 0 script.commands) (sym (new-plays-nothing seen e))

-- ---- one place

itself : (n : ℕ) → nat_lt n n ≡ false
itself n = by (nat_lt n n) refl
  where
    by : (b : Bool) → nat_lt n n ≡ b → b ≡ false
    by true s = let lt = ltb-true n n s in absurd (omega (arith, lt))
    by false s = refl

-- Where all before it were played, a command that is not its lane's next one was played too.
pub was-played : (commands : List Command) (pasts : List Past) → InLanes commands pasts → (place : ℕ) (command : Command) → slice_get commands place ≡ Some command → ArePlayed place pasts
    → (next_command commands command.lane pasts ≡ Some place → ⊥) → list_any (is_command place) pasts ≡ true
was-played commands pasts h place command e before other = by (list_any (is_command place) pasts) refl
  where
    by : (b : Bool) → list_any (is_command place) pasts ≡ b → b ≡ true
    by true s = refl
    by false s = absurd (other (comes-next commands pasts h place command e before s))

-- The next one of a lane was not played yet.
pub not-yet : (commands : List Command) (pasts : List Past) → InLanes commands pasts → (lane place : ℕ) → next_command commands lane pasts ≡ Some place → list_any (is_command place) pasts ≡ false
not-yet commands pasts h lane place e = played-is commands pasts h lane (lane_count lane pasts) place e ∙ itself (lane_count lane pasts)

-- What was found is not that place: there is none, or another.
pub none-next : (o found : Option ℕ) (place : ℕ) → o ≡ found → o ≡ None → found ≡ Some place → ⊥
none-next o found place e f g = cc

pub other-next : (o found : Option ℕ) (number place : ℕ) → o ≡ found → o ≡ Some number → (number ≡ place → ⊥) → found ≡ Some place → ⊥
other-next o found number place e f not g = not (ap (λ o. unwrap_or o number) (sym f ∙ e ∙ g))

-- It is that place.
pub that-next : (o found : Option ℕ) (number place : ℕ) → o ≡ found → o ≡ Some number → number ≡ place → found ≡ Some place
that-next o found number place e f same = sym e ∙ f ∙ ap (λ n. Some n) same

-- A command is played with what comes round it.
by-its-way : (script : Script) (shape : Shape) (own : Event) (p : Playing) (a : Action1) → commanded script shape a own p ≡ by_way (way_of a) script shape own p
by-its-way script shape own p (action.Sync c w) = refl
by-its-way script shape own p action.Settle = refl
by-its-way script shape own p (action.Create key spec) = refl
by-its-way script shape own p other = refl

-- The machine does what commands do.
pub all-doable : (a : Action1) → IsDoable (act_of_action a)
all-doable (action.Create key spec) = tt
all-doable other = tt

module _ (s : Seen) (place : ℕ) (command : Command) (stands : slice_get s.script.commands place ≡ Some command) where
  -- What is played of the place where its command was not played yet.
  pub plays-it : list_any (is_command place) s.pasts ≡ false
      → place_played place (slice_get s.script.commands place) s.script s.shape (playing_of false s) ≡ by_way (way_of command.action) s.script s.shape (event.Command command.lane place) (playing_of false s)
  plays-it e =
      ap (λ o. place_played place o s.script s.shape (playing_of false s)) stands
      ∙ ap (λ b. cond b (playing_of false s) (commanded s.script s.shape command.action (event.Command command.lane place) (playing_of false s))) e
      ∙ by-its-way s.script s.shape (event.Command command.lane place) (playing_of false s) command.action

  module _ (proper : IsScriptFor s.script s.shape) where
    within : IsOfShape s.shape (act_of_action command.action)
    within = each-at (λ (c : Command). IsOfShape s.shape (act_of_action c.action)) s.script.commands place command proper stands

    -- It is an own event.
    pub own-is : next_command s.script.commands command.lane s.pasts ≡ Some place → IsOwn s (event.Command command.lane place)
    own-is e = record {
      lane = command.lane;
      number = place;
      is = refl;
      next = e;
      within = subst (λ o. IsOfShape s.shape (act_of_command o)) (sym stands) within;
      doable = subst (λ o. IsDoable (act_of_command o)) (sym stands) (all-doable command.action);
    }

    -- It may be played so.
    pub own-fits : FitsWay (way_of command.action) s (event.Command command.lane place)
    own-fits = by command.action within (λ rests m. subst (λ o. MaySettle (act_of_command o) rests) (sym stands) m)
      where
        by : (a : Action1) → IsOfShape s.shape (act_of_action a) → ((rests : Bool) → MaySettle (act_of_action a) rests → MaySettle (act_of_command (slice_get s.script.commands place)) rests)
            → FitsWay (way_of a) s (event.Command command.lane place)
        by (action.Sync c w) h free = (h.0, h.1, λ rests. free rests tt)
        by action.Settle h free = tt
        by (action.Create key spec) h free = λ rests. free rests tt
        by other h free = λ rests. free rests tt

-- One place more was played once the event of the place has come.
one-further : (old new : Seen) (own : Event) (place : ℕ) → IsAtPlace place own → ArePlayed place old.pasts → HasGrown old new → HasCome own new → ArePlayed (place + 1) new.pasts
one-further old new own place at before grown came n lt = by (n == place) refl
  where
    by : (b : Bool) → (n == place) ≡ b → list_any (is_command n) new.pasts ≡ true
    by true s = ap (λ n. list_any (is_command n) new.pasts) (eqb-true n place s) ∙ came at.lane place at.is
    by false s =
        let other = eqb-false n place s in
        subst (λ pasts. list_any (is_command n) pasts ≡ true) (sym grown.pasts) (any-more (is_command n) grown.more old.pasts (before n (omega (arith, lt, other))))

-- So it is where the answer is Ok.
pub place-came : (old new : Seen) (own : Event) (place : ℕ) (r : Result (Unit {0}) ApplyFault) → IsAtPlace place own → ArePlayed place old.pasts → HasGrown old new → OnOk r (HasCome own new) → OnOk r (ArePlayed (place + 1) new.pasts)
place-came old new own place (Err e) at before grown came = tt
place-came old new own place (Ok done) at before grown came = one-further old new own place at before grown came

-- ---- one place after the other

module _ (script : Script) (shape : Shape) where
  -- One place, and then those after it.
  rest-step : (commands : List Command) (i place : ℕ) (p : Playing) → rest_played script shape place (drop i commands) p ≡ rest_played script shape (place + 1) (drop (suc i) commands) (place_played place (slice_get commands i) script shape p)
  rest-step [] zero place p = refl
  rest-step [] (suc i) place p = refl
  rest-step (command ∷ commands) zero place p = refl
  rest-step (command ∷ commands) (suc i) place p = rest-step commands i place p

  -- Nothing is played after a full play.
  rest-full : (commands : List Command) (place : ℕ) (q : Playing) → q.full ≡ true → rest_played script shape place commands q ≡ q
  rest-full [] place q f = refl
  rest-full (command ∷ commands) place q f =
      ap (λ b. rest_played script shape (place + 1) commands (cond (b || list_any (is_command place) q.pasts) q (commanded script shape command.action (event.Command command.lane place) q))) f
      ∙ rest-full commands (place + 1) q f

-- The places below this one were played; what is left is played from here on.
pub record IsPlaying (old s : Seen) (place : ℕ) : Type 0 where
  pub grown : HasGrown old s
  pub played : ArePlayed place s.pasts
  pub rest : rest_played old.script old.shape 0 old.script.commands (playing_of false old) ≡ rest_played s.script s.shape place (drop place s.script.commands) (playing_of false s)

module _ (old s : Seen) (place : ℕ) (h : IsPlaying old s place) where
  -- What is left after this place.
  abbrev after : Playing → Playing
  after q = rest_played s.script s.shape (place + 1) (drop (place + 1) s.script.commands) q

  abbrev here : Playing
  here = place_played place (slice_get s.script.commands place) s.script s.shape (playing_of false s)

  goes-here : rest_played old.script old.shape 0 old.script.commands (playing_of false old) ≡ after here
  goes-here = h.rest ∙ rest-step s.script s.shape s.script.commands place place (playing_of false s) ∙ (let same : suc place ≡ place + 1 = omega arith in ap (λ i. rest_played s.script s.shape (place + 1) (drop i s.script.commands) here) same)

  -- One place more.
  pub next-place : (new : Seen) → HasGrown s new → ArePlayed (place + 1) new.pasts → here ≡ playing_of false new → IsPlaying old new (place + 1)
  next-place new grown played e = record {
    grown = grown-then old s new h.grown grown;
    played = played;
    rest =
        goes-here
        ∙ ap after e
        ∙ ap (λ (script : Script). rest_played script s.shape (place + 1) (drop (place + 1) script.commands) (playing_of false new)) (sym grown.script)
        ∙ ap (λ shape. rest_played new.script shape (place + 1) (drop (place + 1) new.script.commands) (playing_of false new)) (sym grown.shape);
  }

  -- It has stopped at this place.
  pub place-stops : (r : Result (Unit {0}) ApplyFault) (e : ApplyFault) (new : Seen) → r ≡ stop e → Reaches (stop e) here new → Reaches r (rest_played old.script old.shape 0 old.script.commands (playing_of false old)) new
  place-stops r e new is reached = subst (λ q. Reaches r q new) (sym goes-here)
      (stopped r e here new after is reached (λ le. rest-full s.script s.shape (drop (place + 1) s.script.commands) (place + 1) (playing_of true new) refl))
