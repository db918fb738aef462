-- A machine that settles.
use Rattle.std.proofs.Common.{◌≡◌, ℕ, List, [], ◌∷◌, ◌++◌, append_assoc, ◌-◌, ◌<◌, ◌≤◌, nat_lt, Bool, true, false, length, Option, Some, None, refl, sym, ap, ◌∙◌, subst, arith, ltb-true, ltb-false}
use Rattle.std.specs.Prelude.{Result, Ok, Err}
use Rattle.jc_types.specs.declared.runs.Event.{Event}
use Rattle.jc_types.specs.declared.actions.Script.{Script}
use Rattle.jc_types.specs.declared.runs.Past.{Past}
use Rattle.jc_types.specs.declared.runs.Shape.{Shape}
use Rattle.jc_history.specs.Available.{IsOrderly}
use Rattle.jc_history.specs.Play.{Playing, until_done}
use Rattle.jc_runs.specs.Seen.{Seen, deeds_seen, happened, past_seen}
use Rattle.jc_play.specs.Turns.{HasGoneOn, HasGrown, IsComing, Reaches, playing_of}
use Rattle.jc_machine.specs.declared.apply.ApplyFault.{ApplyFault}
use Rattle.jc_machine.specs.declared.apply.ApplyFault.TheVariants.{HistoryFull}
use Rattle.jc_play.proofs.OnFacts.{all-done, all-full, none-yet, one-more}
use Rattle.jc_play.proofs.SystemFacts.{coming-orderly}

-- What answers `Ok` answers no error.
pub ok-err : {A E : Type 0} (x : A) (y : E) → Ok x ≡ Err y → ⊥
ok-err x y e = cc

-- There is room where it is not so that there is none.
pub room-left : (a b : ℕ) → (b ≤ a → ⊥) → a < b
room-left a b not_full = by (nat_lt a b) refl
  where
    by : (c : Bool) → nat_lt a b ≡ c → a < b
    by true s = ltb-true a b s
    by false s = absurd (not_full (ltb-false a b s))

-- One more event leaves less room.
pub less-room : (s new : Seen) (event : Event) → new ≡ happened s event → length s.pasts < s.shape.events → new.shape.events - length new.pasts < s.shape.events - length s.pasts
less-room s new event e lt = subst (λ (n : Seen). n.shape.events - length n.pasts < s.shape.events - length s.pasts) (sym e) (omega (arith, lt))

-- Nothing has come.
pub none-grown : (old : Seen) → HasGrown old old
none-grown old = record { script = refl; shape = refl; more = []; pasts = refl; orderly = λ o. o }

-- More has come.
pub grown-on : (old s new : Seen) → HasGrown old s → (more : List Past) → new.script ≡ s.script → new.shape ≡ s.shape → new.pasts ≡ more ++ s.pasts → (IsOrderly s.shape (deeds_seen s) → IsOrderly new.shape (deeds_seen new)) → HasGrown old new
grown-on old s new h more script shape pasts orderly = record {
  script = script ∙ h.script;
  shape = shape ∙ h.shape;
  more = more ++ h.more;
  pasts = pasts ∙ ap (λ (l : List Past). more ++ l) h.pasts ∙ sym (append_assoc more h.more old.pasts);
  orderly = λ o. orderly (h.orderly o);
}

-- The one after the other.
pub grown-then : (old s new : Seen) → HasGrown old s → HasGrown s new → HasGrown old new
grown-then old s new h g = grown-on old s new h g.more g.script g.shape g.pasts g.orderly

-- So far a loop has come.
pub done-reaches : (q : Playing) (new : Seen) → q ≡ playing_of false new → Reaches (Ok tt) q new
done-reaches q new e = record { done = e; full = λ h. absurd (ok-err tt HistoryFull h); history_full = λ h. absurd (ok-err tt HistoryFull h) }

-- The answer that is an error.
abbrev pub stop : ApplyFault → Result (Unit {0}) ApplyFault
stop e = Err e

-- It has stopped.
pub stop-reaches : (r : Result (Unit {0}) ApplyFault) (e : ApplyFault) (q : Playing) (new : Seen) → r ≡ stop e → (stop e ≡ stop HistoryFull → (q ≡ playing_of true new) × (new.shape.events ≤ length new.pasts)) → Reaches r q new
stop-reaches r e q new is f = subst (λ r. Reaches r q new) (sym is) (record { done = tt; full = λ h. (f h).0; history_full = λ h. (f h).1 })

-- A later part stops where the one before it has.
pub stopped : (r : Result (Unit {0}) ApplyFault) (e : ApplyFault) (q : Playing) (s : Seen) (g : Playing → Playing) → r ≡ stop e → Reaches (stop e) q s → (s.shape.events ≤ length s.pasts → g (playing_of true s) ≡ playing_of true s) → Reaches r (g q) s
stopped r e q s g is h stays = stop-reaches r e (g q) s is (λ f. (ap g (h.full f) ∙ stays (h.history_full f), h.history_full f))

-- It goes on where that is done.
pub continued : (r : Result (Unit {0}) ApplyFault) (q : Playing) (s new : Seen) (g : Playing → Playing) → Reaches r (g (playing_of false s)) new → q ≡ playing_of false s → Reaches r (g q) new
continued r q s new g h e = subst (λ q. Reaches r (g q) new) (sym e) h

module _ (next : Script → Shape → Playing → Option Event) where
  -- What came next has come, one after the other, and it was available.
  pub record IsGoing (old s : Seen) : Type 0 where
    pub kept : HasGoneOn (next old.script old.shape) old s
    pub grown : HasGrown old s

  -- Nothing has come.
  pub started : (old : Seen) → IsGoing old old
  started old = record { kept = none-yet old (next old.script old.shape); grown = none-grown old }

  module _ (old s : Seen) (h : IsGoing old s) where
    -- What comes next, in the script and the shape of either.
    next-is : next old.script old.shape (playing_of false s) ≡ next s.script s.shape (playing_of false s)
    next-is = ap (λ script. next script old.shape (playing_of false s)) (sym h.kept.script) ∙ ap (λ shape. next s.script shape (playing_of false s)) (sym h.kept.shape)

    -- One more comes.
    pub goes-on : (new : Seen) (event : Event) → next s.script s.shape (playing_of false s) ≡ Some event → IsComing s event → length s.pasts < s.shape.events → new ≡ happened s event → IsGoing old new
    goes-on new event first coming lt e = subst (IsGoing old) (sym e) (record {
      kept = one-more old (next old.script old.shape) s h.kept event coming.system coming.is (next-is ∙ first) lt;
      grown = grown-on old s (happened s event) h.grown (past_seen s event ∷ []) refl refl refl (coming-orderly s event coming);
    })

    -- Nothing is next.
    pub settles : next s.script s.shape (playing_of false s) ≡ None → until_done old.script old.shape (next old.script old.shape) (playing_of false old) ≡ playing_of false s
    settles none = all-done old (next old.script old.shape) s h.kept (next-is ∙ none)

    -- One is next and has no room.
    pub has-no-room : (event : Event) → next s.script s.shape (playing_of false s) ≡ Some event → s.shape.events ≤ length s.pasts → until_done old.script old.shape (next old.script old.shape) (playing_of false old) ≡ playing_of true s
    has-no-room event first le = all-full old (next old.script old.shape) s h.kept event (next-is ∙ first) le
