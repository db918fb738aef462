-- What a report needs of a history: each of its commands has a place in the script.
use Rattle.std.proofs.Common.{◌≡◌, ℕ, zero, suc, ◌+◌, ◌==◌, Bool, true, false, cond, List, [], ◌∷◌, reverse, slice_get, Some, is_some, refl, ap, sym, subst, arith, eqb-true, true≢false}
use Rattle.std.specs.List.{AllByRecursion as Each}
use Rattle.std.specs.List.Sorted.{IsPermutation}
use Rattle.std.specs.Option.{unwrap_or}
use Rattle.std.proofs.lemmas.List.Elements.{All-from_recursion}
use Rattle.std.proofs.lemmas.List.Sorted.{All-permutation, IsPermutation-reverse, IsPermutation-sym}
use Rattle.std.proofs.lemmas.Option.{slice_get_within as within}
use Rattle.jc_types.specs.declared.actions.Command.{Command}
use Rattle.jc_types.specs.declared.actions.Script.{Script}
use Rattle.jc_types.specs.declared.runs.Event.{Event}
use Rattle.jc_types.specs.declared.runs.Event.TheVariants as event
use Rattle.jc_types.specs.declared.runs.History.{History}
use Rattle.jc_types.specs.declared.runs.Past.{Past}
use Rattle.jc_history.specs.Legal.{ComesNext, InLanes, lane_count, lane_places, places_from}
use Rattle.jc_verdicts.specs.Verdicts.{IsNumbered, IsPlace}

-- ---- places of lanes

-- A command of the script at that place, and its lane.
pub record IsAt (commands : List Command) (lane n : ℕ) : Type 0 where
  pub command : Command
  pub found : slice_get commands n ≡ Some command
  pub of_lane : command.lane ≡ lane

-- The place of a lane is that of a command of the lane.
module _ (lane : ℕ) where
  -- The places from one on, of the commands from there on.
  at_place : (p : ℕ) (cs : List Command) (k n : ℕ) → slice_get (places_from lane p cs) k ≡ Some n → (m : ℕ) × (n ≡ p + m) × IsAt cs lane m
  at_place p [] k n e = absurd (true≢false (sym (ap is_some e)))
  at_place p (c ∷ cs) k n e = by (λ k e. at_place (p + 1) cs k n e) (c.lane == lane) refl k e
    where
      next : (m : ℕ) × (n ≡ p + 1 + m) × IsAt cs lane m → (m : ℕ) × (n ≡ p + m) × IsAt (c ∷ cs) lane m
      next t = let far = t.1 in (suc t.0, omega (arith, far), record { command = t.2.command; found = t.2.found; of_lane = t.2.of_lane })

      by : ((k : ℕ) → slice_get (places_from lane (p + 1) cs) k ≡ Some n → (m : ℕ) × (n ≡ p + 1 + m) × IsAt cs lane m) → (b : Bool) → (c.lane == lane) ≡ b → (k : ℕ)
          → slice_get (cond b (p ∷ places_from lane (p + 1) cs) (places_from lane (p + 1) cs)) k ≡ Some n → (m : ℕ) × (n ≡ p + m) × IsAt (c ∷ cs) lane m
      by ih true same zero e = let f = ap (λ o. unwrap_or o n) e in (0, omega (arith, f), record { command = c; found = refl; of_lane = eqb-true c.lane lane same })
      by ih true same (suc k) e = next (ih k e)
      by ih false same k e = next (ih k e)

pub lane_at : (lane : ℕ) (cs : List Command) (k n : ℕ) → slice_get (lane_places lane cs) k ≡ Some n → IsAt cs lane n
lane_at lane cs k n e =
    let t = at_place lane 0 cs k n e in
    let far = t.1 in
    let same : t.0 ≡ n = omega (arith, far) in
    subst (IsAt cs lane) same t.2

-- ---- places of histories

pub has_place : (script : Script) (before : List Past) (e : Event) → ComesNext script.commands before e → IsPlace script.commands e
has_place script before (event.Command lane number) next =
    let at = lane_at lane script.commands (lane_count lane before) number next in within script.commands number at.command at.found
has_place script before (event.System s) next = tt

are_places : (script : Script) (pasts : List Past) → InLanes script.commands pasts → Each (λ (past : Past). IsPlace script.commands past.event) pasts
are_places script [] h = tt
are_places script (past ∷ before) h = (has_place script before past.event h.0, are_places script before h.1)

-- The commands of a history whose lanes are in order are numbered as the script numbers them.
pub numbered : (script : Script) (history : History) (pasts : List Past) → InLanes script.commands pasts → reverse history.events.items ≡ pasts → IsNumbered script history
numbered script history pasts lanes e =
    let items = history.events.items in
    let P = λ (past : Past). IsPlace script.commands past.event in
    All-permutation P pasts items
    (subst (λ l. IsPermutation l items) e (IsPermutation-sym items (reverse items) (IsPermutation-reverse items)))
    (All-from_recursion P pasts (are_places script pasts lanes))
