-- What had happened is a beginning of what has.
use Rattle.std.proofs.Common.{◌≡◌, List, [], ◌∷◌, ◌++◌, reverse, sym, subst}
use Rattle.std.proofs.lemmas.Grind.{reverse_onto}
use Rattle.std.proofs.lemmas.List.{reverse-reverse}
use mathlib.Core.List.{IsPrefix, append-nil}
use Rattle.jc_types.specs.declared.actions.Script.{Script}
use Rattle.jc_types.specs.declared.runs.Event.{Event}
use Rattle.jc_types.specs.declared.runs.Past.{Past}
use Rattle.jc_types.specs.declared.runs.Shape.{Shape}
use Rattle.jc_runs.specs.Seen.{Seen, happened, past_seen}
use Rattle.jc_seats.specs.Names.{IsOfName, named_seen}

-- A history grows at its end.
pub grown : (s : Seen) (event : Event) → reverse (happened s event).pasts ≡ reverse s.pasts ++ past_seen s event ∷ []
grown s event = reverse_onto s.pasts (past_seen s event) []

-- Each history begins with itself.
pub same : (xs : List Past) → IsPrefix xs xs
same xs = ([], append-nil xs)

-- A cluster of the name is told by its history.
pub named : (script : Script) (shape : Shape) (s : Seen) → IsOfName script shape s → named_seen script shape (reverse s.pasts) ≡ s
named script shape s n = λ i. record { script = sym n.script_is i; shape = sym n.shape_is i; pasts = reverse-reverse s.pasts i }

-- So it is where nothing has happened.
pub same_begins : (old new : Seen) → new ≡ old → IsPrefix (reverse old.pasts) (reverse new.pasts)
same_begins old new e = subst (λ (s : Seen). IsPrefix (reverse old.pasts) (reverse s.pasts)) (sym e) (same (reverse old.pasts))

-- So it is where one event has.
pub happened_begins : (old new : Seen) (event : Event) → new ≡ happened old event → IsPrefix (reverse old.pasts) (reverse new.pasts)
happened_begins old new event e = subst (λ (s : Seen). IsPrefix (reverse old.pasts) (reverse s.pasts)) (sym e) (past_seen old event ∷ [], sym (grown old event))
