-- What a turn of a player leaves.
use Rattle.std.proofs.Common.{◌≡◌, reverse, refl, ap, Ok, Err}
use Rattle.std.specs.Prelude.{IfOk, OnErr, Result}
use mathlib.Core.List.{IsPrefix}
use Rattle.jc_types.specs.declared.runs.Event.{Event}
use Rattle.jc_core.specs.ApplyFault.{ApplyFault}
use Rattle.jc_core.specs.Shared.{Shared}
use Rattle.jc_seats.specs.PlayerTurns.{HasHappened}
use Rattle.jc_core.specs.declared.holding.Work.{Work}
use Rattle.jc_seats.specs.declared.next_action.NextAction.{NextAction}
use Rattle.jc_seats.specs.declared.next_action.NextAction.TheVariants as next
use Rattle.jc_seats.proofs.Beginnings.{happened_begins, same_begins}

-- a turn of a player leaves a history that begins with the one that was there
pub turn_begins : (old new : Shared) (r : Result (NextAction Work) ApplyFault) (F : Work → Type 0) (O : Event → Type 0) (W E : Type 0) → ((w : Work) → F w → new.seen ≡ old.seen) → (W → new ≡ old) → (E → new ≡ old)
    → IfOk r (λ t. (w : Work) → t ≡ next.Plan w → F w)
    → IfOk r (λ t. t ≡ next.Went → (event : Event) × HasHappened event old new × O event)
    → IfOk r (λ t. t ≡ next.Wait → W)
    → IfOk r (λ t. t ≡ next.End → E)
    → OnErr r (new ≡ old)
    → IsPrefix (reverse old.seen.pasts) (reverse new.seen.pasts)
turn_begins old new (Ok (next.Plan w)) F O W E f w' e plan went waits ends kept = same_begins old.seen new.seen (f w (plan w refl))
turn_begins old new (Ok next.Went) F O W E f w' e plan went waits ends kept = let h = went refl in happened_begins old.seen new.seen h.0 h.1.seen
turn_begins old new (Ok next.Wait) F O W E f w' e plan went waits ends kept = same_begins old.seen new.seen (ap (λ (s : Shared). s.seen) (w' (waits refl)))
turn_begins old new (Ok next.End) F O W E f w' e plan went waits ends kept = same_begins old.seen new.seen (ap (λ (s : Shared). s.seen) (e (ends refl)))
turn_begins old new (Err x) F O W E f w' e plan went waits ends kept = same_begins old.seen new.seen (ap (λ (s : Shared). s.seen) kept)
