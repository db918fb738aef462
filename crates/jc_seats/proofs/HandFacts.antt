-- What a seat knows of its work when it hands in a plan.
use Rattle.std.proofs.Common.{◌≡◌, ℕ, ◌-◌, ◌+◌, List, ◌++◌, drop, length, reverse, Some, Ok, Err, sym, ap, ◌∙◌, subst, arith}
use Rattle.std.specs.Prelude.{IfOk, Result}
use Rattle.std.proofs.lemmas.List.{length-append, length-reverse, reverse-append, reverse-reverse}
use Rattle.std.proofs.Math.Seq.{drop-append_seam}
use mathlib.Core.List.{IsPrefix}
use Rattle.jc_types.specs.declared.actions.Script.{Script}
use Rattle.jc_types.specs.declared.runs.Past.{Past}
use Rattle.jc_types.specs.declared.runs.Shape.{Shape}
use Rattle.jc_runs.specs.Basis.{Basis}
use Rattle.jc_history.specs.Registers.{register}
use Rattle.jc_runs.specs.Seen.{Seen}
use Rattle.jc_core.specs.ApplyFault.{ApplyFault}
use Rattle.jc_core.specs.DiariesSeen.{diary_seen}
use Rattle.jc_core.specs.Shared.{Shared}
use Rattle.jc_core.specs.Since.{seen_at}
use Rattle.jc_core.specs.declared.holding.Work.{Work}
use Rattle.jc_seats.specs.Hands.{WasTaken}
use Rattle.jc_seats.specs.Names.{IsOfName}
use Rattle.jc_seats.specs.Names.{named_seen}
use Rattle.jc_seats.specs.PlayerTurns.{HasTakenPlan}
use Rattle.jc_seats.specs.declared.players.Player.{Player}
use Rattle.jc_seats.specs.declared.next_action.NextAction.{NextAction}
use Rattle.jc_seats.specs.declared.next_action.NextAction.TheVariants as next
use Rattle.jc_seats.proofs.Beginnings.{named}

module _ (script : Script) (shape : Shape) (seen : Seen) (of : IsOfName script shape seen) where
  -- What is taken now was taken when all had happened that has.
  pub taken-now : (work : Work) → register work.worker (diary_seen seen work.controller) ≡ Some work.basis
      → WasTaken script shape (reverse seen.pasts) work
  taken-now work e =
      subst (λ (s : Seen). register work.worker (diary_seen s work.controller) ≡ Some work.basis) (sym (named script shape seen of)) e

  -- Of a history that begins with these events, what was seen when it had so many.
  seen-then : (events : List Past) (n : ℕ) → IsPrefix events (reverse seen.pasts) → n ≡ length events
      → seen_at n seen ≡ named_seen script shape events
  seen-then events n begins count = λ i. record { script = of.script_is i; shape = of.shape_is i; pasts = pasts i }
    where
      split : seen.pasts ≡ reverse begins.0 ++ reverse events
      split = sym (reverse-reverse seen.pasts) ∙ ap reverse (sym begins.1) ∙ reverse-append events begins.0

      later : length seen.pasts - n ≡ length (reverse begins.0)
      later =
          let all : length seen.pasts ≡ length (reverse begins.0) + length (reverse events) = ap length split ∙ length-append (reverse begins.0) (reverse events) in
          let told : length (reverse events) ≡ length events = length-reverse events in
          omega (arith, all, told, count)

      pasts : drop (length seen.pasts - n) seen.pasts ≡ reverse events
      pasts =
          ap (λ k. drop k seen.pasts) later
          ∙ ap (drop (length (reverse begins.0))) split
          ∙ drop-append_seam (reverse begins.0) (reverse events)

  -- A plan of work that was taken then is of what the register's sync had begun with then.
  pub taken-then : (events : List Past) (n : ℕ) (work : Work) (basis : Basis) → IsPrefix events (reverse seen.pasts) → n ≡ length events
      → WasTaken script shape events work → basis ≡ work.basis
      → register work.worker (diary_seen (seen_at n seen) work.controller) ≡ Some basis
  taken-then events n work basis begins count taken same =
      ap (λ (s : Seen). register work.worker (diary_seen s work.controller)) (seen-then events n begins count)
      ∙ taken
      ∙ ap Some (sym same)

  -- So is each plan that was made of it.
  pub handed : {X E : Type 0} (basis_of : X → Basis) (events : List Past) (n : ℕ) (work : Work) (made : Result X E)
      → IsPrefix events (reverse seen.pasts) → n ≡ length events → WasTaken script shape events work
      → IfOk made (λ x. basis_of x ≡ work.basis)
      → IfOk made (λ x. register work.worker (diary_seen (seen_at n seen) work.controller) ≡ Some (basis_of x))
  handed basis_of events n work (Ok x) begins count taken same = taken-then events n work (basis_of x) begins count taken same
  handed basis_of events n work (Err e) begins count taken same = tt

-- Work that a turn gives was taken when all had happened that has.
pub taken-told : (script : Script) (shape : Shape) (old new : Shared) → IsOfName script shape old.seen
    → (events : List Past) → events ≡ reverse new.seen.pasts → (r : Result (NextAction Work) ApplyFault) (player : Player)
    → IfOk r (λ t. (w : Work) → t ≡ next.Plan w → HasTakenPlan player w old new)
    → IfOk r (λ t. (w : Work) → t ≡ next.Plan w → WasTaken script shape events w)
taken-told script shape old new of events at (Ok t) player told = λ w e.
    let p = told w e in
    subst (λ (xs : List Past). WasTaken script shape xs w) (sym at)
    (subst (λ (s : Seen). WasTaken script shape (reverse s.pasts) w) (sym p.seen) (taken-now script shape old.seen of w p.basis))
taken-told script shape old new of events at (Err x) player told = tt
