-- When an event may come next, in the words of the code.
use Rattle.std.proofs.Common.{◌≡◌, Bool, not, ◌||◌, List, reverse, refl, sym, subst}
use Rattle.std.specs.Prelude.{◌↔◌, IsTrue}
use Rattle.jc_log.specs.Acts as does
use Rattle.jc_log.specs.Acts.{Act}
use Rattle.jc_types.specs.declared.actions.Script.{Script}
use Rattle.jc_types.specs.declared.runs.Event.{Event}
use Rattle.jc_types.specs.declared.runs.Past.{Past}
use Rattle.jc_types.specs.declared.runs.Shape.{Shape}
use Rattle.jc_log.specs.Deeds.{act_of_event}
use Rattle.jc_history.specs.Available.{is_quiescent}
use Rattle.jc_history.specs.Legal.{ComesNext, MaySettle}
use Rattle.jc_runs.specs.Seen.{Admits, Seen, act_seen, deeds_seen, log_seen}
use Rattle.jc_machine.specs.ShapeFits.{FitsShape}
use Rattle.jc_machine.specs.Idle.{is_settle}
use Rattle.jc_machine.proofs.Closing.{view_of}

-- A settle waits until nothing is available.
pub settles_when : (act : Act) (settles rests quiet : Bool) → settles ≡ is_settle act → rests ≡ quiet → IsTrue (not settles || rests) ↔ MaySettle act quiet
settles_when act settles rests quiet s r = subst (λ s. IsTrue (not s || rests) ↔ MaySettle act quiet) (sym s) (subst (λ q. IsTrue (not (is_settle act) || rests) ↔ MaySettle act q) r (by act))
  where
    by : (act : Act) → IsTrue (not (is_settle act) || rests) ↔ MaySettle act rests
    by does.Settle = (λ t. t, λ t. t)
    by other = (λ t. tt, λ t. refl)

module _ (script : Script) (shape : Shape) (items : List Past) (seen : Seen) (view : view_of script shape items ≡ seen) (event : Event) where
  pub admitted : ComesNext script.commands (reverse items) event → FitsShape shape (act_of_event script.commands event) → MaySettle (act_seen seen event) (is_quiescent seen.shape (deeds_seen seen) (log_seen seen)) → Admits seen event
  admitted comes fits rests = subst (λ (s : Seen). Admits s event) view (record {
    next = comes;
    within = fits.0;
    settled = subst (λ (s : Seen). MaySettle (act_seen s event) (is_quiescent s.shape (deeds_seen s) (log_seen s))) (sym view) rests;
    doable = fits.1;
  })

  pub comes_next : Admits seen event → ComesNext script.commands (reverse items) event
  comes_next admits = subst (λ (s : Seen). ComesNext s.script.commands s.pasts event) (sym view) admits.next

  pub fits_shape : Admits seen event → FitsShape shape (act_of_event script.commands event)
  fits_shape admits = subst (λ (s : Seen). FitsShape s.shape (act_seen s event)) (sym view) (admits.within, admits.doable)
