-- From a calm state a settle goes on by turns.
use Rattle.std.proofs.Common.{◌≡◌, ℕ, ◌+◌, ◌-◌, ◌<◌, List, ◌∷◌, Some, sym, ap, ◌∙◌}
use Rattle.jc_types.specs.declared.runs.Shape.{Shape}
use Rattle.jc_control.specs.Schedules.{log_end}
use Rattle.jc_log.specs.Acts as does
use Rattle.jc_log.specs.Deeds.{Deed}
use Rattle.jc_log.specs.Range.{IsMoment}
use Rattle.jc_history.specs.Available.{least_of_all}
use Rattle.jc_history.specs.Diaries.{moment}
use Rattle.jc_history.specs.Legal.{IsLegal, IsLegalNext}
use Rattle.jc_history.specs.Notes.{Ticked}
use Rattle.jc_history.specs.Numbers.{number}
use Rattle.jc_history.specs.Registers.{pending, register}
use Rattle.jc_history.specs.Replies.{diary, log_given}
use Rattle.jc_settle.specs.Comes.{HaveNoKeys}
use Rattle.jc_settle.specs.Settles.{IsCalm, next_of_settle}
use Rattle.jc_settle.proofs.ClockFacts.{ticked-notes, ticked-nothing, ticked-now, ticked-reply}
use Rattle.jc_settle.proofs.OnFacts.{next-legal}
use Rattle.jc_calm.specs.SettleTurns.{ClockMoves, MovesTheClock, NodeActs, Rests, Turn}
use Rattle.jc_calm.proofs.FirstFacts.{Clocks, First, Nodes, Opens, Quiet, first-where-calm}
use Rattle.jc_calm.proofs.NowFacts.{faults-most}
use Rattle.jc_calm.proofs.TurnFacts.{begins-turn}

module _ (shape : Shape) (past : List Deed) (some : 0 < shape.workers) (start : IsMoment shape.start) (legal : IsLegal shape past) (calm : IsCalm shape past) where
  clock-moves : (d : Deed) (due : ℕ) → next_of_settle shape past ≡ Some d → d.act ≡ does.Clock (due - moment shape past)
      → least_of_all shape past (log_given shape past) ≡ Some due → HaveNoKeys shape past (log_given shape past)
      → MovesTheClock shape past d due
  clock-moves d due e a least none = record {
    next = e;
    act = a;
    least = least;
    lines = none;
    reply = ticked-reply shape past legal start d next due a least;
    now_is = ticked-now shape past legal start d next due a least;
    log_is = same;
    notes = notes;
    calm = record {
      caches = λ c lt kind. ap (number kind) (notes c) ∙ calm.caches c lt kind ∙ ap (λ log. Some (log_end log)) (sym same);
      free = λ c lt w less. ap (register w) (notes c) ∙ calm.free c lt w less;
    };
    faults = faults-most shape past (d ∷ past) (λ c w. ap (pending w) (notes c));
  }
    where
      next : IsLegalNext shape past d
      next = next-legal shape past d e

      same : log_given shape (d ∷ past) ≡ log_given shape past
      same = ticked-nothing shape past legal start d next due a least

      notes : (c : ℕ) → diary shape c (d ∷ past) ≡ Ticked (moment shape past + (due - moment shape past)) ∷ diary shape c past
      notes c = ticked-notes shape past legal start d next due a least c

  pub goes-on : Turn shape past
  goes-on = by (first-where-calm shape some past legal calm)
    where
      by : First shape past → Turn shape past
      by (Quiet rests) = Rests rests
      by (Nodes d e a) = NodeActs d e a
      by (Clocks d due e a least none) = ClockMoves d due (clock-moves d due e a least none)
      by (Opens d c w k rest e lt less a first) = begins-turn shape some past legal calm d c w k rest e lt less a first
