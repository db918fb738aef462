-- Seconds that pass of themselves.
--     IsClock system      the event of the system is the clock's
--     FitsClock seen      no event of the clock that can come has seconds that 64 bits do not hold
use Rattle.std.specs.Prelude.{ℕ, ◌<◌, ◌^◌}
use Rattle.jc_types.specs.declared.runs.Event.TheVariants.{System}
use Rattle.jc_types.specs.declared.runs.Sys.{Sys}
use Rattle.jc_types.specs.declared.runs.Sys.TheVariants as sys
use Rattle.jc_runs.specs.Seen.{Seen}
use Rattle.jc_play.specs.Actors.{CanCome}

abbrev pub IsClock : Sys → Type 0
IsClock (sys.Clock add) = Unit {0}
IsClock other = ⊥

abbrev pub FitsClock : Seen → Type 0
FitsClock seen = (add : ℕ) → CanCome seen (System (sys.Clock add)) → add < 2 ^ 64
