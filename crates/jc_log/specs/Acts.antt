-- What an event of a history does, in the words of a script's commands.
--     Act     one act: a command's, or that of an event which the system makes of itself
use Rattle.std.specs.Prelude.{ℕ, ℤ, List as Items, Option}
use Rattle.jc_types.specs.declared.actions.End.{End}
use Rattle.jc_types.specs.declared.actions.Fault.{Fault}
use Rattle.jc_types.specs.declared.actions.PhaseChange.{PhaseChange}
use Rattle.jc_types.specs.declared.actions.SpecChange.{SpecChange}
use Rattle.jc_types.specs.declared.numbers.Uid.{Uid}
use Rattle.jc_types.specs.declared.numbers.Version.{Version}
use Rattle.jc_types.specs.declared.objects.KeyNames.{KeyNames as Key}
use Rattle.jc_types.specs.declared.objects.Kind.{Kind}
use Rattle.jc_types.specs.declared.specifications.JobSpec.{JobSpec}

-- What an event does. `Unknown` stands for a command that the script does not have.
pub data Act : Type 0 where
  Create : Key → JobSpec → Act
  Update : Key → Option Version → SpecChange → Act
  Delete : Key → Act
  Mark : Uid → Act
  Strip : Uid → Act
  Finish : Uid → ℤ → Act
  Report : Uid → PhaseChange → Act
  Fate : Key → Items End → Act
  Clock : ℕ → Act
  List : ℕ → Kind → Act
  Deliver : ℕ → Kind → Act
  Begin : ℕ → ℕ → Act
  Step : ℕ → ℕ → Act
  Node : Act
  Restart : ℕ → Act
  PutFault : ℕ → ℕ → Fault → Act
  Settle : Act
  Unknown : Act
