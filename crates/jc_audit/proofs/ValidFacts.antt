-- A proper act of a command is valid.
use Rattle.std.proofs.Common.{◌≢◌, ◌≤◌, List, [], length, subst, arith}
use Rattle.jc_runs.specs.ValidActions.{IsValidAction}
use Rattle.jc_types.specs.declared.actions.Action1.{Action1}
use Rattle.jc_types.specs.declared.actions.Action1.TheVariants as act
use Rattle.jc_types.specs.declared.actions.End.{End}
use Rattle.jc_reading.specs.Proper.{IsProperAction}
use Rattle.jc_reading.proofs.ValidFacts.{spec_valid}

some_ends : (ends : List End) → 1 ≤ length ends → ends ≢ []
some_ends ends some none = let few : 1 ≤ 0 = subst (λ (es : List End). 1 ≤ length es) none some in omega (arith, few)

pub proper_is_valid : (action : Action1) → IsProperAction action → IsValidAction action
proper_is_valid (act.Create key spec) proper = spec_valid key spec proper.0 proper.1
proper_is_valid (act.Update key version change) proper = tt
proper_is_valid (act.Delete key) proper = tt
proper_is_valid (act.Mark pod) proper = tt
proper_is_valid (act.Strip pod) proper = tt
proper_is_valid (act.Finish pod exit) proper = tt
proper_is_valid (act.Report pod change) proper = tt
proper_is_valid (act.Fate key ends) proper = some_ends ends proper.1.some
proper_is_valid (act.Clock add) proper = tt
proper_is_valid (act.List controller kind) proper = tt
proper_is_valid (act.Deliver controller kind) proper = tt
proper_is_valid (act.Begin controller worker) proper = tt
proper_is_valid (act.Sync controller worker) proper = tt
proper_is_valid (act.Step controller worker) proper = tt
proper_is_valid act.Node proper = tt
proper_is_valid (act.Restart controller) proper = tt
proper_is_valid (act.PutFault controller worker fault) proper = tt
proper_is_valid act.Settle proper = tt
