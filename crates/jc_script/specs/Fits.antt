-- What a command may name of a shape.
--     NamesShape shape action     the controller and the worker that the action names are of the shape
use Rattle.std.specs.Prelude.{◌<◌}
use Rattle.jc_types.specs.declared.actions.Action1.{Action1}
use Rattle.jc_types.specs.declared.actions.Action1.TheVariants as action
use Rattle.jc_types.specs.declared.runs.Shape.{Shape}

abbrev pub NamesShape : Shape → Action1 → Type 0
NamesShape shape (action.List controller kind) = controller < shape.controllers
NamesShape shape (action.Deliver controller kind) = controller < shape.controllers
NamesShape shape (action.Begin controller worker) =
    (controller < shape.controllers) × (worker < shape.workers)
NamesShape shape (action.Sync controller worker) =
    (controller < shape.controllers) × (worker < shape.workers)
NamesShape shape (action.Step controller worker) =
    (controller < shape.controllers) × (worker < shape.workers)
NamesShape shape (action.Restart controller) = controller < shape.controllers
NamesShape shape (action.PutFault controller worker fault) =
    (controller < shape.controllers) × (worker < shape.workers)
NamesShape shape other = Unit {0}
