-- What the machine does on its shape.
--     HasController, HasWorker     the controller, and its worker, are of the shape
--     FitsShape shape act          so are those of the act, and the machine does it
use Rattle.std.specs.Prelude.{ℕ, ◌<◌}
use Rattle.jc_types.specs.declared.runs.Shape.{Shape}
use Rattle.jc_log.specs.Acts.{Act}
use Rattle.jc_history.specs.Legal.{IsOfShape}
use Rattle.jc_runs.specs.Seen.{IsDoable}

-- The controller is one of the shape.
abbrev pub HasController : Shape → ℕ → Type 0
HasController shape controller = controller < shape.controllers

-- The controller and its worker are of the shape.
abbrev pub HasWorker : Shape → ℕ → ℕ → Type 0
HasWorker shape controller worker = (controller < shape.controllers) × (worker < shape.workers)

-- The controller and the worker of the act are of the shape, and the machine does it.
abbrev pub FitsShape : Shape → Act → Type 0
FitsShape shape act = IsOfShape shape act × IsDoable act
