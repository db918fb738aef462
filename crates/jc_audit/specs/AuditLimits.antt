-- What the audit asks of the numbers of a shape.
--     IsSmallShape shape     each controller, each worker and each number of an event stands in a line that can be read
use Rattle.std.specs.Prelude.{◌≤◌}
use Rattle.jc_types.specs.declared.runs.Shape.{Shape}

pub record IsSmallShape (shape : Shape) : Type 0 where
  pub few_controllers : shape.controllers ≤ 4
  pub few_workers : shape.workers ≤ 16
  pub few_events : shape.events ≤ 200000
