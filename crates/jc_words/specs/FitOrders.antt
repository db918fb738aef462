-- What is within the bounds.
--     IsFitShape shape                   the members of a shape are
--     IsFitOrder order                   what the words ask for is
use Rattle.std.specs.Prelude.{ℕ, ◌<◌, ◌≤◌, ◌^◌}
use Rattle.jc_types.specs.declared.runs.Shape.{Shape}
use Rattle.jc_words.specs.Words.{most_threads}
use Rattle.jc_words.specs.declared.words.Order.{Order}
use Rattle.jc_words.specs.declared.words.Order.TheVariants.{Run, Reap, Audit, Generate}

pub record IsFitShape (shape : Shape) : Type 0 where
  pub some_controllers : 1 ≤ shape.controllers
  pub few_controllers : shape.controllers ≤ 4
  pub some_workers : 1 ≤ shape.workers
  pub few_workers : shape.workers ≤ 16
  pub some_window : 1 ≤ shape.window
  pub small_window : shape.window ≤ 200000
  pub some_events : 1 ≤ shape.events
  pub few_events : shape.events ≤ 200000

-- Few threads, and a shape that is fit.
pub record IsFitRun (threads : ℕ) (shape : Shape) : Type 0 where
  pub few_threads : threads ≤ most_threads
  pub shape_fits : IsFitShape shape

-- A number of 32 bits, 1 to 100 Jobs, 1 to 20 pods.
pub record IsFitGenerate (number jobs pods : ℕ) : Type 0 where
  pub small_number : number < 2 ^ 32
  pub some_jobs : 1 ≤ jobs
  pub few_jobs : jobs ≤ 100
  pub some_pods : 1 ≤ pods
  pub few_pods : pods ≤ 20

abbrev pub IsFitOrder : Order → Type 0
IsFitOrder (Run threads lock shape) = IsFitRun threads shape
IsFitOrder (Reap shape) = IsFitShape shape
IsFitOrder (Audit shape) = IsFitShape shape
IsFitOrder (Generate number jobs pods) = IsFitGenerate number jobs pods
