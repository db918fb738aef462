pub mod Started
pub mod RepliesAgain
-- Words of the crates below, handed on to those above.
pub use Rattle.jc_control.specs.ControllerCalls
pub use Rattle.jc_queue.specs.Delayed
pub use Rattle.jc_control.specs.Schedules
