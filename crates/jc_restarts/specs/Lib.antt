pub mod Restarts
-- Words of the crates below, handed on to the crate above: on requests of a sync, queues, and what a controller notes.
pub use Rattle.jc_control.specs.ControllerCalls
pub use Rattle.jc_control.specs.Schedules
pub use Rattle.jc_history.specs.Lines
pub use Rattle.jc_history.specs.Notes
pub use Rattle.jc_sync.specs.Ask
pub use Rattle.jc_sync.specs.Asks
