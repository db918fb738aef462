pub mod Schedules
pub mod ControllerCalls
-- The words of caches and queues, handed on to the crates above.
pub use Rattle.jc_cache.specs.Caches
pub use Rattle.jc_queue.specs.Delayed
pub use Rattle.jc_queue.specs.Queued
