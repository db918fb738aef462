pub mod AuditLimits
pub mod Tails
pub mod Walks
pub mod Clocks
pub mod Audits
pub mod Reported
-- Words of the crates below, handed on to those above.
pub use Rattle.jc_reading.specs.Allowed
pub use Rattle.jc_reading.specs.Proper
