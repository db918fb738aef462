pub mod Tables
pub mod Log
pub mod PlainReadings
pub mod Writes
pub mod Requests
pub mod Acts
pub mod Deeds
pub mod StoredAnswers
-- The bounds of moments and indexes, handed on to the crates above.
pub use Rattle.jc_moment.specs.Range
pub use Rattle.jc_ranges.specs.declared.bounds.TheConstants
