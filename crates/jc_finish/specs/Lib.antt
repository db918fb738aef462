pub mod Starts
pub mod Decisions
pub mod Settled
