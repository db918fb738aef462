pub mod Faults
pub mod Moved
pub mod Plan
pub mod Memory
