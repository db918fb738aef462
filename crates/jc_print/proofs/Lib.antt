pub mod CleanMembers
mod Four
mod InOrder
pub mod NoFloats
pub mod Puts
mod Requirements
mod SpecMembers
pub mod Writing
