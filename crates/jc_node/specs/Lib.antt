pub mod Fated
pub mod NodeSteps
