pub mod Failures
pub mod FillingSteps
