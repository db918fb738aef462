pub mod Rules
pub mod Outcomes
pub mod Policies
pub mod FailJob
