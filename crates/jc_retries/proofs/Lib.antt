pub mod Spending
pub mod OutcomeFacts
pub mod FailureFacts
pub mod IgnoredFacts
pub mod RetryPlans
pub mod RetryNodes
pub mod SuccessCounts
-- Lemmas of the crate below, handed on to those above.
pub use Rattle.jc_making.proofs.NodeSteps
