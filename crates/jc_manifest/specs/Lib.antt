pub mod UpdateFaults
pub mod IndexLimits
pub mod Limits
pub mod Manifests
pub mod Metadata
-- The words of policies, handed on to the crates above.
pub use Rattle.jc_policies.specs.FailurePolicies
pub use Rattle.jc_policies.specs.IndexSets
pub use Rattle.jc_policies.specs.SuccessPolicies
