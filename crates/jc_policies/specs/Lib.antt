pub mod FailurePolicies
pub mod IndexSets
pub mod SuccessPolicies
