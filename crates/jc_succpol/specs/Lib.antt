pub mod SuccessRules
