pub mod MarkRules
pub mod Views
