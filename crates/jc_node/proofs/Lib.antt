mod ChangeFacts
mod FateFacts
mod NextFacts
pub mod LawFacts
