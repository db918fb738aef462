pub mod EndedFacts
pub mod OutcomeFacts
pub mod Settled
pub mod RuleFacts
