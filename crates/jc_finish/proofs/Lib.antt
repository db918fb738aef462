pub mod DecisionFacts
pub mod SettledFacts
