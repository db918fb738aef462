pub mod AheadFacts
pub mod LineFacts
pub mod SendFacts
