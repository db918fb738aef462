pub mod KeptFacts
pub mod TargetFacts
pub mod UnmadeFacts
pub mod CountedFacts
pub mod PolicyFacts
