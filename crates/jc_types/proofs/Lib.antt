pub mod KeyFacts
pub mod ListFacts
pub mod EqualityFacts
pub mod ObjectEqualityFacts
pub mod FirstPlaceFacts
pub mod PieceFacts
pub mod WeightFacts
pub mod LetterFacts
