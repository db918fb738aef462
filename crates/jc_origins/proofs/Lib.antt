pub mod OriginFacts
