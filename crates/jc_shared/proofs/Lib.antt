pub mod LeftFacts
mod SeenFacts
