pub mod NowFacts
pub mod FirstFacts
pub mod StepFacts
pub mod PlanFacts
pub mod TurnFacts
pub mod GoFacts
