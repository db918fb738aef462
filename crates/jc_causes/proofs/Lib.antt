pub mod CauseFacts
pub mod StepFacts
