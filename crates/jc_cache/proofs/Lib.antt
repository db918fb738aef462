pub mod CacheFacts
mod ChangeFacts
pub mod CopyFacts
mod ListedFacts
