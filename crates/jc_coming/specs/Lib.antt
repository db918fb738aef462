pub mod Drafts
pub mod Moments
