pub mod Caches
pub mod Changes
