pub mod Digits
mod Given
mod Lines
pub mod PlaceFacts
mod Systems
pub mod Texts
