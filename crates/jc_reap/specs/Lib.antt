pub mod Expiries
pub mod Finds
pub mod ReapedCommands
pub mod Makers
pub mod Reaping
pub mod TtlLines
