pub mod PrintedMembers
pub mod PrintedSpecs
pub mod PrintedStatuses
pub mod Puts
pub mod Tokens
