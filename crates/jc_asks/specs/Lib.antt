pub mod Asks
pub mod Readings
pub mod Steps
pub mod Sends
