pub mod Calendar
pub mod Civil
pub mod Every
pub mod Range
pub mod Spelled
