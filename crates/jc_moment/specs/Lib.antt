pub mod Calendar
pub mod Digits
pub mod Range
pub mod Text
