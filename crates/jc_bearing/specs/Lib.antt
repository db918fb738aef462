pub mod Whole
pub mod AtMost
pub mod Served
