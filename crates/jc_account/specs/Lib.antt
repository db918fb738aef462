pub mod Rooms
pub mod Judged
pub mod Judgements
pub mod Modes
pub mod Accounts
