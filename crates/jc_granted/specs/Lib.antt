pub mod Granted
pub mod Ready
pub mod SyncsDone
