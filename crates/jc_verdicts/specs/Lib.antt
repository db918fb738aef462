pub mod ByUid
pub mod LogPlaces
pub mod Verdicts
pub mod Workers
pub mod SyncStarts
pub mod Books
