pub mod Syncs
pub mod Ledger
pub mod Once
pub mod Flights
pub mod Tied
pub mod EventKinds
pub mod LawRuns
