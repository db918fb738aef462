pub mod SettleTurns
