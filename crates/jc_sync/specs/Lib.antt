pub mod SyncPlaces
pub mod StepEffects
pub mod Leftovers
pub mod AllRegisters
pub mod Quiet
pub mod Plannable
-- Words of the crates below, handed on to those above.
pub use Rattle.jc_asks.specs.declared.asks.Ask
pub use Rattle.jc_asks.specs.Asks
pub use Rattle.jc_ledger.specs.declared.flights.Flight
pub use Rattle.jc_ledger.specs.Flights
pub use Rattle.jc_ledger.specs.Ledger
pub use Rattle.jc_ledger.specs.Once
pub use Rattle.jc_asks.specs.Readings
pub use Rattle.jc_asks.specs.Sends
pub use Rattle.jc_asks.specs.Steps
pub use Rattle.jc_ledger.specs.Syncs
