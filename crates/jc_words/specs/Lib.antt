pub mod Values
pub mod Options
pub mod SaidOptions
pub mod Words
pub mod FitOrders
