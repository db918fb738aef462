pub mod RequestKinds
pub mod Work
pub mod Bounded
pub mod Fitting
pub mod Order
pub mod Final
pub mod KeptEnds
pub mod Histories
