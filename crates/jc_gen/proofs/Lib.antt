pub mod Commands
mod Fit
mod Rows
