pub mod Fronts
pub mod Known
pub mod Named
pub mod Within
mod Both
