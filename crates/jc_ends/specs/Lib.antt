pub mod Podless
