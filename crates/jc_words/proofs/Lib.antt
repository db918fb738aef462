mod Decimals
mod Fitting
mod Moments
mod Pairs
mod Reading
