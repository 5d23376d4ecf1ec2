pub mod Checks
pub mod Same
pub mod Samples
pub mod Sums
