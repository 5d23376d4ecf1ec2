pub mod Refusals
pub mod Rounding
pub mod Quantities
pub mod Series
