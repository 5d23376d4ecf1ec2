pub mod Openings
pub mod Readings
