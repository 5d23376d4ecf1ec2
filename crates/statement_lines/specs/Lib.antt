pub mod Openings
pub mod Records
pub mod Kinds
