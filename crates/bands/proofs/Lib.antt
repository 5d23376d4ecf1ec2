pub mod Distances
pub mod Extremes
