pub mod Terms
pub mod Held
