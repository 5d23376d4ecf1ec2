pub mod Fits
pub mod Turns
pub mod Reading
pub mod Drafts
pub mod Statements
pub mod Writing
