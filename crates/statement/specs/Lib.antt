pub mod Turns
pub mod Reading
pub mod Statements
pub mod Drafts
