pub mod Requests
pub mod Fields
