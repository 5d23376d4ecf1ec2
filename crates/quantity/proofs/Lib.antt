pub mod Quotients
pub mod Places
pub mod Lists
pub mod Same
