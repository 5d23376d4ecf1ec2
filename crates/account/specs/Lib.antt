pub mod Changes
pub mod Accounts
pub mod Histories
