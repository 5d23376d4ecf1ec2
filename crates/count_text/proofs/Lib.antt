pub mod Accepted
pub mod Columns
pub mod Decimals
pub mod Forms
pub mod LastDigits
pub mod Readers
