pub mod NumberedRows
pub mod Puts
pub mod Readers
