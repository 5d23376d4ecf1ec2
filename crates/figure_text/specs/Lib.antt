pub mod Figures
pub mod Forms
pub mod Rows
