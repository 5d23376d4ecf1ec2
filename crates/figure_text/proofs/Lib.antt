pub mod Forms
pub mod Parts
pub mod Signs
pub mod Sizes
pub mod Wholes
pub mod Rows
