pub mod RequestLines
