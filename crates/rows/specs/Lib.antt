pub mod Claims
pub mod Columns
pub mod Rows
