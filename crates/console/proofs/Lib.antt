pub mod Placing
pub mod Printing
