pub mod Claims
pub mod Ending
pub mod Foot
