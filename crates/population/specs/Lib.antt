pub mod Below
pub mod Claims
pub mod Executing
pub mod Lowest
pub mod Matching
pub mod Places
pub mod Selections
