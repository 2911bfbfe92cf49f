pub mod Callers
pub mod Doables
pub mod Doing
