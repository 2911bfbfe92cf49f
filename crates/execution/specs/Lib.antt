pub mod Execution
pub mod Reach
