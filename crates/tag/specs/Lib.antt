pub mod Answers
pub mod Claims
pub mod Commands
pub mod Errors
pub mod Locks
