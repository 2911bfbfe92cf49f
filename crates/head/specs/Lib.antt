pub mod Claims
pub mod Commands
pub mod Files
pub mod Head
