pub mod Claims
pub mod Lines
pub mod Pieces
pub mod Report
pub mod Writing
