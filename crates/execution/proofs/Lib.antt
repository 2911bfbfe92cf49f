pub mod Acts
pub mod Callers
pub mod Executions
pub mod Pieces
pub mod ReachTests
pub mod Reaches
pub mod Rounds
pub mod Tails
