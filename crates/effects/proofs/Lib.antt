pub mod Claimed
pub mod Computed
pub mod Effects
pub mod Permalocked
pub mod Quiet
pub mod Secret
pub mod Twins
pub mod Writing
