pub mod Acknowledged
pub mod Kept
pub mod Machines
pub mod Packed
pub mod Placed
