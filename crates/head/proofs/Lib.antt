pub mod Claimed
pub mod FilePuts
pub mod Heads
pub mod Taken
