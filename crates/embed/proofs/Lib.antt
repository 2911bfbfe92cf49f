pub mod Acknowledging
pub mod Keeping
pub mod Machines
pub mod Packing
pub mod Placing
