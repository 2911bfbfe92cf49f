pub mod Claims
pub mod Itemised
pub mod Items
pub mod Sheet
pub mod Writing
