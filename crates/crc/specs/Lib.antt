pub mod Claims
pub mod Crc
pub mod Shifts
pub mod Tables
