pub mod Claims
pub mod Lent
pub mod Machine
pub mod Secrecy
pub mod Starred
