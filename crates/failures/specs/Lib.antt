pub mod Claims
pub mod Listing
pub mod Lists
pub mod Machine
pub mod Records
pub mod Secrecy
