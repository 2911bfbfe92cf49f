pub mod Claims
pub mod Counts
pub mod Digits
pub mod Laying
pub mod Telling
pub mod Words
pub mod Writing
