pub mod Claims
pub mod Image
pub mod Spans
