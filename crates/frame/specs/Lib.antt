pub mod Bytes
pub mod Claims
pub mod Closing
pub mod Copying
pub mod Finding
pub mod Formats
pub mod Frames
pub mod Putting
