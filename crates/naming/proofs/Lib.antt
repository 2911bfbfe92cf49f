pub mod Choices
pub mod Claimed
pub mod ErrorTexts
pub mod Printed
pub mod Shown
pub mod Widths
