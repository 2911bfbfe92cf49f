pub mod Claimed
pub mod FootTexts
pub mod LinesOfFoot
