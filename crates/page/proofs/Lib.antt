pub mod Accepting
pub mod Beginnings
pub mod Claimed
pub mod Computed
pub mod Instances
pub mod Pages
pub mod Sampled
pub mod Sheets
